use Rattle.std.proofs.Common.{◌≡◌, ◌*◌, [], ◌∷◌, ◌++◌, drop, ap, ◌∙◌}
use Rattle.rip_wire.specs.declared.entry.Entry.{Entry}
use Rattle.rip_wire.specs.Reading.{entry_at, entries_at}
use Rattle.rip_wire.proofs.EntryLaws.{entries_more}
use Rattle.rip_wire.proofs.entries.read_entries.Goals as goal

pub loop-place-preserved : goal.loop-place-preserved
loop-place-preserved c =
    let bytes = c.args.bytes.now in
    let i = c.loop-place.place in
    let front = c.loop-place.entries.items in
    let items : c.push.new.self.items ≡ front ++ c.read_entry.result ∷ [] = c.in_ok-push.ensures.items in
    let read : c.push.new.self.items ≡ front ++ entry_at (drop (20 * i) bytes) ∷ [] = items ∙ ap (λ (e : Entry). front ++ e ∷ []) (c.read_entry.ensures ∙ ap entry_at c.bytes_from.ensures) in
    rw read (entries_more c.args.count i bytes front (entries_at c.args.count bytes) c.loop-place-test.true c.loop-place.invariant)
