use Rattle.std.proofs.Common.{◌≡◌, ◌+◌, ◌-◌, ◌≤◌, length, take, drop, sym, ap, List, ℕ, Some, arith}
use Rattle.std.proofs.lemmas.List.{length-append}
use Rattle.dn_io.proofs.StreamLaws.{piece-and-rest, length-piece}
use Rattle.dn_io.proofs.memory.MemSourceSource.read.Goals as goal

pub returns-clause-bytes : goal.returns-clause-bytes
returns-clause-bytes c =
    let bytes = c.self.inside.bytes.items in
    let at = c.self.inside.at in
    let n = c.min-count.result in
    let rest = drop n c.args.into.now in
    let fits : at + n ≤ length bytes = omega (arith, c.self.inside.bytes.ok.0) in
    let part : c.copy_from_slice.new.self ≡ take (at + n - at) (drop at bytes) = rw c.deref-2.ensures.value at c.copy_from_slice.ensures.after in
    let long : length c.copy_from_slice.new.self ≡ n = rw part (length-piece bytes at n fits) in
    (omega arith, simp length-append (omega arith), rw (← c.self.view_is, part) (ap (λ (l : List ℕ). Some l) (sym (piece-and-rest bytes rest at n fits))))
