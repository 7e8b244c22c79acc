use Rattle.std.proofs.Common.{◌≡◌, ◌++◌, take}
use Rattle.std.specs.Prelude.{All}
use Rattle.dn_guest.specs.KeepsFront.{KeepsFront}
use Rattle.rip_wire.specs.Entries.{entries_bytes, FitsEntry}
use Rattle.rip_wire.proofs.entries.push_entries.Given as goal

abbrev pub invariant-loop-entry : goal.invariant-loop-entry
invariant-loop-entry l = record {
  text : l.out ≡ l.fn.out ++ entries_bytes (take l.entry-index l.entries);
  fit : All FitsEntry (take l.entry-index l.entries);
  kept : KeepsFront l.fn.out l.out;
}
