use Rattle.std.proofs.Common.{◌≡◌, map, take}
use Rattle.rip_guest.specs.Requests.{answered_entry}
use Rattle.rip_guest.proofs.requests.answered_entries.Given as goal

abbrev pub invariant-loop-entry : goal.invariant-loop-entry
invariant-loop-entry l = l.made.items ≡ map (answered_entry l.table) (take l.entry-index l.entries)
