use Rattle.std.proofs.Common.{◌≡◌, ◌-◌, ◌*◌, ◌++◌, drop}
use Rattle.rip_wire.specs.Reading.{entries_at}
use Rattle.rip_wire.proofs.entries.read_entries.Given as goal

abbrev pub invariant-loop-place : goal.invariant-loop-place
invariant-loop-place l = l.entries.items ++ entries_at (l.count - l.place) (drop (20 * l.place) l.bytes) ≡ entries_at l.count l.bytes
