use Rattle.std.proofs.Common.{◌≡◌, ◌-◌}
use Rattle.ospf_wire.specs.Reading.{lsas_at}
use Rattle.ospf_wire.proofs.Fronts.{with_front}
use Rattle.ospf_wire.proofs.link_state_update.read_lsas.Given as goal

abbrev pub invariant-loop-place : goal.invariant-loop-place
invariant-loop-place l = with_front l.lsas.items (lsas_at (l.count - l.place) l.rest) ≡ lsas_at l.count l.bytes
