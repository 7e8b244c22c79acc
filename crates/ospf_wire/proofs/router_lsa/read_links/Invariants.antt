use Rattle.std.proofs.Common.{◌≡◌, ◌-◌}
use Rattle.ospf_wire.specs.Reading.{links_at}
use Rattle.ospf_wire.proofs.Fronts.{with_front}
use Rattle.ospf_wire.proofs.router_lsa.read_links.Given as goal

abbrev pub invariant-loop-place : goal.invariant-loop-place
invariant-loop-place l = with_front l.links.items (links_at (l.count - l.place) l.rest) ≡ links_at l.count l.bytes
