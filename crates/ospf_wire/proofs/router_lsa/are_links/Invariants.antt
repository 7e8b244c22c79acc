use Rattle.std.proofs.Common.{◌≡◌, ◌-◌}
use Rattle.ospf_wire.specs.Reading.{are_links}
use Rattle.ospf_wire.proofs.router_lsa.are_links.Given as goal

abbrev pub invariant-loop-place : goal.invariant-loop-place
invariant-loop-place l = are_links (l.count - l.place) l.rest ≡ are_links l.count l.bytes
