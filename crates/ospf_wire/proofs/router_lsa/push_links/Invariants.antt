use Rattle.std.proofs.Common.{◌≡◌, ◌++◌, take}
use Rattle.std.specs.Prelude.{All}
use Rattle.ospf_wire.specs.RouterLsas.{links_bytes, FitsLink}
use Rattle.ospf_wire.proofs.router_lsa.push_links.Given as goal

abbrev pub invariant-loop-link : goal.invariant-loop-link
invariant-loop-link l = (l.out.items ≡ l.fn.out.items ++ links_bytes (take l.link-index l.links)) × All FitsLink (take l.link-index l.links)
