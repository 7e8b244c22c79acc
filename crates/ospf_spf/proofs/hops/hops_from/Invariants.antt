use Rattle.std.proofs.Common.{take, ◌≤◌}
use Rattle.std.specs.List.{All}
use Rattle.ospf_spf.specs.Hops.{AreRow}
use Rattle.ospf_spf.proofs.hops.hops_from.Given as goal

abbrev pub invariant-loop-link : goal.invariant-loop-link
invariant-loop-link l = record {
  row : AreRow l.from l.ids l.ways (take l.link-index l.links) l.hops.items;
  small : All (λ h. h.metric ≤ 65535) l.hops.items;
}
