use Rattle.std.proofs.Common.{◌≡◌, ◌++◌, take}
use Rattle.std.specs.List.{flat_map}
use Rattle.dn_guest.specs.KeepsFront.{KeepsFront}
use Rattle.dn_case.specs.Spelling.{spelled, router_line}
use Rattle.dn_case.proofs.write.push_routers.Given as goal

abbrev pub invariant-loop-router : goal.invariant-loop-router
invariant-loop-router l = record {
  text : l.out ≡ l.fn.out ++ flat_map (λ r. spelled (router_line r)) (take l.router-index l.routers);
  kept : KeepsFront l.fn.out l.out;
}
