use Rattle.std.proofs.Common.{◌≡◌, ◌++◌, ◌<◌, length}
use Rattle.std.specs.List.{flat_map, AllByRecursion}
use Rattle.dn_guest.specs.KeepsFront.{KeepsFront}
use Rattle.dn_case.specs.Spelling.{spelled, link_line}
use Rattle.dn_case.proofs.write.push_links.Given as goal

abbrev pub invariant-links : goal.invariant-links
invariant-links l = record {
  text : l.out ++ flat_map (λ x. spelled (link_line l.routers x)) l.left ≡ l.fn.out ++ flat_map (λ x. spelled (link_line l.routers x)) l.links;
  kept : KeepsFront l.fn.out l.out;
  all : AllByRecursion (λ x. (x.a < length l.routers) × (x.b < length l.routers)) l.left;
}

abbrev pub decreases-links : goal.decreases-links
decreases-links l = length l.left
