use Rattle.std.proofs.Common.{◌≡◌, ◌++◌, ◌<◌, length}
use Rattle.std.specs.List.{flat_map, AllByRecursion}
use Rattle.dn_guest.specs.KeepsFront.{KeepsFront}
use Rattle.dn_case.specs.Spelling.{IsFromOutside, spelled, external_line}
use Rattle.dn_case.proofs.write.push_externals.Given as goal

abbrev pub invariant-externals : goal.invariant-externals
invariant-externals l = record {
  text : l.out ++ flat_map (λ x. spelled (external_line l.routers x)) l.left ≡ l.fn.out ++ flat_map (λ x. spelled (external_line l.routers x)) l.feed;
  kept : KeepsFront l.fn.out l.out;
  all : AllByRecursion (λ x. (x.router < length l.routers) × IsFromOutside x.input) l.left;
}

abbrev pub decreases-externals : goal.decreases-externals
decreases-externals l = length l.left
