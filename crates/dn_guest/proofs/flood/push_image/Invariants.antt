use Rattle.std.proofs.Common.{◌≡◌, ◌++◌, ◌∷◌, length}
use Rattle.std.specs.List.{flat_map, AllByRecursion}
use Rattle.dn_guest.specs.Flood.{flood_image, IsBody}
use Rattle.dn_guest.specs.KeepsFront.{KeepsFront}
use Rattle.dn_guest.proofs.flood.push_image.Given as goal

abbrev pub invariant-loop-body : goal.invariant-loop-body
invariant-loop-body l = record {
  text : l.out ++ flat_map (λ body. length body ∷ body) l.body-iterator ≡ l.fn.out ++ flood_image l.bodies.keys;
  kept : KeepsFront l.fn.out l.out;
  each : AllByRecursion IsBody l.body-iterator;
}
