use Rattle.std.proofs.Common.{◌≡◌, ◌++◌, length}
use Rattle.dn_model.specs.Cases.{AreRouters}
use Rattle.dn_case.proofs.known_header.known_routers.Given as goal

abbrev pub invariant-routers : goal.invariant-routers
invariant-routers l = record {
  whole : l.known ++ l.left ≡ l.routers;
  are : AreRouters l.known l.left;
}

abbrev pub decreases-routers : goal.decreases-routers
decreases-routers l = length l.left
