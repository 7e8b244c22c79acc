use Rattle.dn_world.proofs.Feeding.{fed_alone, injects_fed}
use Rattle.dn_world.proofs.laws.fed_alone.Goals as goal

pub returns-clause-floor : goal.returns-clause-floor
returns-clause-floor g c = λ net w steps. (fed_alone net w steps).floor

pub returns-clause-closed : goal.returns-clause-closed
returns-clause-closed g c = λ net w steps. (fed_alone net w steps).closed

pub returns-clause-accepted : goal.returns-clause-accepted
returns-clause-accepted g c = λ net w steps. (fed_alone net w steps).accepted

pub returns-clause-injects : goal.returns-clause-injects
returns-clause-injects g c = λ steps. injects_fed steps
