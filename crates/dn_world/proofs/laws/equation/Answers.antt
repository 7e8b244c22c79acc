use Rattle.dn_model.specs.Network.{routers}
use Rattle.dn_world.specs.World.{opening}
use Rattle.dn_world.specs.Runs.{world}
use Rattle.dn_world.specs.Steps.{after}
use Rattle.dn_world.proofs.Balance.{counted, balanced, step_counted}
use Rattle.dn_world.proofs.Sound.{opening_counted, run_counted}
use Rattle.dn_world.proofs.laws.equation.Goals as goal

pub returns-clause-opening : goal.returns-clause-opening
returns-clause-opening g c = λ net. balanced net (opening (routers net)) (opening_counted net)

pub returns-clause-step : goal.returns-clause-step
returns-clause-step g c = λ net w s h b. balanced net (after net w s) (step_counted net w s h (counted net w b))

pub returns-clause-run : goal.returns-clause-run
returns-clause-run g c = λ net steps l. balanced net (world net steps) (run_counted net (opening (routers net)) (opening_counted net) steps l)
