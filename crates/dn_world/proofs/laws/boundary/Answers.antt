use Rattle.dn_model.specs.Network.{routers}
use Rattle.dn_world.specs.World.{opening}
use Rattle.dn_world.specs.Runs.{world}
use Rattle.dn_world.proofs.Balance.{counted}
use Rattle.dn_world.proofs.Past.{boundary_kept, horizon_rises, roll_back_past}
use Rattle.dn_world.proofs.Sound.{opening_counted, opening_past, run_counted, run_past}
use Rattle.dn_world.proofs.laws.boundary.Goals as goal

pub returns-clause-opening : goal.returns-clause-opening
returns-clause-opening g c = λ net. opening_past net

pub returns-clause-step : goal.returns-clause-step
returns-clause-step g c = λ net w s t h b p. boundary_kept net t w s h (counted net w b).rises p

pub returns-clause-step_horizon : goal.returns-clause-step_horizon
returns-clause-step_horizon g c = λ net w s t h b. horizon_rises net t w s h (counted net w b).rises

pub returns-clause-step_taken_off : goal.returns-clause-step_taken_off
returns-clause-step_taken_off g c = λ net w r h b p. roll_back_past net w r h (counted net w b).rises p

pub returns-clause-run : goal.returns-clause-run
returns-clause-run g c = λ net steps t l. run_past net t (opening (routers net)) (opening_counted net) (opening_past net) steps l

pub returns-clause-run_horizon : goal.returns-clause-run_horizon
returns-clause-run_horizon g c = λ net steps s t l h. horizon_rises net t (world net steps) s h (run_counted net (opening (routers net)) (opening_counted net) steps l).rises

pub returns-clause-run_taken_off : goal.returns-clause-run_taken_off
returns-clause-run_taken_off g c =
    λ net steps r t l h.
    roll_back_past net (world net steps) r h (run_counted net (opening (routers net)) (opening_counted net) steps l).rises
    (run_past net t (opening (routers net)) (opening_counted net) (opening_past net) steps l)
