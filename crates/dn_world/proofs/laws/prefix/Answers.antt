use Rattle.dn_world.specs.Runs.{world}
use Rattle.dn_world.proofs.Sound.{world_sound}
use Rattle.dn_world.proofs.Prefix.{committed_front, committed_at_front, committed_state_is, cut_off_is_cut, cut_committed}
use Rattle.dn_world.proofs.laws.prefix.Goals as goal

pub returns-clause-rows : goal.returns-clause-rows
returns-clause-rows g c = λ net feed steps p fed l goes. committed_front net feed p fed (world net steps) (world_sound net p steps l) goes

pub returns-clause-of_router : goal.returns-clause-of_router
returns-clause-of_router g c = λ net feed steps r p fed l goes inside. committed_at_front net feed p fed (world net steps) (world_sound net p steps l) goes r inside

pub returns-clause-state : goal.returns-clause-state
returns-clause-state g c = λ net feed steps r p fed l goes inside. committed_state_is net feed p fed (world net steps) (world_sound net p steps l) goes r inside

pub returns-clause-cut : goal.returns-clause-cut
returns-clause-cut g c = λ net feed steps p fed l goes cut. cut_off_is_cut net feed p fed (world net steps) (world_sound net p steps l) goes cut

pub returns-clause-cut_rows : goal.returns-clause-cut_rows
returns-clause-cut_rows g c = λ net feed steps p fed l goes cut. cut_committed net feed p fed (world net steps) (world_sound net p steps l) goes cut
