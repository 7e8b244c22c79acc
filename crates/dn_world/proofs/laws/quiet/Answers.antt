use Rattle.dn_world.specs.Runs.{world}
use Rattle.dn_world.proofs.Sound.{world_sound}
use Rattle.dn_world.proofs.Quiet.{no_voids, quiet_lockstep, quiet_committed, quiet_cut}
use Rattle.dn_world.proofs.laws.quiet.Goals as goal

pub returns-clause-voids : goal.returns-clause-voids
returns-clause-voids g c = λ net steps r p l q inside. no_voids net p (world net steps) (world_sound net p steps l) q r inside

pub returns-clause-done : goal.returns-clause-done
returns-clause-done g c = λ net steps r p l q inside. quiet_lockstep net p (world net steps) (world_sound net p steps l) q r inside

pub returns-clause-rows : goal.returns-clause-rows
returns-clause-rows g c = λ net steps p l q e. quiet_committed net p (world net steps) (world_sound net p steps l) q e

pub returns-clause-cut : goal.returns-clause-cut
returns-clause-cut g c = λ net steps p l q e. quiet_cut net p (world net steps) (world_sound net p steps l) q e
