use Rattle.std.proofs.Common.{arith}
use Rattle.dn_model.specs.Network.{external, tick}
use Rattle.dn_world.specs.World.{key_of}
use Rattle.dn_world.proofs.Past.{past_on, tick_first, group_first, external_first}
use Rattle.dn_world.proofs.laws.new_keys.Goals as goal

pub returns-clause-tick : goal.returns-clause-tick
returns-clause-tick c = λ bound group r p. past_on bound (key_of group 0) (tick group r).key p (tick_first group r)

pub returns-clause-external : goal.returns-clause-external
returns-clause-external c = λ bound place x p. past_on bound (key_of x.group 1) (external place x).key p (external_first x.group place x (omega arith))

pub returns-clause-next_group : goal.returns-clause-next_group
returns-clause-next_group c = λ bound floor group h p. past_on bound (key_of floor 1) (key_of group 0) p (group_first (key_of floor 1) (key_of group 0) h)
