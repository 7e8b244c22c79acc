use Rattle.dn_model.specs.Network.{routers}
use Rattle.dn_world.specs.World.{opening}
use Rattle.dn_world.proofs.Sound.{world_sound}
use Rattle.dn_world.proofs.Onward.{accepted_are, legal_more, world_more, own_case, whole_case}
use Rattle.dn_world.proofs.laws.runs.Goals as goal

pub returns-clause-accepted : goal.returns-clause-accepted
returns-clause-accepted g c = λ net steps. accepted_are net steps

pub returns-clause-legal : goal.returns-clause-legal
returns-clause-legal g c = λ net steps s l h. legal_more net (opening (routers net)) steps s l h

pub returns-clause-world : goal.returns-clause-world
returns-clause-world g c = λ net steps s. world_more net (opening (routers net)) steps s

pub returns-clause-accepted_case : goal.returns-clause-accepted_case
returns-clause-accepted_case g c = λ net steps p l. (world_sound net p steps l).accepted

pub returns-clause-own_case : goal.returns-clause-own_case
returns-clause-own_case g c = λ w. own_case w

pub returns-clause-whole_case : goal.returns-clause-whole_case
returns-clause-whole_case g c = λ net feed steps l closed. whole_case net feed steps l closed
