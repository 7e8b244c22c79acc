use Rattle.dn_model.specs.Network.{routers}
use Rattle.dn_world.specs.World.{opening}
use Rattle.dn_drive.proofs.Journals.{front_begins, taken_legal, taken_cut}
use Rattle.dn_drive.proofs.laws.taken_steps.Goals as goal

pub returns-clause-front : goal.returns-clause-front
returns-clause-front g c = λ net feed steps. front_begins net (opening (routers net)) feed steps

pub returns-clause-legal : goal.returns-clause-legal
returns-clause-legal g c = λ net feed steps. taken_legal net feed steps (λ x y h. c.order_of_events.ensures.inputs_apart x y h)

pub returns-clause-cut : goal.returns-clause-cut
returns-clause-cut g c = λ net feed steps is. taken_cut net feed steps is
