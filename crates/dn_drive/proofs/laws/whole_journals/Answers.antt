use Rattle.dn_world.specs.World.{horizon}
use Rattle.dn_world.specs.Runs.{world}
use Rattle.dn_drive.proofs.Journals.{whole_legal, whole_all, whole_quiet, whole_no_more}
use Rattle.dn_drive.proofs.laws.whole_journals.Goals as goal

pub returns-clause-legal : goal.returns-clause-legal
returns-clause-legal g c = λ net feed steps is. whole_legal net feed steps is (λ x y h. c.order_of_events.ensures.inputs_apart x y h)

pub returns-clause-all : goal.returns-clause-all
returns-clause-all g c = λ net feed steps is. whole_all net feed steps is (λ x y h. c.order_of_events.ensures.inputs_apart x y h)

pub returns-clause-quiet : goal.returns-clause-quiet
returns-clause-quiet g c = λ net feed steps is. whole_quiet net feed steps is

pub returns-clause-committed : goal.returns-clause-committed
returns-clause-committed g c = λ net feed steps t is.
    let w = world net steps in
    let past = c.boundary.ensures.run net steps t (whole_legal net feed steps is (λ x y h. c.order_of_events.ensures.inputs_apart x y h)).legal in
    c.horizon.ensures.only w.boundary (horizon net.header w) (c.horizon.ensures.greatest net w w.boundary past) (whole_no_more net feed steps is)
