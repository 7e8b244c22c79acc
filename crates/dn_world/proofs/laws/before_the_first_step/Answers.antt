use Rattle.dn_world.proofs.Opened.{nothing_settled, nothing_committed, nothing_cut}
use Rattle.dn_world.proofs.laws.before_the_first_step.Goals as goal

pub returns-clause-rows : goal.returns-clause-rows
returns-clause-rows g c = λ net. nothing_settled net

pub returns-clause-committed : goal.returns-clause-committed
returns-clause-committed g c = λ net. nothing_committed net

pub returns-clause-uncut : goal.returns-clause-uncut
returns-clause-uncut g c = λ net. nothing_cut net
