use Rattle.dn_model.proofs.EventOrder.{keys_rise}
use Rattle.dn_world.proofs.Past.{past_on, past_same, past_trans}
use Rattle.dn_world.proofs.laws.keys_past.Goals as goal

pub returns-clause-itself : goal.returns-clause-itself
returns-clause-itself c = λ a. past_same a

pub returns-clause-onward : goal.returns-clause-onward
returns-clause-onward c = λ x y z p q. past_trans x y z p q

pub returns-clause-later : goal.returns-clause-later
returns-clause-later c = λ x y h. past_on x.key x.key y.key (past_same x.key) (keys_rise x y h)
