use Rattle.dn_world.proofs.Unsent.{no_unsent, all_sent_as_often}
use Rattle.dn_world.proofs.laws.unsent.Goals as goal

pub returns-clause-sent : goal.returns-clause-sent
returns-clause-sent g c = λ net steps e p l message. no_unsent net p steps l e message

pub returns-clause-sent_uncut : goal.returns-clause-sent_uncut
returns-clause-sent_uncut g c = λ net steps e p l message uncut some. all_sent_as_often net p steps l e message uncut some
