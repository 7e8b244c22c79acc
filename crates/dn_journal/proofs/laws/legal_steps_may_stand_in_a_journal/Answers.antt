use Rattle.dn_journal.proofs.Legal.{legal_steps}
use Rattle.dn_journal.proofs.laws.legal_steps_may_stand_in_a_journal.Goals as goal

pub returns : goal.returns
returns g c = λ net steps rules legal. legal_steps net steps rules.groups.0 legal
