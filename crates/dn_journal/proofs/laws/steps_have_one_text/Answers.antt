use Rattle.dn_journal.proofs.TextLaws.{one_text}
use Rattle.dn_journal.proofs.laws.steps_have_one_text.Goals as goal

pub returns : goal.returns
returns c = one_text
