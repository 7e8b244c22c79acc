use Rattle.dn_journal.proofs.TextLaws.{lines_joined}
use Rattle.dn_journal.proofs.laws.lines_are_the_text.Goals as goal

pub returns : goal.returns
returns c = lines_joined
