use Rattle.dn_journal.proofs.JournalLaws.{one_journal}
use Rattle.dn_journal.proofs.laws.a_text_has_one_journal.Goals as goal

pub returns : goal.returns
returns c = one_journal
