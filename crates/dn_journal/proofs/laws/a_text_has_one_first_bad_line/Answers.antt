use Rattle.dn_journal.proofs.JournalLaws.{one_first_bad}
use Rattle.dn_journal.proofs.laws.a_text_has_one_first_bad_line.Goals as goal

pub returns : goal.returns
returns c = one_first_bad
