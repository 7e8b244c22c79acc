use Rattle.dn_journal.proofs.TextLaws.{journal_again}
use Rattle.dn_journal.proofs.laws.a_written_journal_is_read.Goals as goal

pub returns : goal.returns
returns c = journal_again
