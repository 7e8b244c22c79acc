use Rattle.dn_case.proofs.CaseAgain.{lines_again}
use Rattle.dn_case.proofs.Fronts.{text_again}
use Rattle.dn_case.proofs.laws.a_written_case_is_read.Goals as goal

pub returns-clause-lines : goal.returns-clause-lines
returns-clause-lines c = lines_again

pub returns-clause-front : goal.returns-clause-front
returns-clause-front c = text_again
