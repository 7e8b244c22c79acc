use Rattle.dn_case.proofs.CaseAgain.{lines_taken}
use Rattle.dn_case.proofs.Fronts.{front_taken}
use Rattle.dn_case.proofs.laws.prefix_lines_may_be_interleaved.Goals as goal

pub returns-clause-lines : goal.returns-clause-lines
returns-clause-lines c = lines_taken

pub returns-clause-front : goal.returns-clause-front
returns-clause-front c = front_taken
