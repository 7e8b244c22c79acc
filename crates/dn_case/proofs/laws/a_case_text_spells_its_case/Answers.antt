use Rattle.dn_case.proofs.SpelledCases.{as_spelled, as_begun}
use Rattle.dn_case.proofs.laws.a_case_text_spells_its_case.Goals as goal

pub returns-clause-lines : goal.returns-clause-lines
returns-clause-lines c = as_spelled

pub returns-clause-front : goal.returns-clause-front
returns-clause-front c = as_begun
