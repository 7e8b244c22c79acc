use Rattle.dn_case.proofs.OneCase.{one_first_bad}
use Rattle.dn_case.proofs.laws.a_text_has_one_first_bad_line.Goals as goal

pub returns : goal.returns
returns c = one_first_bad
