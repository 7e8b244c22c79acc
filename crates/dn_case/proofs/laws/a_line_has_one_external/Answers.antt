use Rattle.dn_case.proofs.ExternalLines.{one_external}
use Rattle.dn_case.proofs.laws.a_line_has_one_external.Goals as goal

pub returns : goal.returns
returns c = one_external
