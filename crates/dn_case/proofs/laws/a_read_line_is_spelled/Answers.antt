use Rattle.dn_case.proofs.ReadLines.{read_spelled}
use Rattle.dn_case.proofs.laws.a_read_line_is_spelled.Goals as goal

pub returns : goal.returns
returns c = read_spelled
