use Rattle.dn_command.proofs.Both.{just_what_it_asks_for}
use Rattle.dn_command.proofs.laws.a_line_is_read_as_what_it_asks_for.Goals as goal

pub returns : goal.returns
returns c = just_what_it_asks_for
