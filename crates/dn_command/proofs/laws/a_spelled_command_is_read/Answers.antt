use Rattle.dn_command.proofs.Spelled.{spelled_again}
use Rattle.dn_command.proofs.laws.a_spelled_command_is_read.Goals as goal

pub returns : goal.returns
returns c = spelled_again
