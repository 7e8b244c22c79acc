use Rattle.rip_wire.proofs.MessageLaws.{message_takes, message_again}
use Rattle.rip_wire.proofs.laws.messages_are_read.Goals as goal

pub returns : goal.returns
returns c = λ bytes m. (message_takes bytes m, message_again bytes m)
