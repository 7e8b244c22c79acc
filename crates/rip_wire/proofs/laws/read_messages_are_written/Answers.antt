use Rattle.rip_wire.proofs.MessageLaws.{message_takes}
use Rattle.rip_wire.proofs.ReadBack.{message_again_written}
use Rattle.rip_wire.proofs.laws.read_messages_are_written.Goals as goal

pub returns : goal.returns
returns c = λ bytes m all read. message_again_written bytes m all (message_takes bytes m read)
