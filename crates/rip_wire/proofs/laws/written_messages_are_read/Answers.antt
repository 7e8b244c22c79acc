use Rattle.rip_wire.specs.Messages.{message_bytes}
use Rattle.rip_wire.proofs.MessageLaws.{message_again, message_written}
use Rattle.rip_wire.proofs.ReadBack.{message_in_bytes}
use Rattle.rip_wire.proofs.laws.written_messages_are_read.Goals as goal

pub returns-clause-read : goal.returns-clause-read
returns-clause-read c = λ m encodable fit. message_again (message_bytes m) m (message_written m fit encodable)

pub returns-clause-bytes : goal.returns-clause-bytes
returns-clause-bytes c = message_in_bytes
