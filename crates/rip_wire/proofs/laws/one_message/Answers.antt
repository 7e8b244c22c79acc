use Rattle.rip_wire.proofs.MessageLaws.{one_message}
use Rattle.rip_wire.proofs.laws.one_message.Goals as goal

pub returns : goal.returns
returns c = one_message
