use Rattle.std.proofs.lemmas.Result.{IfOk-weaker}
use Rattle.rip_wire.proofs.MessageLaws.{is_found, is_none, is_read, is_encodable}
use Rattle.rip_wire.proofs.message.decode.Goals as goal

pub returns-clause-found : goal.returns-clause-found
returns-clause-found c = IfOk-weaker c.read_message.result _ _ (is_found c.args.bytes.now) c.read_message.ensures

pub returns-clause-none : goal.returns-clause-none
returns-clause-none c = IfOk-weaker c.read_message.result _ _ (is_none c.args.bytes.now) c.read_message.ensures

pub returns-clause-read : goal.returns-clause-read
returns-clause-read c = IfOk-weaker c.read_message.result _ _ (is_read c.args.bytes.now) c.read_message.ensures

pub returns-clause-encodable : goal.returns-clause-encodable
returns-clause-encodable c = IfOk-weaker c.read_message.result _ _ (is_encodable c.args.bytes.now) c.read_message.ensures
