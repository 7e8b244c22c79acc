use Rattle.std.specs.Prelude.{drop, ◌<◌, ◌^◌, ℕ}
use Rattle.std.proofs.lemmas.List.Elements.{All-drop}
use Rattle.rip_wire.proofs.MessageLaws.{message_takes}
use Rattle.rip_wire.proofs.ReadBack.{entries_fit}
use Rattle.rip_wire.proofs.laws.read_messages_fit.Goals as goal

pub returns-clause-encodable : goal.returns-clause-encodable
returns-clause-encodable c = λ bytes m read. (message_takes bytes m read).encodable

pub returns-clause-entries : goal.returns-clause-entries
returns-clause-entries c =
    λ bytes m all read.
    entries_fit m.entries (drop 4 bytes) (All-drop (λ (b : ℕ). b < 2 ^ 8) 4 bytes all) (message_takes bytes m read).entries
