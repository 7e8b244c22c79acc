use Rattle.std.proofs.Common.{List, ℕ, ◌∷◌, [], subst}
use Rattle.std.specs.Prelude.{All}
use Rattle.std.proofs.lemmas.Result.{on_ok_weaker}
use Rattle.dn_guest.specs.KeepsFront.{KeepsFront}
use Rattle.rip_wire.specs.declared.entry.Entry.{Entry}
use Rattle.rip_wire.specs.Entries.{FitsEntry}
use Rattle.rip_wire.proofs.Kept.{keeps_behind}
use Rattle.rip_wire.proofs.MessageLaws.{message_written}
use Rattle.rip_wire.proofs.message.encode.Goals as goal

pub returns-clause-back : goal.returns-clause-back
returns-clause-back c =
    on_ok_weaker c.push_entries.result
    (λ fits. message_written c.args.message.now (subst (λ (es : List Entry). All FitsEntry es) c.as_slice.ensures fits) c.requires)
    c.push_entries.ensures.fits

pub returns-clause-kept : goal.returns-clause-kept
returns-clause-kept c =
    keeps_behind c.args.out.now (c.args.message.now.command ∷ 2 ∷ 0 ∷ 0 ∷ []) c.push_entries.new.out
    (subst (λ (front : List ℕ). KeepsFront front c.push_entries.new.out) c.in_ok-append.ensures.ok c.push_entries.ensures.kept)
