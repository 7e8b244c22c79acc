-- Lines that were answered.
use Rattle.std.proofs.Common.{◌≡◌, ℕ, List, [], ◌++◌, Option, Some, None, Ok, Err, refl, sym, ap, ◌∙◌, subst}
use Rattle.dn_io.specs.Streams.{behind, PutsFront}
use Rattle.dn_model.specs.declared.event.Event.{Event}
use Rattle.dn_model.specs.declared.feed.External.{External}
use Rattle.dn_model.specs.Network.{Network}
use Rattle.dn_lockstep.specs.Running.{Running}
use Rattle.dn_trace.specs.declared.write.WriteError.{WriteError}
use Rattle.dn_trace.specs.declared.write.WriteError.TheVariants.{Fault}
use Rattle.dn_probe.specs.Meaning.{Watch}
use Rattle.dn_command.specs.declared.command.Command.{Command}
use Rattle.dn_command.specs.Commands.{command_of}
use Rattle.dn_debug.specs.declared.session.Told.{Told}
use Rattle.dn_debug.specs.declared.session.Told.TheVariants.{Go}
use Rattle.dn_debug.specs.Lines.{unknown_line}
use Rattle.dn_debug.specs.Situations.{Situation, Sitting, IsAt, situation_of}
use Rattle.dn_debug.specs.Transcript.{AnswersTo, Replies, unknown, told_by}
use Rattle.dn_debug.specs.Replying.{HasAnswered, HasReplied, AnswersLine, Outcome}

module _ {S : Type 0} (net : Network S) (feed : List External) where
  pub unknown_replied : (s : Situation) (line : List ℕ) (engine : Running S) (latest : List Event) (before now : List ℕ) → IsAt net feed engine latest → command_of net.header.routers line ≡ None → now ≡ before ++ unknown_line → HasReplied net feed s line Go engine latest s before now
  unfolding Replies
  unknown_replied s line engine latest before now is none text = record {
    at = is;
    answer = unknown s;
    replies = subst (λ (o : Option Command). AnswersTo net feed s o (unknown s)) (sym none) refl;
    left = refl;
    text = text;
    goes = ap told_by (sym none);
  }

  pub command_replied : (s : Situation) (line : List ℕ) (told : Told) (c : Command) (engine : Running S) (latest : List Event) (new : Situation) (before now : List ℕ) → command_of net.header.routers line ≡ Some c → told ≡ told_by (Some c) → HasAnswered net feed s c engine latest new before now → HasReplied net feed s line told engine latest new before now
  unfolding Replies
  command_replied s line told c engine latest new before now some goes so = record {
    at = so.at;
    answer = so.answer;
    replies = subst (λ (o : Option Command). AnswersTo net feed s o so.answer) (sym some) so.answers;
    left = so.left;
    text = so.text;
    goes = goes ∙ ap told_by (sym some);
  }

  module _ {X : Type 0} (watcher : X → Watch) (old new : Sitting S X) (line : List ℕ) where
    answers_line : (told : Told) (now : List ℕ) (P : List ℕ → Type 0) → HasReplied net feed (situation_of watcher old) line told new.engine new.latest (situation_of watcher new) [] now → P now → AnswersLine net feed watcher old line new P
    answers_line told now P so holds = record { sits = so.at; answer = so.answer; replies = so.replies; left = so.left; holds = subst P so.text holds }

    pub put_all : (told : Told) (now : List ℕ) (held holds : Option (List ℕ)) → HasReplied net feed (situation_of watcher old) line told new.engine new.latest (situation_of watcher new) [] now → holds ≡ behind held now → Outcome net feed watcher old line (Ok told) new held holds
    put_all told now held holds so put = (answers_line told now (λ text. holds ≡ behind held text) so put, so.goes)

    pub put_front : (told : Told) (now : List ℕ) (held holds : Option (List ℕ)) (error : WriteError) → error ≡ Fault → HasReplied net feed (situation_of watcher old) line told new.engine new.latest (situation_of watcher new) [] now → PutsFront held holds now → Outcome net feed watcher old line (Err error) new held holds
    put_front told now held holds error is so put =
        subst (λ (e : WriteError). Outcome net feed watcher old line (Err e) new held holds) (sym is) (answers_line told now (λ text. PutsFront held holds text) so put)
