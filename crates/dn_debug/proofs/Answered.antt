-- Commands that were answered.
use Rattle.std.proofs.Common.{◌≡◌, ℕ, ◌+◌, true, false, List, [], ◌∷◌, ◌++◌, length, append-nil, refl, sym, ap, ◌∙◌, subst}
use Rattle.circular_buffer.specs.Buffer.{keep_last}
use Rattle.dn_guest.specs.Meaning.{Meaning}
use Rattle.dn_model.specs.declared.event.Event.{Event}
use Rattle.dn_model.specs.declared.router.RouterDef.{RouterDef}
use Rattle.dn_model.specs.declared.feed.External.{External}
use Rattle.dn_model.specs.Cases.{Heading}
use Rattle.dn_model.specs.Network.{Network, state}
use Rattle.dn_model.specs.SoFar.{by_router}
use Rattle.dn_lockstep.specs.Running.{Running, first_rows}
use Rattle.dn_trace.specs.Rows.{row_lines}
use Rattle.dn_command.specs.declared.breaks.Break.{Break}
use Rattle.dn_command.specs.declared.command.Command.{Command}
use Rattle.dn_command.specs.declared.command.Command.TheVariants as command
use Rattle.dn_debug.specs.declared.extent.Extent.{Extent}
use Rattle.dn_debug.specs.Watching.{Watched, attach}
use Rattle.dn_debug.specs.Lines.{unknown_line, break_line, watch_line, place_line, waiting_line, node_text}
use Rattle.dn_debug.specs.Courses.{course}
use Rattle.dn_debug.specs.Situations.{Situation, IsAt, situation}
use Rattle.dn_debug.specs.Steps.{HasRun}
use Rattle.dn_debug.specs.Transcript.{Answers, ran, unknown, watch_by, unwatch_by}
use Rattle.dn_debug.specs.Replying.{HasAnswered, HasWatched, HasUnwatched, IsListed}

module _ {S : Type 0} (net : Network S) (feed : List External) where
  pub as_asked : (old : Situation) (engine : Running S) (latest : List Event) (new : Situation) (before now : List ℕ) (asked c : Command) → asked ≡ c → HasAnswered net feed old c engine latest new before now → HasAnswered net feed old asked engine latest new before now
  as_asked old engine latest new before now asked c is so = subst (λ (k : Command). HasAnswered net feed old k engine latest new before now) (sym is) so

  pub ran_answered : (bs bs' : List Break) (x : Extent) (start : ℕ) (old : Watched) (engine : Running S) (new : Watched) (latest : List Event) (before now : List ℕ) (c : Command) → Answers net feed (situation start bs old) c (ran net feed (situation start bs old) x) → bs' ≡ bs → HasRun net feed bs x start old engine new latest before now → HasAnswered net feed (situation start bs old) c engine latest (situation engine.place bs' new) before now
  unfolding ran
  ran_answered bs bs' x start old engine new latest before now c answers kept run =
      let there = start + (course net feed bs start old.attached x).count in
      record {
        at = run.at;
        answer = ran net feed (situation start bs old) x;
        answers = answers;
        left = ap (λ p. situation p bs' new) run.place ∙ (ap (λ (b : List Break). situation there b new) kept ∙ ap (situation there bs) run.shown);
        text = run.text;
      }

  module _ (place : ℕ) (bs : List Break) (old : Watched) (engine : Running S) (latest : List Event) (before : List ℕ) (is : IsAt net feed engine latest) where
    pub break_answered : (stop : Break) (bs' : List Break) (now : List ℕ) → bs' ≡ bs ++ stop ∷ [] → now ≡ before ++ break_line (length bs) → HasAnswered net feed (situation place bs old) (command.Break stop) engine latest (situation place bs' old) before now
    break_answered stop bs' now set text = record {
      at = is;
      answer = record { text = break_line (length bs); next = situation place (bs ++ stop ∷ []) old };
      answers = refl;
      left = ap (λ (b : List Break). situation place b old) set;
      text = text;
    }

    pub watch_answered : (header : Heading) (name : List ℕ) (new : Watched) (now : List ℕ) → header ≡ net.header → HasWatched header name old new before now → HasAnswered net feed (situation place bs old) (command.Watch name) engine latest (situation place bs new) before now
    watch_answered header name new now same (true, attached, text) = record {
      at = is;
      answer = record { text = watch_line name; next = situation place bs new };
      answers = ap (watch_by (situation place bs old) name) (sym attached) ∙ ap (λ (h : Heading). watch_by (situation place bs old) name (attach h name old)) same;
      left = refl;
      text = text;
    }
    watch_answered header name new now same (false, attached, text) = record {
      at = is;
      answer = unknown (situation place bs old);
      answers = ap (watch_by (situation place bs old) name) (sym attached.0) ∙ ap (λ (h : Heading). watch_by (situation place bs old) name (attach h name old)) same;
      left = ap (situation place bs) attached.1;
      text = text;
    }

    pub unwatch_answered : (name : List ℕ) (new : Watched) (now : List ℕ) → HasUnwatched name old new before now → HasAnswered net feed (situation place bs old) (command.Unwatch name) engine latest (situation place bs new) before now
    unwatch_answered name new now (true, between, dropped, text) = record {
      at = is;
      answer = record { text = dropped.0.report; next = situation place bs dropped.0.left };
      answers = ap (unwatch_by (situation place bs old)) (sym dropped.1);
      left = ap (situation place bs) dropped.2;
      text = text ∙ (append-nil between ∙ dropped.3);
    }
    unwatch_answered name new now (false, between, dropped, text) = record {
      at = is;
      answer = unknown (situation place bs old);
      answers = ap (unwatch_by (situation place bs old)) (sym dropped.0);
      left = ap (situation place bs) dropped.1;
      text = text ∙ ap (λ t. t ++ unknown_line) dropped.2;
    }

    pub show_answered : (r : ℕ) (guests : Meaning S) (defs : List RouterDef) (now : List ℕ) → net.guests ≡ guests → defs ≡ net.header.routers → now ≡ before ++ node_text guests defs r (state net r (by_router (first_rows net feed place) r)) → HasAnswered net feed (situation place bs old) (command.Show r) engine latest (situation place bs old) before now
    show_answered r guests defs now same of text = record {
      at = is;
      answer = record { text = node_text net.guests net.header.routers r (state net r (by_router (first_rows net feed place) r)); next = situation place bs old };
      answers = refl;
      left = refl;
      text = text
          ∙ (ap (λ (m : Meaning S). before ++ node_text m defs r (state net r (by_router (first_rows net feed place) r))) (sym same)
          ∙ ap (λ (ds : List RouterDef). before ++ node_text net.guests ds r (state net r (by_router (first_rows net feed place) r))) of);
    }

    pub queue_answered : (r : ℕ) (defs : List RouterDef) (now : List ℕ) → defs ≡ net.header.routers → IsListed net feed place r defs before now → HasAnswered net feed (situation place bs old) (command.Queue r) engine latest (situation place bs old) before now
    queue_answered r defs now of listed = record {
      at = is;
      answer = record { text = row_lines net.header.routers listed.0 ++ waiting_line (length listed.0); next = situation place bs old };
      answers = (listed.0, listed.1, refl);
      left = refl;
      text = listed.2 ∙ ap (λ (ds : List RouterDef). before ++ (row_lines ds listed.0 ++ waiting_line (length listed.0))) of;
    }

    pub where_answered : (now : List ℕ) → now ≡ before ++ place_line place → HasAnswered net feed (situation place bs old) command.Where engine latest (situation place bs old) before now
    where_answered now text = record { at = is; answer = record { text = place_line place; next = situation place bs old }; answers = refl; left = refl; text = text }

    pub last_answered : (defs : List RouterDef) (now : List ℕ) → place ≡ engine.place → defs ≡ net.header.routers → now ≡ before ++ row_lines defs latest → HasAnswered net feed (situation place bs old) command.Last engine latest (situation place bs old) before now
    last_answered defs now here of text = record {
      at = is;
      answer = record { text = row_lines net.header.routers (keep_last 16 (first_rows net feed place)); next = situation place bs old };
      answers = refl;
      left = refl;
      text = text
          ∙ (ap (λ (ds : List RouterDef). before ++ row_lines ds latest) of
          ∙ (ap (λ (es : List Event). before ++ row_lines net.header.routers es) is.latest
          ∙ ap (λ n. before ++ row_lines net.header.routers (keep_last 16 (first_rows net feed n))) (sym here)));
    }

    pub quit_answered : HasAnswered net feed (situation place bs old) command.Quit engine latest (situation place bs old) before before
    quit_answered = record { at = is; answer = record { text = []; next = situation place bs old }; answers = refl; left = refl; text = sym (append-nil before) }
