-- Lines that were read and answered, one after another.
use Rattle.std.proofs.Common.{◌≡◌, ℕ, ◌+◌, List, [], ◌∷◌, ◌++◌, length, length-append, Option, Some, None, append-nil, append_assoc, refl, sym, ap, ◌∙◌, subst, arith}
use Rattle.std.proofs.lemmas.Grind.{flat_map-append}
use Rattle.dn_lists.proofs.Lists.{all_append}
use Rattle.dn_io.specs.Streams.{before, behind, Gives}
use Rattle.dn_io.specs.LineReading.{LineReading, HasNoNewline}
use Rattle.dn_model.specs.declared.feed.External.{External}
use Rattle.dn_model.specs.Network.{Network}
use Rattle.dn_probe.specs.Meaning.{Watch}
use Rattle.dn_debug.specs.declared.session.Told.TheVariants.{Go}
use Rattle.dn_debug.specs.declared.dialogue.Conversed.{Conversed}
use Rattle.dn_debug.specs.Situations.{Situation, Sitting, situation_of}
use Rattle.dn_debug.specs.Transcript.{Answer, Replies}
use Rattle.dn_debug.specs.Conversing.{ended, ended_lines, IsTranscript, tells, HasHeard, HasConversed, Turns}

before_before : (one two : List ℕ) (told : Option (List ℕ)) → before one (before two told) ≡ before (one ++ two) told
before_before one two None = refl
before_before one two (Some rest) = ap (λ (t : List ℕ). Some t) (sym (append_assoc one two rest))

none_before : (told : Option (List ℕ)) → told ≡ before [] told
none_before None = refl
none_before (Some rest) = refl

none_behind : (told : Option (List ℕ)) → told ≡ behind told []
none_behind None = refl
none_behind (Some rest) = ap (λ (t : List ℕ). Some t) (sym (append-nil rest))

behind_behind : (told : Option (List ℕ)) (one two : List ℕ) → behind (behind told one) two ≡ behind told (one ++ two)
behind_behind None one two = refl
behind_behind (Some held) one two = ap (λ (t : List ℕ). Some t) (append_assoc held one two)

-- further bytes came
pub comes_on : {old between now : Option (List ℕ)} {P Q R : List ℕ → Type 0} → Gives old between P → Gives between now Q → ((x y : List ℕ) → P x → Q y → R (x ++ y)) → Gives old now R
comes_on {now = now} first second all = record {
  came = first.came ++ second.came;
  holds = all first.came second.came first.holds second.holds;
  told = first.told ∙ (ap (before first.came) second.told ∙ before_before first.came second.came now);
}

module _ {S : Type 0} (net : Network S) (feed : List External) where
  pub heard_none : (s : Situation) (room : ℕ) (bytes : List ℕ) (held : Option (List ℕ)) → HasHeard net feed s room bytes bytes room s held held
  heard_none s room bytes held = record {
    lines = [];
    read = refl;
    whole = tt;
    onward = tt;
    within = omega arith;
    text = [];
    transcript = (refl, refl);
    written = none_behind held;
  }

  pub gives_none : (s : Situation) (room : ℕ) (bytes : List ℕ) (left held : Option (List ℕ)) → Gives left left (λ came. HasHeard net feed s room (bytes ++ came) bytes room s held held)
  gives_none s room bytes left held = record {
    came = [];
    holds = subst (λ bs. HasHeard net feed s room bs bytes room s held held) (sym (append-nil bytes)) (heard_none s room bytes held);
    told = none_before left;
  }

  transcript_more : (s : Situation) (lines : List (List ℕ)) (text : List ℕ) (last : Situation) (line : List ℕ) (a : Answer) → IsTranscript net feed s lines text last → Replies net feed last line a → IsTranscript net feed s (lines ++ line ∷ []) (text ++ a.text) a.next
  transcript_more s [] text last line a so replies =
      (a, subst (λ t. Replies net feed t line a) so.1 replies, [], (refl, refl), ap (λ t. t ++ a.text) so.0 ∙ sym (append-nil a.text))
  transcript_more s (l ∷ ls) text last line a (b, first, rest, further, is) replies =
      (b, first, rest ++ a.text, transcript_more b.next ls rest last line a further replies, ap (λ t. t ++ a.text) is ∙ append_assoc b.text rest a.text)

  -- a further line
  pub heard_more : {X : Type 0} (watcher : X → Watch) (s : Situation) (limit : ℕ) (old new : Sitting S X) (lines after : LineReading) (bytes came : List ℕ) (left held between holds : Option (List ℕ)) → HasHeard net feed s limit bytes lines.held lines.room (situation_of watcher old) held between → Turns net feed watcher old lines (lines.held ++ came) left None new after between holds → HasHeard net feed s limit (bytes ++ came) after.held after.room (situation_of watcher new) held holds
  heard_more watcher s limit old new lines after bytes came left held between holds so (line, whole, next, room, goes, answered) =
      let one = ended_lines so.lines in
      let more : ended_lines (so.lines ++ line ∷ []) ≡ one ++ ended line = flat_map-append ended so.lines (line ∷ []) ∙ ap (λ t. one ++ t) (append-nil (ended line)) in
      let count : length (ended_lines (so.lines ++ line ∷ [])) ≡ length one + (length line + 1) = ap length more ∙ (length-append one (ended line) ∙ ap (λ n. length one + n) (length-append line (10 ∷ []))) in
      record {
        lines = so.lines ++ line ∷ [];
        read = ap (λ t. t ++ came) so.read ∙ (append_assoc one lines.held came ∙ (ap (λ t. one ++ t) next ∙ (sym (append_assoc one (ended line) after.held) ∙ ap (λ t. t ++ after.held) (sym more))));
        whole = all_append HasNoNewline so.lines (line ∷ []) so.whole (whole, tt);
        onward = all_append (λ l. tells net feed l ≡ Go) so.lines (line ∷ []) so.onward (sym goes, tt);
        within = omega (arith, count, room, so.within);
        text = so.text ++ answered.answer.text;
        transcript = subst (λ t. IsTranscript net feed s (so.lines ++ line ∷ []) (so.text ++ answered.answer.text) t) (sym answered.left) (transcript_more s so.lines so.text (situation_of watcher old) line answered.answer so.transcript answered.replies);
        written = answered.holds ∙ (ap (λ h. behind h answered.answer.text) so.written ∙ behind_behind held so.text answered.answer.text);
      }

  -- the session has ended
  pub conversed_then : {X : Type 0} (watcher : X → Watch) (s : Situation) (limit : ℕ) (old new : Sitting S X) (lines after : LineReading) (bytes came : List ℕ) (left : Option (List ℕ)) (how : Conversed) (held between holds : Option (List ℕ)) → HasHeard net feed s limit bytes lines.held lines.room (situation_of watcher old) held between → Turns net feed watcher old lines (lines.held ++ came) left (Some how) new after between holds → HasConversed net feed s limit (bytes ++ came) left how held holds
  conversed_then watcher s limit old new lines after bytes came left how held between holds so ends = record {
    rest = lines.held ++ came;
    room = lines.room;
    last = situation_of watcher old;
    between = between;
    heard = record {
      lines = so.lines;
      read = ap (λ t. t ++ came) so.read ∙ append_assoc (ended_lines so.lines) lines.held came;
      whole = so.whole;
      onward = so.onward;
      within = so.within;
      text = so.text;
      transcript = so.transcript;
      written = so.written;
    };
    ends = ends;
  }
