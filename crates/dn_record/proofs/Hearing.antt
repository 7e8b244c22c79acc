-- What a live feed does with an answer of its reader is to go on.
use Rattle.std.proofs.Common.{◌≡◌, ℕ, ◌+◌, ◌<◌, ◌≤◌, false, true, inl, inr, List, [], ◌∷◌, ◌++◌, length, Option, Some, None, refl, ap, sym, subst, ◌∙◌, append-nil, arith, ◌^◌}
use Rattle.std.proofs.lemmas.List.{length-append}
use Rattle.std.specs.Prelude.{IfSome}
use Rattle.dn_model.specs.declared.feed.External.{External}
use Rattle.dn_model.specs.Cases.{Heading, IsExternal, AreExternals}
use Rattle.dn_io.specs.Streams.{before, Rose}
use Rattle.dn_io.specs.LineReading.{LineReading, Tells, IsLast}
use Rattle.dn_io.specs.declared.line_reader.Line.{Line}
use Rattle.dn_io.specs.declared.line_reader.Line.TheVariants as line
use Rattle.dn_case.specs.declared.cause.Cause.TheVariants as cause
use Rattle.dn_case.specs.LiveLines.{IsLiveLine}
use Rattle.dn_record.specs.declared.live_end.LiveEnd.{LiveEnd}
use Rattle.dn_record.specs.declared.live_end.LiveEnd.TheVariants as ending
use Rattle.dn_record.specs.Feeding.{last_group}
use Rattle.dn_record.specs.Stamps.{stamp_of}
use Rattle.dn_record.specs.Live.{text_of, ended_line, external_of, Live, IsOpen, hearing, Ends, GoesOn}
use Rattle.dn_record.specs.Listening.{IsLive, Takes, TakesLine, Accepts, ClosesFor}

pub externals_more : (h : Heading) (low : ℕ) (xs : List External) (x : External) → AreExternals h low xs → IsExternal h (last_group low xs) x → AreExternals h low (xs ++ x ∷ [])
externals_more h low [] x are is = (is, tt)
externals_more h low (y ∷ ys) x are is = (are.0, externals_more h y.group ys x are.1 is)

-- ---- one answer of the reader

-- what came with the answer
pub record Came (x : Live) (left now : Option (List ℕ)) (faults risen : ℕ) (answer : Line) (reader : LineReading) : Type 0 where
  pub came : List ℕ
  pub told : left ≡ before came now
  pub tells : Tells answer x.reader (x.reader.held ++ came) reader
  pub at_end : IsLast answer → IfSome now (λ l. l ≡ [])
  pub failed : answer ≡ line.Failed → Rose faults risen
  pub rises : faults ≤ risen

-- the feed while it listens
abbrev pub listening : Live → LineReading → Live
listening x reader = record x { reader = reader; spent = true }

abbrev pub heard_out : Live → Live
heard_out z = record z { spent = false }

-- the feed behind an answer that closes it
abbrev pub closed_by : Live → LineReading → LiveEnd → Live
closed_by x reader end = heard_out (record (listening x reader) { ended = Some end })

closed_on : (x : Live) (left now : Option (List ℕ)) (faults risen : ℕ) (beats : Option (ℕ → ℕ)) (answer : Line) (reader : LineReading) (end : LiveEnd) → IsOpen x → (c : Came x left now faults risen answer reader) → Ends (hearing x left faults beats) (hearing (closed_by x reader end) now risen beats) x.reader.room (x.reader.held ++ c.came) (Some end) → GoesOn (hearing x left faults beats) (hearing (closed_by x reader end) now risen beats)
closed_on x left now faults risen beats answer reader end unclosed c ends = record {
  was_open = unclosed;
  header = refl;
  heard = [];
  read = tt;
  given = sym (append-nil x.given);
  beats = tt;
  came = c.came;
  told = c.told;
  ahead = x.reader.held ++ c.came;
  bytes = refl;
  faults = c.rises;
  last = λ unspent. refl;
  number = λ unspent. omega arith;
  later = λ unspent. refl;
  room = (x.reader.room, omega arith, λ unspent. ends);
  unspent = λ spent. cc;
}

accepted_on : (x : Live) (left now : Option (List ℕ)) (faults risen : ℕ) (beats later_beats : Option (ℕ → ℕ)) (text : List ℕ) (reader : LineReading) (came : List ℕ) → IsOpen x → left ≡ before came now → faults ≤ risen → x.reader.held ++ came ≡ ended_line text ++ reader.held → x.reader.room ≡ length text + 1 + reader.room → (z : Live) → Accepts text (listening x reader) z beats later_beats → GoesOn (hearing x left faults beats) (hearing (heard_out z) now risen later_beats)
accepted_on x left now faults risen beats later_beats text reader came unclosed told rises bytes room z a =
    let G = x.header.groups in
    let stamp = stamp_of G x.last a.line.beat in
    let after : Live = record (listening x reader) { given = x.given ++ external_of stamp a.line ∷ []; last = stamp; number = x.number + 1 } in
    let line_bytes : ended_line text ≡ text_of (a.line ∷ []) = ap ended_line (sym a.is) ∙ sym (append-nil (ended_line a.line.text)) in
    let long : length (text_of (a.line ∷ [])) ≡ length text + 1 = ap (λ (l : List ℕ). length l) (sym line_bytes) ∙ length-append text (10 ∷ []) in
    subst (λ (w : Live). GoesOn (hearing x left faults beats) (hearing (heard_out w) now risen later_beats)) (sym a.new_is) (record {
      was_open = unclosed;
      header = refl;
      heard = a.line ∷ [];
      read = (subst (λ (l : List ℕ). IsLiveLine x.header a.line.router a.line.input l) (sym a.is) a.read, tt);
      given = refl;
      beats = (a.beat, tt);
      came = came;
      told = told;
      ahead = reader.held;
      bytes = bytes ∙ ap (λ (l : List ℕ). l ++ reader.held) line_bytes;
      faults = rises;
      last = λ unspent. refl;
      number = λ unspent. omega arith;
      later = λ unspent. a.later;
      room = (reader.room, omega (arith, room, long), λ unspent. subst (λ (e : Option LiveEnd). Ends (hearing x left faults beats) (hearing (heard_out after) now risen later_beats) reader.room reader.held e) (sym unclosed.0) (refl, refl));
      unspent = λ spent. cc;
    })

-- without memory: nothing more was given
pub left_on : (x z : Live) (left now : Option (List ℕ)) (faults risen : ℕ) (beats later_beats : Option (ℕ → ℕ)) (came : List ℕ) → IsOpen x → left ≡ before came now → faults ≤ risen → z.header ≡ x.header → z.given ≡ x.given → z.ended ≡ None → z.spent ≡ true → GoesOn (hearing x left faults beats) (hearing z now risen later_beats)
left_on x z left now faults risen beats later_beats came unclosed told rises header given ended spent = record {
  was_open = unclosed;
  header = header;
  heard = [];
  read = tt;
  given = given ∙ sym (append-nil x.given);
  beats = tt;
  came = came;
  told = told;
  ahead = x.reader.held ++ came;
  bytes = refl;
  faults = rises;
  last = λ unspent. cc;
  number = λ unspent. cc;
  later = λ unspent. cc;
  room = (x.reader.room, omega arith, λ unspent. cc);
  unspent = λ is. ended;
}

closing_on : (x : Live) (left now : Option (List ℕ)) (faults risen : ℕ) (beats later_beats : Option (ℕ → ℕ)) (answer : Line) (reader : LineReading) (end : LiveEnd) → IsOpen x → (c : Came x left now faults risen answer reader) → (z : Live) → ClosesFor end (listening x reader) z beats later_beats → Ends (hearing x left faults beats) (hearing (closed_by x reader end) now risen beats) x.reader.room (x.reader.held ++ c.came) (Some end) → GoesOn (hearing x left faults beats) (hearing (heard_out z) now risen later_beats)
closing_on x left now faults risen beats later_beats answer reader end unclosed c z closes ends =
    subst (λ (b : Option (ℕ → ℕ)). GoesOn (hearing x left faults beats) (hearing (heard_out z) now risen b)) (sym closes.1)
    (subst (λ (w : Live). GoesOn (hearing x left faults beats) (hearing (heard_out w) now risen beats)) (sym closes.0) (closed_on x left now faults risen beats answer reader end unclosed c ends))

line_on : (x : Live) (left now : Option (List ℕ)) (faults risen : ℕ) (beats later_beats : Option (ℕ → ℕ)) (answer : Line) (text : List ℕ) (reader : LineReading) → IsOpen x → (c : Came x left now faults risen answer reader) → x.reader.held ++ c.came ≡ ended_line text ++ reader.held → x.reader.room ≡ length text + 1 + reader.room → (z : Live) → TakesLine text (listening x reader) z beats later_beats → GoesOn (hearing x left faults beats) (hearing (heard_out z) now risen later_beats)
line_on x left now faults risen beats later_beats answer text reader unclosed c told room z takes =
    elim takes [
      | inl e ↦ closing_on x left now faults risen beats later_beats answer reader ending.Closed unclosed c z e.1 (inl (told ∙ ap (λ (l : List ℕ). ended_line l ++ reader.held) e.0))
      | inr other ↦ elim other [
        | inl b ↦ closing_on x left now faults risen beats later_beats answer reader (ending.Bad (record { line = x.number; cause = b.0 })) unclosed c z b.3 (refl, inl (text, told, b.1, b.2))
        | inr a ↦ accepted_on x left now faults risen beats later_beats text reader c.came unclosed c.told c.rises told room z a
      ]
    ]

pub answer_on : (x : Live) (left now : Option (List ℕ)) (faults risen : ℕ) (beats later_beats : Option (ℕ → ℕ)) (answer : Line) (reader : LineReading) → IsOpen x → Came x left now faults risen answer reader → (z : Live) → Takes answer (listening x reader) z beats later_beats → GoesOn (hearing x left faults beats) (hearing (heard_out z) now risen later_beats)
answer_on x left now faults risen beats later_beats (line.Full text) reader unclosed c z takes = line_on x left now faults risen beats later_beats (line.Full text) text.items reader unclosed c c.tells.1 c.tells.2 z takes
answer_on x left now faults risen beats later_beats (line.Rest text) reader unclosed c z takes = closing_on x left now faults risen beats later_beats (line.Rest text) reader (ending.Bad (record { line = x.number; cause = cause.Syntax })) unclosed c z takes (refl, inr (c.tells.1, c.tells.2, refl, c.at_end tt))
answer_on x left now faults risen beats later_beats line.End reader unclosed c z takes = closing_on x left now faults risen beats later_beats line.End reader ending.Closed unclosed c z takes (inr (c.tells, c.at_end tt))
answer_on x left now faults risen beats later_beats line.Failed reader unclosed c z takes = closing_on x left now faults risen beats later_beats line.Failed reader ending.Failed unclosed c z takes (c.tells.0, c.failed refl)
answer_on x left now faults risen beats later_beats line.TooBig reader unclosed c z takes = closing_on x left now faults risen beats later_beats line.TooBig reader ending.TooBig unclosed c z takes c.tells

-- ---- what the feed keeps goes on holding

last_more : (low : ℕ) (xs : List External) (y : External) → last_group low (xs ++ y ∷ []) ≡ y.group
last_more low [] y = refl
last_more low (x ∷ xs) y = last_more x.group xs y

closed_keeps : (x : Live) (reader : LineReading) (end : LiveEnd) (z : Live) (groups : ℕ) → z ≡ record (listening x reader) { ended = Some end } → x.last ≡ last_group 0 x.given → IsLive z groups → IsLive (heard_out z) groups
closed_keeps x reader end z groups is last live =
    let closed : z.ended ≡ Some end = ap (λ (w : Live). w.ended) is in
    record {
      same_groups = live.same_groups;
      feed = live.feed;
      last = λ unspent. subst (λ (w : Live). w.last ≡ last_group 0 w.given) (sym is) last;
      reader = λ unclosed. let none : z.ended ≡ None = unclosed.0 in cc;
      number = λ unclosed. let none : z.ended ≡ None = unclosed.0 in absurd cc;
    }

accepted_keeps : (x : Live) (reader : LineReading) (text : List ℕ) (z : Live) (groups : ℕ) (beats now : Option (ℕ → ℕ)) → Accepts text (listening x reader) z beats now → x.number + x.reader.room < 2 ^ 64 → x.reader.room ≡ length text + 1 + reader.room → reader.is_open ≡ true → IsLive z groups → IsLive (heard_out z) groups
accepted_keeps x reader text z groups beats now a few room reads live =
    let stamp = stamp_of x.header.groups x.last a.line.beat in
    record {
      same_groups = live.same_groups;
      feed = live.feed;
      last = λ unspent. subst (λ (w : Live). w.last ≡ last_group 0 w.given) (sym a.new_is) (sym (last_more 0 x.given (external_of stamp a.line)));
      reader = λ unclosed. subst (λ (w : Live). w.reader.is_open ≡ true) (sym a.new_is) reads;
      number = λ unclosed. subst (λ (w : Live). w.number + w.reader.room < 2 ^ 64) (sym a.new_is) (omega (arith, few, room));
    }

line_keeps : (x : Live) (reader : LineReading) (text : List ℕ) (z : Live) (groups : ℕ) (beats now : Option (ℕ → ℕ)) → x.last ≡ last_group 0 x.given → x.number + x.reader.room < 2 ^ 64 → x.reader.room ≡ length text + 1 + reader.room → reader.is_open ≡ true → TakesLine text (listening x reader) z beats now → IsLive z groups → IsLive (heard_out z) groups
line_keeps x reader text z groups beats now last few room reads takes live =
    elim takes [
      | inl e ↦ closed_keeps x reader ending.Closed z groups e.1.0 last live
      | inr other ↦ elim other [
        | inl b ↦ closed_keeps x reader (ending.Bad (record { line = x.number; cause = b.0 })) z groups b.3.0 last live
        | inr a ↦ accepted_keeps x reader text z groups beats now a few room reads live
      ]
    ]

pub answer_keeps : (x : Live) (ahead : List ℕ) (answer : Line) (reader : LineReading) (z : Live) (groups : ℕ) (beats now : Option (ℕ → ℕ)) → x.last ≡ last_group 0 x.given → x.number + x.reader.room < 2 ^ 64 → Tells answer x.reader ahead reader → Takes answer (listening x reader) z beats now → IsLive z groups → IsLive (heard_out z) groups
answer_keeps x ahead (line.Full text) reader z groups beats now last few tells takes live = line_keeps x reader text.items z groups beats now last few tells.2 tells.3 takes live
answer_keeps x ahead (line.Rest text) reader z groups beats now last few tells takes live = closed_keeps x reader (ending.Bad (record { line = x.number; cause = cause.Syntax })) z groups takes.0 last live
answer_keeps x ahead line.End reader z groups beats now last few tells takes live = closed_keeps x reader ending.Closed z groups takes.0 last live
answer_keeps x ahead line.Failed reader z groups beats now last few tells takes live = closed_keeps x reader ending.Failed z groups takes.0 last live
answer_keeps x ahead line.TooBig reader z groups beats now last few tells takes live = closed_keeps x reader ending.TooBig z groups takes.0 last live
