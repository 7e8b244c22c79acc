-- Lines that are gathered up to the line `feed`.
use Rattle.std.proofs.Common.{◌≡◌, inl, inr, ℕ, ◌+◌, ◌≤◌, zero, suc, List, [], ◌∷◌, ◌++◌, length, take, map, Option, Some, None, refl, sym, ap, subst, ◌∙◌, append_assoc, append-nil, arith, Vec, Global}
use Rattle.std.specs.Prelude.{◌≢◌, codes, Ok, Err}
use Rattle.std.specs.List.{AllByRecursion, onto_first}
use Rattle.std.proofs.lemmas.Bool.{ne_eqb}
use Rattle.std.proofs.lemmas.List.{length-append, append_cancel_right}
use Rattle.std.proofs.lemmas.List.Elements.{All-append, All-cons, All-nil, All-head, All-tail, recursion_from_All}
use Rattle.dn_io.specs.Streams.{before}
use Rattle.dn_io.specs.LineReading.{LineReading, HasNoNewline, Tells, IsLast, opening_reader}
use Rattle.dn_io.specs.declared.line_reader.Line.{Line}
use Rattle.dn_io.specs.declared.line_reader.Line.TheVariants as line
use Rattle.dn_record.specs.Live.{ended_line, IsAtEnd}
use Rattle.dn_text.specs.Lines.{lines}
use Rattle.dn_model.specs.Cases.{Recording}
use Rattle.dn_case.specs.Shapes.{Line as CaseLine, Feed, End}
use Rattle.dn_case.specs.Spelling.{spelled, header_lines_with, external_line}
use Rattle.dn_case.specs.Reading.{IsCaseText, HasNoCase}
use Rattle.dn_case.specs.CaseTexts.{Spells, numbered_lines}
use Rattle.dn_top.specs.declared.status.Status.{Status}
use Rattle.dn_top.specs.declared.status.Status.TheVariants as status
use Rattle.dn_top.specs.declared.live_head.Taken.{Taken}
use Rattle.dn_top.specs.declared.live_head.Taken.TheVariants as taken
use Rattle.dn_top.specs.declared.live_head.Gathered.{Gathered}
use Rattle.dn_top.specs.declared.live_head.Gathered.TheVariants as gathered
use Rattle.dn_top.specs.Promises.{input_limit}
use Rattle.dn_top.specs.LiveHeads.{text_of, HasGathered, HasHeadText, HasShortText, HasNoFeed, TakesHead, Takes, RefusesText, RefusesHead, IsTextRefusal, IsBad, IsRead}

-- ---- bytes that come one behind the other

pub before_nothing : (told : Option (List ℕ)) → told ≡ before [] told
before_nothing None = refl
before_nothing (Some rest) = refl

pub before_both : (one two : List ℕ) (told : Option (List ℕ)) → before one (before two told) ≡ before (one ++ two) told
before_both one two None = refl
before_both one two (Some rest) = ap (λ (l : List ℕ). Some l) (sym (append_assoc one two rest))

text_of_more : (above : List (List ℕ)) (text : List ℕ) → text_of (above ++ text ∷ []) ≡ text_of above ++ ended_line text
text_of_more [] text = append-nil (ended_line text)
text_of_more (t ∷ ts) text = ap (λ (l : List ℕ). ended_line t ++ l) (text_of_more ts text) ∙ sym (append_assoc (ended_line t) (text_of ts) (ended_line text))

-- ---- one step

pub gathered_nothing : (told : Option (List ℕ)) → HasGathered told told [] (opening_reader input_limit) 0
gathered_nothing told = record {
  above = [];
  whole = All-nil (λ (t : List ℕ). HasNoNewline t × (t ≢ codes "feed"));
  came = [];
  told = before_nothing told;
  bytes = refl;
  are = refl;
  room = refl;
  is_open = refl;
  counted = refl;
  few = omega arith;
}

module _ (old mid now : Option (List ℕ)) (text text_now : List ℕ) (reader after : LineReading) (count : ℕ) (g : HasGathered old mid text reader count) (more : List ℕ) (told : mid ≡ before more now) where
  all_told : old ≡ before (g.came ++ more) now
  all_told = g.told ∙ ap (before g.came) told ∙ before_both g.came more now

  -- what came behind the lines
  came_behind : g.came ++ more ≡ text_of g.above ++ (reader.held ++ more)
  came_behind = ap (λ (l : List ℕ). l ++ more) g.bytes ∙ append_assoc (text_of g.above) reader.held more

  abbrev unfed : HasNoFeed old now (reader.held ++ more)
  unfed = record { above = g.above; whole = g.whole; told = all_told ∙ ap (λ (l : List ℕ). before l now) came_behind }

  bytes_on : (t : List ℕ) → reader.held ++ more ≡ (t ++ 10 ∷ []) ++ after.held → g.came ++ more ≡ (text_of g.above ++ ended_line t) ++ after.held
  bytes_on t ahead = came_behind ∙ ap (λ (l : List ℕ). text_of g.above ++ l) ahead ∙ sym (append_assoc (text_of g.above) (ended_line t) after.held)

  are_on : (t : List ℕ) → text_now ≡ text ++ ended_line t → text_now ≡ text_of g.above ++ ended_line t
  are_on t is = is ∙ ap (λ (l : List ℕ). l ++ ended_line t) g.are

  longer : (t : List ℕ) → text_now ≡ text ++ ended_line t → length text_now ≡ length text + (length t + 1)
  longer t is = omega (arith, ap (λ (l : List ℕ). length l) is, length-append text (ended_line t), length-append t (10 ∷ []))

  pub above_on : (l : Line) → Tells l reader (reader.held ++ more) after → TakesHead l (Ok taken.Above) text text_now → HasGathered old now text_now after (count + 1)
  above_on (line.Full t) tells takes = record {
    above = g.above ++ t.items ∷ [];
    whole = All-append (λ (x : List ℕ). HasNoNewline x × (x ≢ codes "feed")) g.above (t.items ∷ []) g.whole (All-cons (λ (x : List ℕ). HasNoNewline x × (x ≢ codes "feed")) t.items [] (tells.0, takes.0) (All-nil (λ (x : List ℕ). HasNoNewline x × (x ≢ codes "feed"))));
    came = g.came ++ more;
    told = all_told;
    bytes = bytes_on t.items tells.1 ∙ ap (λ (x : List ℕ). x ++ after.held) (sym (text_of_more g.above t.items));
    are = are_on t.items takes.1 ∙ sym (text_of_more g.above t.items);
    room = omega (arith, g.room, longer t.items takes.1, tells.2);
    is_open = tells.3;
    counted = omega (arith, g.counted, length-append g.above (t.items ∷ []));
    few = omega (arith, g.few, longer t.items takes.1);
  }
  above_on (line.Rest t) tells takes = absurd takes
  above_on line.End tells takes = absurd takes
  above_on line.Failed tells takes = absurd takes
  above_on line.TooBig tells takes = absurd takes

  pub feed_on : (l : Line) → Tells l reader (reader.held ++ more) after → TakesHead l (Ok taken.Feed) text text_now → HasHeadText old now text_now after (count + 2)
  feed_on (line.Full t) tells takes = record {
    above = g.above;
    whole = g.whole;
    came = g.came ++ more;
    told = all_told;
    bytes = bytes_on t.items tells.1 ∙ ap (λ (x : List ℕ). (text_of g.above ++ ended_line x) ++ after.held) takes.0;
    are = are_on t.items takes.1 ∙ ap (λ (x : List ℕ). text_of g.above ++ ended_line x) takes.0;
    room = omega (arith, g.room, longer t.items takes.1, tells.2);
    is_open = tells.3;
    number = omega (arith, g.counted);
    few = omega (arith, g.few, longer t.items takes.1, ap (λ (l : List ℕ). length l) takes.0);
  }
  feed_on (line.Rest t) tells takes = absurd takes
  feed_on line.End tells takes = absurd takes
  feed_on line.Failed tells takes = absurd takes
  feed_on line.TooBig tells takes = absurd takes

  pub last_on : (l : Line) → Tells l reader (reader.held ++ more) after → (IsLast l → IsAtEnd now) → TakesHead l (Ok taken.Last) text text_now → HasShortText old now text_now
  last_on (line.Full t) tells last takes = absurd takes.0
  last_on (line.Rest t) tells last takes = record {
    rest = reader.held ++ more;
    clean = tells.1;
    came = unfed;
    at_end = last tt;
    are = takes ∙ ap (λ (l : List ℕ). l ++ t.items) g.are ∙ ap (λ (l : List ℕ). text_of g.above ++ l) (sym tells.0);
    within = omega (arith, g.room, ap (λ (l : List ℕ). length l) takes, length-append text t.items, tells.3, ap (λ (l : List ℕ). length l) tells.0);
  }
  last_on line.End tells last takes = record {
    rest = reader.held ++ more;
    clean = subst HasNoNewline (sym tells) (All-nil (λ (byte : ℕ). byte ≢ 10));
    came = unfed;
    at_end = last tt;
    are = takes ∙ g.are ∙ sym (append-nil (text_of g.above)) ∙ ap (λ (l : List ℕ). text_of g.above ++ l) (sym tells);
    within = omega (arith, g.room, ap (λ (l : List ℕ). length l) takes);
  }
  last_on line.Failed tells last takes = absurd takes
  last_on line.TooBig tells last takes = absurd takes

  limit_of_above : input_limit ≡ length (text_of g.above) + reader.room
  limit_of_above = omega (arith, g.room, ap (λ (l : List ℕ). length l) g.are)

  pub refused_on : (l : Line) (s : Status) → Tells l reader (reader.held ++ more) after → TakesHead l (Err s) text text_now → RefusesText s old now
  refused_on (line.Full t) s tells takes = absurd takes
  refused_on (line.Rest t) s tells takes = absurd takes
  refused_on line.End s tells takes = absurd takes
  refused_on line.Failed status.ReadFault tells takes = record { rest = reader.held ++ more; clean = tells.0; came = unfed }
  refused_on line.TooBig status.TooBig tells takes = record { rest = reader.held ++ more; came = unfed; room = reader.room; limit = limit_of_above; clean = tells.0; more = tells.1 }
  refused_on line.Failed status.Ok tells takes = absurd takes
  refused_on line.Failed (status.Differs p) tells takes = absurd takes
  refused_on line.Failed status.Usage tells takes = absurd takes
  refused_on line.Failed (status.BadCase f) tells takes = absurd takes
  refused_on line.Failed status.Cut tells takes = absurd takes
  refused_on line.Failed status.WriteFault tells takes = absurd takes
  refused_on line.Failed status.NoMemory tells takes = absurd takes
  refused_on line.Failed status.TooBig tells takes = absurd takes
  refused_on line.Failed (status.Illegal n) tells takes = absurd takes
  refused_on line.Failed status.Open tells takes = absurd takes
  refused_on line.TooBig status.Ok tells takes = absurd takes
  refused_on line.TooBig (status.Differs p) tells takes = absurd takes
  refused_on line.TooBig status.Usage tells takes = absurd takes
  refused_on line.TooBig (status.BadCase f) tells takes = absurd takes
  refused_on line.TooBig status.Cut tells takes = absurd takes
  refused_on line.TooBig status.ReadFault tells takes = absurd takes
  refused_on line.TooBig status.WriteFault tells takes = absurd takes
  refused_on line.TooBig status.NoMemory tells takes = absurd takes
  refused_on line.TooBig (status.Illegal n) tells takes = absurd takes
  refused_on line.TooBig status.Open tells takes = absurd takes

-- ---- one step, from what a call says

module _ (old mid now : Option (List ℕ)) (text text_now : List ℕ) (reader after : LineReading) (count : ℕ) (g : HasGathered old mid text reader count) where
  pub step_above : (r : Taken) → r ≡ taken.Above → Takes (Ok r) reader after mid now text text_now → HasGathered old now text_now after (count + 1)
  step_above r is takes = elim takes [
    | inl e ↦ cc
    | inr t ↦ above_on old mid now text text_now reader after count g t.came t.told t.line t.tells (subst (λ (x : Taken). TakesHead t.line (Ok x) text text_now) is t.takes)
  ]

  pub step_feed : (r : Taken) → r ≡ taken.Feed → Takes (Ok r) reader after mid now text text_now → HasHeadText old now text_now after (count + 2)
  step_feed r is takes = elim takes [
    | inl e ↦ cc
    | inr t ↦ feed_on old mid now text text_now reader after count g t.came t.told t.line t.tells (subst (λ (x : Taken). TakesHead t.line (Ok x) text text_now) is t.takes)
  ]

  pub step_last : (r : Taken) → r ≡ taken.Last → Takes (Ok r) reader after mid now text text_now → HasShortText old now text_now
  step_last r is takes = elim takes [
    | inl e ↦ cc
    | inr t ↦ last_on old mid now text text_now reader after count g t.came t.told t.line t.tells t.last (subst (λ (x : Taken). TakesHead t.line (Ok x) text text_now) is t.takes)
  ]

  without_memory : (s : Status) → s ≡ status.NoMemory → RefusesText s old now
  without_memory s is = subst (λ (x : Status). RefusesText x old now) (sym is) tt

  pub step_refused : (s : Status) → Takes (Err s) reader after mid now text text_now → RefusesText s old now
  step_refused s takes = elim takes [
    | inl e ↦ without_memory s cc
    | inr t ↦ refused_on old mid now text text_now reader after count g t.came t.told t.line s t.tells t.takes
  ]

-- ---- a text without a line `feed`

clean_tail : (c : ℕ) (t : List ℕ) → HasNoNewline (c ∷ t) → HasNoNewline t
clean_tail c t clean = All-tail (λ (b : ℕ). b ≢ 10) c t clean

line_then : (t more : List ℕ) → HasNoNewline t → lines (ended_line t ++ more) ≡ ended_line t ∷ lines more
line_then [] more clean = refl
line_then (c ∷ cs) more clean =
    rw (ne_eqb c 10 (All-head (λ (b : ℕ). b ≢ 10) c cs clean)) (ap (onto_first c) (line_then cs more (clean_tail c cs clean)))

last_line : (c : ℕ) (t : List ℕ) → HasNoNewline (c ∷ t) → lines (c ∷ t) ≡ (c ∷ t) ∷ []
last_line c [] clean = rw (ne_eqb c 10 (All-head (λ (b : ℕ). b ≢ 10) c [] clean)) refl
last_line c (d ∷ ds) clean = rw (ne_eqb c 10 (All-head (λ (b : ℕ). b ≢ 10) c (d ∷ ds) clean)) (ap (onto_first c) (last_line d ds (clean_tail c (d ∷ ds) clean)))

abbrev NotFeed : List ℕ → Type 0
NotFeed l = l ≢ codes "feed\n"

has_newline : {A : Type 0} → HasNoNewline (codes "feed\n") → A
has_newline clean = absurd ((recursion_from_All (λ (b : ℕ). b ≢ 10) (codes "feed\n") clean).1.1.1.1.0 refl)

-- a newline at the end belongs to the line alone
same_text : (t u : List ℕ) → t ++ 10 ∷ [] ≡ u ++ 10 ∷ [] → t ≡ u
same_text t u same = append_cancel_right t u (10 ∷ []) same

no_feed_at_end : (rest : List ℕ) → HasNoNewline rest → AllByRecursion NotFeed (lines rest)
no_feed_at_end [] clean = tt
no_feed_at_end (c ∷ t) clean = rw (last_line c t clean) (λ is. has_newline (subst HasNoNewline is clean), tt)

pub no_feed : (above : List (List ℕ)) (rest : List ℕ) → AllByRecursion (λ text. HasNoNewline text × (text ≢ codes "feed")) above → HasNoNewline rest → AllByRecursion NotFeed (lines (text_of above ++ rest))
no_feed [] rest whole clean = no_feed_at_end rest clean
no_feed (t ∷ ts) rest whole clean =
    rw (append_assoc (ended_line t) (text_of ts) rest, line_then t (text_of ts ++ rest) whole.0.0) (λ is. whole.0.1 (same_text t (codes "feed") is), no_feed ts rest whole.1 clean)

not_feed_front : (n : ℕ) (ls : List (List ℕ)) → AllByRecursion NotFeed ls → AllByRecursion NotFeed (take n ls)
not_feed_front zero ls all = tt
not_feed_front (suc n) [] all = tt
not_feed_front (suc n) (l ∷ ls) all = (all.0, not_feed_front n ls all.1)

-- the lines of a case have a line `feed`
feed_is_there : (before behind : List CaseLine) → AllByRecursion NotFeed (map spelled (before ++ (Feed ∷ behind))) → ⊥
unfolding spelled
feed_is_there [] behind all = all.0 refl
feed_is_there (l ∷ ls) behind all = feed_is_there ls behind all.1

spelled_has_feed : (ls : List (List ℕ)) (c : Recording) → Spells ls c → AllByRecursion NotFeed ls → ⊥
spelled_has_feed ls c s all = feed_is_there (header_lines_with c.header (numbered_lines c.header.routers s.prefixes)) (map (external_line c.header.routers) c.feed ++ (End ∷ [])) (subst (AllByRecursion NotFeed) s.are all)

pub has_no_case : (old now : Option (List ℕ)) (text : List ℕ) → HasShortText old now text → ((ls : List (List ℕ)) (c : Recording) → IsCaseText ls c → Spells ls c) → HasNoCase text
has_no_case old now text short spells count c is =
    let all : AllByRecursion NotFeed (lines text) = rw short.are (no_feed short.came.above short.rest (recursion_from_All (λ (t : List ℕ). HasNoNewline t × (t ≢ codes "feed")) short.came.above short.came.whole) short.clean) in
    spelled_has_feed (take count (lines text)) c (spells (take count (lines text)) c is) (not_feed_front count (lines text) all)

-- ---- refusals

pub short_refused : (old now : Option (List ℕ)) (text : List ℕ) → HasShortText old now text → (s : Status) → IsTextRefusal text s → RefusesHead s old now
short_refused old now text short (status.BadCase f) bad = inr (record {
  rest = short.rest;
  clean = short.clean;
  came = short.came;
  at_end = short.at_end;
  within = subst (λ (t : List ℕ). length t ≤ input_limit) short.are short.within;
  bad = subst (λ (t : List ℕ). IsBad t f) short.are bad;
})
short_refused old now text short status.NoMemory bad = tt
short_refused old now text short status.Ok bad = absurd bad
short_refused old now text short (status.Differs p) bad = absurd bad
short_refused old now text short status.Usage bad = absurd bad
short_refused old now text short status.Cut bad = absurd bad
short_refused old now text short status.ReadFault bad = absurd bad
short_refused old now text short status.WriteFault bad = absurd bad
short_refused old now text short status.TooBig bad = absurd bad
short_refused old now text short (status.Illegal n) bad = absurd bad
short_refused old now text short status.Open bad = absurd bad

pub read_short : (old now : Option (List ℕ)) (r : Gathered) (text : Vec ℕ Global) (bytes : List ℕ) → r ≡ gathered.Short text → bytes ≡ text.items → IsRead r old now → HasShortText old now bytes
read_short old now r text bytes is same read =
    let short : HasShortText old now text.items = subst (λ (x : Gathered). IsRead x old now) is read in
    subst (HasShortText old now) (sym same) short
