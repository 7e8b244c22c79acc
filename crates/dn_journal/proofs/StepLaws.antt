-- The line of a step, written and read.
use Rattle.std.proofs.Common.{◌≡◌, ◌⊎◌, inl, inr, ℕ, ◌<◌, ◌≤◌, ◌^◌, Bool, true, false, cond, ◌&&◌, eqb, nat_eq, nat_le, nat_lt, List, [], ◌∷◌, ◌++◌, length, take, drop, Option, Some, None, IsTrue, refl, sym, ap, subst, ◌∙◌, arith, rules, tests, append_assoc, codes}
use Rattle.std.specs.Prelude.{◌↔◌}
use Rattle.std.specs.Option.{option_eq, option_map}
use Rattle.std.proofs.lemmas.Bool.{eqb-true}
use Rattle.std.specs.List.{starts_with}
use Rattle.std.specs.Fmt.{decimal}
use Rattle.std.specs.Str.Parse.{digits_value}
use Rattle.std.specs.Cmp.Lexicographic.{pointwise, bytes_decides}
use Rattle.std.proofs.lemmas.List.{take-append-drop, append_cancel_left, append_cancel_right}
use Rattle.std.proofs.Math.Seq.{take-append_seam, drop-append_seam}
use Rattle.dn_guest.specs.declared.input.Input.{Input}
use Rattle.dn_guest.specs.declared.input.Input.TheVariants as input
use Rattle.dn_model.specs.declared.router.RouterDef.{RouterDef}
use Rattle.dn_model.specs.declared.feed.External.{External}
use Rattle.dn_model.specs.Routers.{number_of, name_at}
use Rattle.dn_model.specs.Links.{ports_of}
use Rattle.dn_model.specs.Cases.{Heading, IsHeading, IsAsked, IsExternal}
use Rattle.dn_text.specs.declared.decimals.Number.{Number}
use Rattle.dn_text.specs.declared.decimals.Number.TheVariants.{Is, Beyond}
use Rattle.dn_text.specs.Decimals.{is_decimal, number, numeral_of, within, decimal_of}
use Rattle.dn_text.proofs.DecimalLaws.{decimal_again, text_is}
use Rattle.dn_world.specs.declared.step.Step.{Step}
use Rattle.dn_world.specs.declared.step.Step.TheVariants.{Beacon, Inject, Close, Deliver, Handle, RollBack, Commit}
use Rattle.dn_world.specs.Steps.{is_injectable}
use Rattle.dn_case.specs.Shapes.{is_word, before_newline, ◌>>=◌}
use Rattle.dn_case.specs.Spelling.{IsFromOutside, spelled, external_line}
use Rattle.dn_case.specs.Externals.{IsExternalLine, Finds}
use Rattle.dn_case.proofs.RouterLaws.{numbered}
use Rattle.dn_case.proofs.RoundTrip.{read_again}
use Rattle.dn_case.proofs.Spelled.{newline_again}
use Rattle.dn_case.proofs.ExternalLines.{newline_is, one_external}
use Rattle.dn_journal.specs.Spelling.{HasBytes, IsStep, step_line, end_line}
use Rattle.dn_journal.specs.Fields.{behind, of_field, field_step, plain_step}
use Rattle.dn_journal.specs.Reading.{IsStepLine}

-- ---- behind a word

pub behind_is : (word text rest : List ℕ) → behind word text ≡ Some rest → text ≡ word ++ rest
behind_is word text rest e =
    elim (starts_with nat_eq text word) as (λ b. starts_with nat_eq text word ≡ b → cond b (Some (drop (length word) text)) None ≡ Some rest → text ≡ word ++ rest) [
      | true ↦ λ is e. (
          let front : word ≡ take (length word) text = (bytes_decides word (take (length word) text)).0 is in
          let tail : drop (length word) text ≡ rest = cc in
          sym (take-append-drop (length word) text) ∙ ap (λ (x : List ℕ). x ++ drop (length word) text) (sym front) ∙ ap (λ (x : List ℕ). word ++ x) tail)
      | false ↦ λ _ e. absurd cc
    ] refl e

own : (word text : List ℕ) → word ≡ text → pointwise nat_eq word text ≡ true
own word text e = (bytes_decides word text).1 e

pub behind_again : (word rest : List ℕ) → behind word (word ++ rest) ≡ Some rest
behind_again word rest =
    let yes : starts_with nat_eq (word ++ rest) word ≡ true = own word (take (length word) (word ++ rest)) (sym (take-append_seam word rest)) in
    rw (yes, drop-append_seam word rest) refl

-- ---- decimals of 64 bits

within_small : (n m : ℕ) → within (Some (number m)) ≡ Some n → n < 2 ^ 64
within_small n m e =
    elim (nat_lt m (2 ^ 64)) as (λ b. nat_lt m (2 ^ 64) ≡ b → within (Some (cond b (Is m) Beyond)) ≡ Some n → n < 2 ^ 64) [
      | true ↦ λ is e. (
          let same : m ≡ n = cc in
          let less : m < 2 ^ 64 = search (rules, tests) in
          subst (λ (x : ℕ). x < 2 ^ 64) same less)
      | false ↦ λ _ e. absurd cc
    ] refl e

pub decimal_small : (field : List ℕ) (n : ℕ) → decimal_of field ≡ Some n → n < 2 ^ 64
unfolding numeral_of
decimal_small field n e =
    elim (is_decimal field) as (λ b. within (cond b (Some (number (digits_value 10 field))) None) ≡ Some n → n < 2 ^ 64) [
      | true ↦ λ e. within_small n _ e
      | false ↦ λ e. absurd cc
    ] e

-- ---- what may be injected

injectable : (h : Heading) (r : ℕ) (i : Input) → IsAsked (ports_of h.links r) i → (is_injectable h r i ≡ true) × HasBytes i
unfolding is_injectable
injectable h r (input.Cmd body) is = (
  (let low : nat_le 1 (length body) ≡ true = (let k = is.0 in search (rules, tests)) in let high : nat_le (length body) 255 ≡ true = (let k = is.1 in search (rules, tests)) in rw (low, high) refl),
  is.2,
)
injectable h r (input.Down port) is = ((search (rules, tests)), tt)
injectable h r (input.Up port) is = ((search (rules, tests)), tt)
injectable h r (input.Tick group) is = absurd is
injectable h r (input.Msg port body) is = absurd is

both : (a b : Bool) → (a && b) ≡ true → (a ≡ true) × (b ≡ true)
both true b e = (refl, e)
both false b e = absurd cc

asked : (h : Heading) (r : ℕ) (i : Input) → is_injectable h r i ≡ true → HasBytes i → IsAsked (ports_of h.links r) i
unfolding is_injectable
asked h r (input.Cmd body) is all =
    let k = both (nat_le 1 (length body)) (nat_le (length body) 255) is in
    let low : 1 ≤ length body = (let e = k.0 in search (rules, tests)) in
    let high : length body ≤ 255 = (let e = k.1 in search (rules, tests)) in
    (low, high, all)
asked h r (input.Down port) is all = search (rules, tests)
asked h r (input.Up port) is all = search (rules, tests)
asked h r (input.Tick group) is all = absurd cc
asked h r (input.Msg port body) is all = absurd cc

pub step_of_external : (h : Heading) (x : External) → IsExternal h 0 x → IsStep h (Inject x)
step_of_external h x is =
    let k = injectable h x.router x.input is.asked in
    record { of = (is.group, is.router, k.0); fits = k.1 }

pub external_of_step : (h : Heading) (x : External) → IsStep h (Inject x) → IsExternal h 0 x
external_of_step h x is =
    record { rises = omega arith; group = is.of.0; router = is.of.1; asked = asked h x.router x.input is.of.2 is.fits }

-- ---- lines that inject nothing

abbrev pub IsPlain : Step → Type 0
IsPlain Beacon = Unit {0}
IsPlain (Inject x) = ⊥
IsPlain Close = Unit {0}
IsPlain (Deliver place) = Unit {0}
IsPlain (Handle r) = Unit {0}
IsPlain (RollBack r) = Unit {0}
IsPlain Commit = Unit {0}

-- the line before its newline
abbrev said : Heading → Step → List ℕ
said h Beacon = codes "beacon"
said h (Inject x) = []
said h Close = codes "close"
said h (Deliver place) = codes "deliver " ++ decimal place
said h (Handle r) = codes "handle " ++ name_at h.routers r
said h (RollBack r) = codes "rollback " ++ name_at h.routers r
said h Commit = codes "commit"

line_is : (h : Heading) (s : Step) → IsPlain s → step_line h s ≡ said h s ++ 10 ∷ []
line_is h Beacon p = refl
line_is h (Inject x) p = absurd p
line_is h Close p = refl
line_is h (Deliver place) p = sym (append_assoc (codes "deliver ") (decimal place) (10 ∷ []))
line_is h (Handle r) p = sym (append_assoc (codes "handle ") (name_at h.routers r) (10 ∷ []))
line_is h (RollBack r) p = sym (append_assoc (codes "rollback ") (name_at h.routers r) (10 ∷ []))
line_is h Commit p = refl

abbrev place_of : List ℕ → Option Step
place_of field = option_map Deliver (decimal_of field)

abbrev handle_of : List RouterDef → List ℕ → Option Step
handle_of rs field = option_map Handle (number_of rs field)

abbrev roll_back_of : List RouterDef → List ℕ → Option Step
roll_back_of rs field = option_map RollBack (number_of rs field)

abbrev rolled : List RouterDef → List ℕ → Option Step
rolled rs text = of_field (behind (codes "rollback ") text) (roll_back_of rs) None

abbrev handled : List RouterDef → List ℕ → Option Step
handled rs text = of_field (behind (codes "handle ") text) (handle_of rs) (rolled rs text)

at_field : (o : Option (List ℕ)) (field : List ℕ) (step : List ℕ → Option Step) (other : Option Step) (s : Step) → o ≡ Some field → step field ≡ Some s → of_field o step other ≡ Some s
at_field o field step other s e f = ap (λ (x : Option (List ℕ)). of_field x step other) e ∙ f

said_again : (h : Heading) (s : Step) → IsHeading h → IsPlain s → IsStep h s → plain_step h.routers (said h s) ≡ Some s
unfolding plain_step field_step
said_again h Beacon k p is = refl
said_again h (Inject x) k p is = absurd p
said_again h Close k p is = refl
said_again h (Deliver place) k p is =
    let text = codes "deliver " ++ decimal place in
    at_field (behind (codes "deliver ") text) (decimal place) place_of (handled h.routers text) (Deliver place) (behind_again (codes "deliver ") (decimal place))
    (ap (λ (o : Option Number). option_map Deliver (within o)) (decimal_again place is.fits))
said_again h (Handle r) k p is =
    let name = name_at h.routers r in
    let text = codes "handle " ++ name in
    at_field (behind (codes "handle ") text) name (handle_of h.routers) (rolled h.routers text) (Handle r) (behind_again (codes "handle ") name)
    (ap (λ (o : Option ℕ). option_map Handle o) (read_again h.routers r k.routers is.of).number)
said_again h (RollBack r) k p is =
    let name = name_at h.routers r in
    let text = codes "rollback " ++ name in
    at_field (behind (codes "rollback ") text) name (roll_back_of h.routers) None (RollBack r) (behind_again (codes "rollback ") name)
    (ap (λ (o : Option ℕ). option_map RollBack o) (read_again h.routers r k.routers is.of).number)
said_again h Commit k p is = refl

pub plain_again : (h : Heading) (s : Step) → IsHeading h → IsPlain s → IsStep h s → (before_newline (step_line h s) >>= plain_step h.routers) ≡ Some s
plain_again h s k p is =
    ap (λ (t : List ℕ). before_newline t >>= plain_step h.routers) (line_is h s p)
    ∙ ap (λ (o : Option (List ℕ)). o >>= plain_step h.routers) (newline_again (said h s))
    ∙ said_again h s k p is

-- a step that injects nothing, whose line before its newline is this
record IsSaid (h : Heading) (s : Step) (text : List ℕ) : Type 0 where
  plain : IsPlain s
  step : IsStep h s
  is : text ≡ said h s

said_as : (h : Heading) (text : List ℕ) (s t : Step) → IsSaid h s text → Some s ≡ Some t → IsSaid h t text
said_as h text s t is e = let same : s ≡ t = cc in subst (λ (x : Step). IsSaid h x text) same is

says_place : (h : Heading) (field text : List ℕ) (s : Step) (o : Option ℕ) → decimal_of field ≡ o → text ≡ codes "deliver " ++ field → option_map Deliver o ≡ Some s → IsSaid h s text
says_place h field text s None d is e = absurd cc
says_place h field text s (Some n) d is e =
    said_as h text (Deliver n) s (record { plain = tt; step = record { of = tt; fits = decimal_small field n d }; is = is ∙ ap (λ (x : List ℕ). codes "deliver " ++ x) (text_is field n d) }) e

says_handle : (h : Heading) (field text : List ℕ) (s : Step) (o : Option ℕ) → number_of h.routers field ≡ o → text ≡ codes "handle " ++ field → option_map Handle o ≡ Some s → IsSaid h s text
says_handle h field text s None d is e = absurd cc
says_handle h field text s (Some n) d is e =
    let at = numbered h.routers field n d in
    said_as h text (Handle n) s (record { plain = tt; step = record { of = at.inside; fits = tt }; is = is ∙ ap (λ (x : List ℕ). codes "handle " ++ x) at.named }) e

says_roll_back : (h : Heading) (field text : List ℕ) (s : Step) (o : Option ℕ) → number_of h.routers field ≡ o → text ≡ codes "rollback " ++ field → option_map RollBack o ≡ Some s → IsSaid h s text
says_roll_back h field text s None d is e = absurd cc
says_roll_back h field text s (Some n) d is e =
    let at = numbered h.routers field n d in
    said_as h text (RollBack n) s (record { plain = tt; step = record { of = at.inside; fits = tt }; is = is ∙ ap (λ (x : List ℕ). codes "rollback " ++ x) at.named }) e

-- the cases of a field
fielded : (o : Option (List ℕ)) (step : List ℕ → Option Step) (other : Option Step) (s : Step) → of_field o step other ≡ Some s → ((field : List ℕ) × (o ≡ Some field) × (step field ≡ Some s)) ⊎ (other ≡ Some s)
fielded None step other s e = inr e
fielded (Some field) step other s e = inl (field, refl, e)

field_said : (h : Heading) (text : List ℕ) (s : Step) → field_step h.routers text ≡ Some s → IsSaid h s text
unfolding field_step
field_said h text s e =
    elim (fielded (behind (codes "deliver ") text) _ _ s e) [
      | inl f ↦ says_place h f.0 text s (decimal_of f.0) refl (behind_is (codes "deliver ") text f.0 f.1) f.2
      | inr e ↦ elim (fielded (behind (codes "handle ") text) _ _ s e) [
        | inl f ↦ says_handle h f.0 text s (number_of h.routers f.0) refl (behind_is (codes "handle ") text f.0 f.1) f.2
        | inr e ↦ elim (fielded (behind (codes "rollback ") text) _ _ s e) [
          | inl f ↦ says_roll_back h f.0 text s (number_of h.routers f.0) refl (behind_is (codes "rollback ") text f.0 f.1) f.2
          | inr e ↦ absurd cc
        ]
      ]
    ]

chosen : (b : Bool) (x y : Option Step) (s : Step) → cond b x y ≡ Some s → ((b ≡ true) × (x ≡ Some s)) ⊎ (y ≡ Some s)
chosen true x y s e = inl (refl, e)
chosen false x y s e = inr e

word_said : (h : Heading) (text : List ℕ) (s t : Step) → IsPlain s → IsStep h s → is_word text (said h s) ≡ true → Some s ≡ Some t → IsSaid h t text
word_said h text s t p is w e = said_as h text s t (record { plain = p; step = is; is = (bytes_decides text (said h s)).0 w }) e

plain_said : (h : Heading) (text : List ℕ) (s : Step) → plain_step h.routers text ≡ Some s → IsSaid h s text
unfolding plain_step
plain_said h text s e =
    elim (chosen (is_word text (codes "beacon")) _ _ s e) [
      | inl w ↦ word_said h text Beacon s tt (record { of = tt; fits = tt }) w.0 w.1
      | inr e ↦ elim (chosen (is_word text (codes "close")) _ _ s e) [
        | inl w ↦ word_said h text Close s tt (record { of = tt; fits = tt }) w.0 w.1
        | inr e ↦ elim (chosen (is_word text (codes "commit")) _ _ s e) [
          | inl w ↦ word_said h text Commit s tt (record { of = tt; fits = tt }) w.0 w.1
          | inr e ↦ field_said h text s e
        ]
      ]
    ]

bind : (o : Option (List ℕ)) (f : List ℕ → Option Step) (s : Step) → (o >>= f) ≡ Some s → (text : List ℕ) × (o ≡ Some text) × (f text ≡ Some s)
bind None f s e = absurd cc
bind (Some text) f s e = (text, refl, e)

-- A line that is read as a step and injects nothing is the step's line.
pub plain_found : (h : Heading) (line : List ℕ) (s : Step) → (before_newline line >>= plain_step h.routers) ≡ Some s → IsStepLine h s line
plain_found h line s e =
    let text = bind (before_newline line) (plain_step h.routers) s e in
    let is = plain_said h text.0 s text.2 in
    record { step = is.step; is = newline_is line text.0 text.1 ∙ ap (λ (x : List ℕ). x ++ 10 ∷ []) is.is ∙ sym (line_is h s is.plain) }

-- ---- lines that inject, and others

plain_or_inject : (s : Step) → IsPlain s ⊎ ((x : External) × (s ≡ Inject x))
plain_or_inject Beacon = inl tt
plain_or_inject (Inject x) = inr (x, refl)
plain_or_inject Close = inl tt
plain_or_inject (Deliver place) = inl tt
plain_or_inject (Handle r) = inl tt
plain_or_inject (RollBack r) = inl tt
plain_or_inject Commit = inl tt

injects_nothing : (h : Heading) (s : Step) → IsPlain s → behind (codes "inject ") (step_line h s) ≡ None
injects_nothing h Beacon p = refl
injects_nothing h (Inject x) p = absurd p
injects_nothing h Close p = refl
injects_nothing h (Deliver place) p = refl
injects_nothing h (Handle r) p = refl
injects_nothing h (RollBack r) p = refl
injects_nothing h Commit p = refl

none_some : {A X : Type 0} (o : Option X) (x : X) → o ≡ None → o ≡ Some x → A
none_some o x p q = let e : None ≡ Some x = sym p ∙ q in absurd cc

pub plain_none : (h : Heading) (line : List ℕ) → IsHeading h → behind (codes "inject ") line ≡ None → (before_newline line >>= plain_step h.routers) ≡ None → (s : Step) → ¬ IsStepLine h s line
plain_none h line k alone none s is =
    elim (plain_or_inject s) [
      | inl p ↦ none_some _ s none (ap (λ (l : List ℕ). before_newline l >>= plain_step h.routers) is.is ∙ plain_again h s k p is.step)
      | inr i ↦ (
          let line_is : line ≡ codes "inject " ++ spelled (external_line h.routers i.0) = is.is ∙ ap (λ (t : Step). step_line h t) i.1 in
          none_some _ _ alone (ap (λ (l : List ℕ). behind (codes "inject ") l) line_is ∙ behind_again (codes "inject ") (spelled (external_line h.routers i.0))))
    ]

pub inject_found : (h : Heading) (line rest : List ℕ) (x : External) → behind (codes "inject ") line ≡ Some rest → IsExternalLine h x rest → IsStepLine h (Inject x) line
inject_found h line rest x e is =
    record { step = step_of_external h x is.meets; is = behind_is (codes "inject ") line rest e ∙ ap (λ (t : List ℕ). codes "inject " ++ t) is.is }

injects : (h : Heading) (line rest : List ℕ) (x : External) → behind (codes "inject ") line ≡ Some rest → IsStepLine h (Inject x) line → IsExternalLine h x rest
injects h line rest x e is =
    record { meets = external_of_step h x is.step; is = append_cancel_left (codes "inject ") rest (spelled (external_line h.routers x)) (sym (behind_is (codes "inject ") line rest e) ∙ is.is) }

pub inject_none : (h : Heading) (line rest : List ℕ) → behind (codes "inject ") line ≡ Some rest → ((x : External) → ¬ IsExternalLine h x rest) → (s : Step) → ¬ IsStepLine h s line
inject_none h line rest e none s is =
    elim (plain_or_inject s) [
      | inl p ↦ none_some _ rest (ap (λ (l : List ℕ). behind (codes "inject ") l) is.is ∙ injects_nothing h s p) e
      | inr i ↦ none i.0 (injects h line rest i.0 e (subst (λ (t : Step). IsStepLine h t line) i.1 is))
    ]

-- ---- one step

some_same : (s t : Step) → Some s ≡ Some t → s ≡ t
some_same s t e = cc

inject_rest : (h : Heading) (x : External) → behind (codes "inject ") (step_line h (Inject x)) ≡ Some (spelled (external_line h.routers x))
inject_rest h x = behind_again (codes "inject ") (spelled (external_line h.routers x))

inject_alone : {A : Type 0} (h : Heading) (s : Step) (x : External) (line : List ℕ) → IsPlain s → IsStepLine h s line → IsStepLine h (Inject x) line → A
inject_alone h s x line p a b =
    none_some (behind (codes "inject ") line) _ (ap (λ (l : List ℕ). behind (codes "inject ") l) a.is ∙ injects_nothing h s p) (ap (λ (l : List ℕ). behind (codes "inject ") l) b.is ∙ inject_rest h x)

plain_same : (h : Heading) (s t : Step) (line : List ℕ) → IsHeading h → IsPlain s → IsPlain t → IsStepLine h s line → IsStepLine h t line → s ≡ t
plain_same h s t line k p q a b =
    let read = λ (l : List ℕ). before_newline l >>= plain_step h.routers in
    some_same s t (sym (ap read a.is ∙ plain_again h s k p a.step) ∙ ap read b.is ∙ plain_again h t k q b.step)

inject_same : (h : Heading) (x y : External) (line : List ℕ) → IsHeading h → IsStepLine h (Inject x) line → IsStepLine h (Inject y) line → Inject x ≡ Inject y
inject_same h x y line k a b =
    let rest = spelled (external_line h.routers x) in
    let e : behind (codes "inject ") line ≡ Some rest = ap (λ (l : List ℕ). behind (codes "inject ") l) a.is ∙ inject_rest h x in
    ap Inject (one_external h x y rest k (injects h line rest x e a) (injects h line rest y e b))

-- A line is of one step at most.
pub one_step : (h : Heading) (s t : Step) (line : List ℕ) → IsHeading h → IsStepLine h s line → IsStepLine h t line → s ≡ t
one_step h s t line k a b =
    elim (plain_or_inject s) [
      | inl p ↦ elim (plain_or_inject t) [
        | inl q ↦ plain_same h s t line k p q a b
        | inr y ↦ inject_alone h s y.0 line p a (subst (λ (u : Step). IsStepLine h u line) y.1 b)
      ]
      | inr x ↦ elim (plain_or_inject t) [
        | inl q ↦ inject_alone h t x.0 line q b (subst (λ (u : Step). IsStepLine h u line) x.1 a)
        | inr y ↦ x.1 ∙ inject_same h x.0 y.0 line k (subst (λ (u : Step). IsStepLine h u line) x.1 a) (subst (λ (u : Step). IsStepLine h u line) y.1 b) ∙ sym y.1
      ]
    ]

-- ---- the last line

abbrev first : List ℕ → ℕ
first [] = 0
first (c ∷ cs) = c

differs : (a b : List ℕ) → ¬ (first a ≡ first b) → ¬ (a ≡ b)
differs a b apart e = apart (ap first e)

-- The last line is no step's.
pub no_end : (h : Heading) (s : Step) (count : ℕ) → ¬ (step_line h s ≡ end_line count)
no_end h Beacon count e = differs (step_line h Beacon) (end_line count) (λ k. omega arith) e
no_end h (Inject x) count e = differs (step_line h (Inject x)) (end_line count) (λ k. omega arith) e
no_end h Close count e = differs (step_line h Close) (end_line count) (λ k. omega arith) e
no_end h (Deliver place) count e = differs (step_line h (Deliver place)) (end_line count) (λ k. omega arith) e
no_end h (Handle r) count e = differs (step_line h (Handle r)) (end_line count) (λ k. omega arith) e
no_end h (RollBack r) count e = differs (step_line h (RollBack r)) (end_line count) (λ k. omega arith) e
no_end h Commit count e = differs (step_line h Commit) (end_line count) (λ k. omega arith) e

pub end_iff : (line rest field : List ℕ) (count : ℕ) (r : Option ℕ) (b : Bool) → line ≡ codes "end journal " ++ rest → rest ≡ field ++ 10 ∷ [] → ((r ≡ Some count) ↔ (field ≡ decimal count)) → (IsTrue b ↔ (r ≡ Some count)) → (IsTrue b ↔ (line ≡ end_line count))
end_iff line rest field count r b prefix suffix reads same = (
  λ yes. prefix ∙ ap (λ (x : List ℕ). codes "end journal " ++ x) (suffix ∙ ap (λ (x : List ℕ). x ++ 10 ∷ []) (reads.0 (same.0 yes))),
  λ is. (
      let cut : rest ≡ decimal count ++ 10 ∷ [] = append_cancel_left (codes "end journal ") rest (decimal count ++ 10 ∷ []) (sym prefix ∙ is) in
      same.1 (reads.1 (append_cancel_right field (decimal count) (10 ∷ []) (sym suffix ∙ cut)))),
)

-- ---- what the functions found

pub plain_finds : (h : Heading) (line : List ℕ) (o : Option Step) → IsHeading h → behind (codes "inject ") line ≡ None → o ≡ (before_newline line >>= plain_step h.routers) → Finds (λ s. IsStepLine h s line) o
plain_finds h line None k alone e = plain_none h line k alone (sym e)
plain_finds h line (Some s) k alone e = plain_found h line s (sym e)

pub from_outside : (h : Heading) (r : ℕ) (i : Input) → is_injectable h r i ≡ true → IsFromOutside i
unfolding is_injectable
from_outside h r (input.Cmd body) e = tt
from_outside h r (input.Down port) e = tt
from_outside h r (input.Up port) e = tt
from_outside h r (input.Tick group) e = absurd cc
from_outside h r (input.Msg port body) e = absurd cc

own_number : (n : ℕ) → eqb n n ≡ true
own_number n = search (rules, tests)

pub same_option : (o : Option ℕ) (n : ℕ) (b : Bool) → b ≡ option_eq eqb o (Some n) → (IsTrue b ↔ (o ≡ Some n))
same_option None n b e = (λ yes. absurd cc, λ is. absurd cc)
same_option (Some m) n b e = (
  λ yes. ap (λ (x : ℕ). Some x) (eqb-true m n (sym e ∙ yes)),
  λ is. (let same : m ≡ n = cc in e ∙ ap (λ (x : ℕ). eqb x n) same ∙ own_number n),
)
