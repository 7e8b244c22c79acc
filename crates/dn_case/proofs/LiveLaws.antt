-- A live line is read as an external line of group 0.
use Rattle.std.proofs.Common.{◌≡◌, ◌<◌, ℕ, ◌+◌, true, false, cond, eqb, nat_eq, nat_lt, List, [], ◌∷◌, length, Option, Some, None, Ok, Err, refl, ap, ◌∙◌, arith}
use Rattle.std.proofs.lemmas.Bool.Decides.{nat_tests}
use Rattle.dn_guest.specs.declared.input.Input.{Input}
use Rattle.std.specs.List.{position_from}
use Rattle.std.specs.Cmp.Lexicographic.{pointwise}
use Rattle.std.proofs.lemmas.Iterator.Adapters.{position_from-zero}
use Rattle.std.proofs.lemmas.List.Sums.{sum_by-cons}
use Rattle.std.proofs.lemmas.List.Splits.{length-slice_split}
use Rattle.dn_model.specs.declared.router.RouterDef.{RouterDef}
use Rattle.dn_model.specs.declared.link.Link.{Link}
use Rattle.dn_model.specs.Routers.{number_of}
use Rattle.dn_model.specs.Links.{names, ports_of}
use Rattle.dn_text.specs.Decimals.{numeral_of}
use Rattle.dn_text.specs.Lines.{parts}
use Rattle.dn_text.specs.declared.decimals.Number.TheVariants.{Is}
use Rattle.dn_model.specs.Cases.{Heading, IsHeading}
use Rattle.dn_case.specs.declared.cause.Cause.{Cause}
use Rattle.dn_case.specs.declared.cause.Cause.TheVariants as cause
use Rattle.dn_case.specs.Standings.{may_follow, ask_fits, lacks_port, input_of, taken, judged}
use Rattle.dn_case.specs.Takings.{with_external}
use Rattle.dn_case.specs.Shapes.{Ask, Line, External, ◌>>=◌, one_field, two_fields, three_fields, four_fields, five_fields, line_of_fields, line_of}
use Rattle.dn_case.specs.LiveLines.{live_of_fields, timed, untimed, behind_header, live_reading, IsLiveLine}
use Rattle.dn_case.proofs.ExternalLines.{external_found, no_line_read, fault_read}
use Rattle.dn_case.proofs.Fields.{part_then}
use Rattle.dn_case.proofs.Spelled.{newline_again}

behind_group : (fields : List (List ℕ)) → line_of_fields ((64 ∷ 48 ∷ []) ∷ fields) ≡ live_of_fields fields
unfolding one_field two_fields three_fields four_fields five_fields numeral_of
behind_group [] = refl
behind_group (a ∷ []) = refl
behind_group (a ∷ b ∷ []) = refl
behind_group (a ∷ b ∷ c ∷ []) = refl
behind_group (a ∷ b ∷ c ∷ d ∷ []) = refl
behind_group (a ∷ b ∷ c ∷ d ∷ e ∷ more) = refl

pub timed_fields : (line : List ℕ) → line_of (timed line) ≡ live_of_fields (parts 32 line)
unfolding line_of
timed_fields line =
    ap (λ (o : Option (List ℕ)). o >>= λ text. line_of_fields (parts 32 text)) (newline_again (64 ∷ 48 ∷ 32 ∷ line))
    ∙ ap line_of_fields (part_then 32 (64 ∷ 48 ∷ []) line refl)
    ∙ behind_group (parts 32 line)

-- ---- routers and links, one by one

pub number_first : (routers : List RouterDef) (name : List ℕ) → number_of routers name ≡ position_from (λ r. pointwise nat_eq name r.name) 0 routers
unfolding number_of
number_first routers name = position_from-zero (λ (r : RouterDef). pointwise nat_eq name r.name) routers

pub ports_none : (ls : List Link) (r : ℕ) → length ls ≡ 0 → ports_of ls r ≡ 0
unfolding ports_of
ports_none [] r none = refl
ports_none (l ∷ ls) r none = absurd (omega (arith, none))

pub ports_cons : (l : Link) (ls : List Link) (r : ℕ) → ports_of (l ∷ ls) r ≡ cond (names r l) 1 0 + ports_of ls r
unfolding ports_of
ports_cons l ls r = sum_by-cons (λ (x : Link). cond (names r x) 1 0) l ls

-- ---- lines with too many fields

some_part : (separator : ℕ) (text : List ℕ) → 0 < length (parts separator text)
unfolding parts
some_part separator text = omega (arith, length-slice_split (λ byte. eqb byte separator) text)

four : (a b c : List ℕ) (rest : List (List ℕ)) → 0 < length rest → None ≡ live_of_fields (a ∷ b ∷ c ∷ rest)
four a b c [] some = absurd (omega arith)
four a b c (x ∷ rest) some = refl

pub four_parts : (t0 t1 t2 t3 a b c : List ℕ) → parts 32 t0 ≡ a ∷ parts 32 t1 → parts 32 t1 ≡ b ∷ parts 32 t2 → parts 32 t2 ≡ c ∷ parts 32 t3 → None ≡ live_of_fields (parts 32 t0)
four_parts t0 t1 t2 t3 a b c e0 e1 e2 = rw (e0, e1, e2) (four a b c (parts 32 t3) (some_part 32 t3))

-- ---- a line of a header

abbrev Says : List ℕ → List ℕ → Ask → Type 0
Says line name a = live_of_fields (parts 32 line) ≡ Some (External (Is 0) name a)

pub bad_reading : (h : Heading) (line : List ℕ) → live_of_fields (parts 32 line) ≡ None → live_reading h line ≡ Err cause.Syntax
bad_reading h line none = ap (λ (o : Option Line). judged (behind_header h) o) (timed_fields line ∙ none)

pub no_live_line : (h : Heading) (line : List ℕ) → IsHeading h → live_of_fields (parts 32 line) ≡ None → (router : ℕ) (input : Input) → ¬ IsLiveLine h router input line
no_live_line h line rules none router input = no_line_read (behind_header h) (timed line) rules refl (timed_fields line ∙ none) (untimed router input)

pub taken_reading : (h : Heading) (line name : List ℕ) (a : Ask) → Says line name a → live_reading h line ≡ taken (behind_header h) (External (Is 0) name a)
unfolding may_follow
taken_reading h line name a is = ap (λ (o : Option Line). judged (behind_header h) o) (timed_fields line ∙ is)

pub fault_live_line : (h : Heading) (line name : List ℕ) (a : Ask) (c : Cause) → IsHeading h → Says line name a → taken (behind_header h) (External (Is 0) name a) ≡ Err c → (router : ℕ) (input : Input) → ¬ IsLiveLine h router input line
fault_live_line h line name a c rules is bad router input = fault_read (behind_header h) (timed line) (Is 0) name a c rules refl (timed_fields line ∙ is) bad (untimed router input)

pub live_line_found : (h : Heading) (line name : List ℕ) (a : Ask) (router : ℕ) (input : Input) → IsHeading h → Says line name a → taken (behind_header h) (External (Is 0) name a) ≡ Ok (with_external (behind_header h) (untimed router input)) → IsLiveLine h router input line
live_line_found h line name a router input rules is ok = external_found (behind_header h) (untimed router input) (timed line) (Is 0) name a rules refl (timed_fields line ∙ is) ok

first_group : (h : Heading) → IsHeading h → nat_lt 0 h.groups ≡ true
first_group h rules = let some = rules.groups.0 in grind (arith, nat_tests)

pub range_taken : (h : Heading) (name : List ℕ) (a : Ask) → IsHeading h → ask_fits a ≡ false → taken (behind_header h) (External (Is 0) name a) ≡ Err cause.Range
range_taken h name a rules fits = rw (first_group h rules, fits) refl

pub name_taken : (h : Heading) (name : List ℕ) (a : Ask) → IsHeading h → ask_fits a ≡ true → number_of h.routers name ≡ None → taken (behind_header h) (External (Is 0) name a) ≡ Err cause.Name
name_taken h name a rules fits none = rw (first_group h rules, fits, none) refl

pub port_taken : (h : Heading) (name : List ℕ) (a : Ask) (i : ℕ) → IsHeading h → ask_fits a ≡ true → number_of h.routers name ≡ Some i → lacks_port (ports_of h.links i) a ≡ true → taken (behind_header h) (External (Is 0) name a) ≡ Err cause.Port
port_taken h name a i rules fits is lacks = rw (first_group h rules, fits, is, lacks) refl

pub live_taken : (h : Heading) (name : List ℕ) (a : Ask) (i : ℕ) → IsHeading h → ask_fits a ≡ true → number_of h.routers name ≡ Some i → lacks_port (ports_of h.links i) a ≡ false → taken (behind_header h) (External (Is 0) name a) ≡ Ok (with_external (behind_header h) (untimed i (input_of a)))
live_taken h name a i rules fits is has = rw (first_group h rules, fits, is, has) refl
