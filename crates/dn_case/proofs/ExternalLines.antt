-- A line that is read as an external is spelled so, and the external meets the rules of the header.
use Rattle.std.proofs.Common.{Bor, ◌≡◌, ℕ, ◌<◌, ◌≤◌, ◌^◌, true, not, ◌&&◌, List, [], ◌∷◌, ◌++◌, length, Option, Some, None, unwrap_or, Result, Ok, Err, refl, sym, ap, subst, ◌∙◌, arith}
use Rattle.dn_guest.specs.Hex.{hex}
use Rattle.dn_model.specs.declared.link.Link.{Link as LinkDef}
use Rattle.dn_model.specs.declared.feed.External.{External as ExternalDef}
use Rattle.dn_model.specs.Routers.{number_of, name_at}
use Rattle.dn_model.specs.Links.{ports_of}
use Rattle.dn_model.specs.Cases.{Heading, IsHeading, IsExternal, AreLinks}
use Rattle.dn_text.specs.declared.decimals.Number.{Number}
use Rattle.dn_text.specs.declared.decimals.Number.TheVariants.{Is, Beyond}
use Rattle.dn_text.specs.Hexadecimals.{unhex}
use Rattle.dn_text.proofs.HexadecimalLaws.{of_hex}
use Rattle.dn_case.specs.declared.shape.Asked.{Asked}
use Rattle.dn_case.specs.declared.shape.Shape.{Shape}
use Rattle.dn_case.specs.declared.shape.Shape.TheVariants as shape
use Rattle.dn_case.specs.declared.standing.Standing.{Standing}
use Rattle.dn_case.specs.declared.cause.Cause.{Cause}
use Rattle.dn_case.specs.declared.cause.Cause.TheVariants as cause
use Rattle.dn_case.specs.declared.place.Place.TheVariants as place
use Rattle.dn_case.specs.Shapes.{line, Ask, Cmd, Down, Up, Line, External, before_newline, line_of}
use Rattle.dn_case.specs.Standings.{below, value, is_known, ask_fits, number_at, input_of, last_group, first_of, table, after, taken}
use Rattle.dn_case.specs.Spelling.{IsSmall, IsWithin, spelled, asked_by, external_line}
use Rattle.dn_case.specs.Takings.{with_external}
use Rattle.dn_case.specs.Reading.{case_of}
use Rattle.dn_case.specs.Externals.{IsExternalLine}
use Rattle.dn_case.specs.LiveLines.{behind_header}
use Rattle.dn_case.proofs.ReadLines.{with_newline, read_spelled}
use Rattle.dn_case.proofs.RouterLaws.{numbered}
use Rattle.dn_case.proofs.RoundTrip.{ports_few, read_again, external_free, external_is, external_spellable}
use Rattle.dn_case.proofs.Sound.{new_external}
use Rattle.dn_case.proofs.Spelled.{spelled_again}
use Rattle.dn_case.proofs.Taken.{free_of, free_test, held, both, known_is, well, IsWell, less, in_range}

-- ---- the line

pub newline_is : (text line : List ℕ) → before_newline text ≡ Some line → text ≡ line ++ 10 ∷ []
newline_is text line e = with_newline text line e

abbrev pub IsSmallAsk : Ask → Type 0
IsSmallAsk (Cmd hex) = Unit {0}
IsSmallAsk (Down port) = IsSmall port
IsSmallAsk (Up port) = IsSmall port

pub external_within : (group : Number) (name : List ℕ) (a : Ask) → IsSmall group → IsSmallAsk a → IsWithin (External group name a)
external_within group name (Cmd hex) small low = small
external_within group name (Down port) small low = (small, low)
external_within group name (Up port) small low = (small, low)

-- A line that is read as an external whose numbers are no more than 64 bits is that external's spelling.
external_text : (text : List ℕ) (group : Number) (name : List ℕ) (a : Ask) → line_of text ≡ Some (External group name a) → IsSmall group → IsSmallAsk a → text ≡ spelled (External group name a)
external_text text group name a e small low = (read_spelled text (External group name a) e (external_within group name a small low)).0

-- ---- the external

below_small : (high : ℕ) (n : Number) → below high n ≡ true → high ≤ 4096 → IsSmall n
below_small high (Is n) e few = (let lt : n < high = less n high e in omega arith)
below_small high Beyond e few = absurd cc

fits_small : (a : Ask) → ask_fits a ≡ true → IsSmallAsk a
fits_small (Cmd hex) e = tt
fits_small (Down (Is n)) e = (let k = in_range 0 15 (Is n) e in omega arith)
fits_small (Down Beyond) e = absurd cc
fits_small (Up (Is n)) e = (let k = in_range 0 15 (Is n) e in omega arith)
fits_small (Up Beyond) e = absurd cc

number_same : (n : Number) → IsSmall n → Is (value n) ≡ n
number_same (Is n) small = refl
number_same Beyond small = absurd small

unwrapped : (o : Option (List ℕ)) (bytes : List ℕ) → o ≡ Some bytes → unwrap_or o [] ≡ bytes
unwrapped o bytes e = ap (λ (x : Option (List ℕ)). unwrap_or x []) e

ask_same : (group : Number) (name : List ℕ) (a : Ask) → IsWell (External group name a) → IsSmallAsk a → asked_by (input_of a) ≡ a
ask_same group name (Cmd digits) shape small =
    let found = of_hex digits shape in
    ap (λ (b : List ℕ). Cmd (hex b)) (unwrapped (unhex digits) found.0 found.1) ∙ ap Cmd found.2.same
ask_same group name (Down port) shape small = ap Down (number_same port small)
ask_same group name (Up port) shape small = ap Up (number_same port small)

abbrev pub new_of : Standing → Number → List ℕ → Ask → ExternalDef
new_of s group name a = record { group = value group; router = number_at s name; input = input_of a }

pub line_again : (s : Standing) (group : Number) (name : List ℕ) (a : Ask) → IsHeading (case_of s).header → IsWell (External group name a) → first_of (table s (External group name a)) ≡ None →
    IsSmall group × IsSmallAsk a × (external_line s.routers (new_of s group name a) ≡ External group name a)
line_again s group name a h shape free =
    let range = free_test (not (below s.groups group && ask_fits a)) cause.Range _ free in
    let unknown = free_test (not (is_known s name)) cause.Name _ range.1 in
    let ranges = both (below s.groups group) (ask_fits a) (held _ range.0) in
    let i = known_is (number_of s.routers name) (held (is_known s name) unknown.0) in
    let small = below_small s.groups group ranges.0 h.groups.1 in
    let low = fits_small a ranges.1 in
    let named : name_at s.routers (number_at s name) ≡ name = sym (numbered s.routers name _ i).named in
    let asked = ask_same group name a shape low in
    (small, low, rw (number_same group small, named, asked) refl)

first_same : (xs : List ExternalDef) (x y : ExternalDef) → xs ≡ [] → xs ++ x ∷ [] ≡ xs ++ y ∷ [] → x ≡ y
first_same [] x y none e = cc
first_same (z ∷ xs) x y none e = absurd cc

-- What is taken of a line is its external.
pub external_found : (s : Standing) (x : ExternalDef) (text : List ℕ) (group : Number) (name : List ℕ) (a : Ask) → IsHeading (case_of s).header → s.feed ≡ [] → line_of text ≡ Some (External group name a) →
    taken s (External group name a) ≡ Ok (with_external s x) → IsExternalLine (case_of s).header x text
external_found s x text group name a h none line e =
    let f = free_of (first_of (table s (External group name a))) (after s (External group name a)) (with_external s x) e in
    let shape = well text (External group name a) line in
    let new = new_external s group name a shape f.0 in
    let low : last_group 0 s.feed ≡ 0 = ap (λ (xs : List ExternalDef). last_group 0 xs) none in
    let again = line_again s group name a h shape f.0 in
    let is = external_text text group name a line again.0 again.1 in
    let same : new_of s group name a ≡ x = sym (first_same s.feed x (new_of s group name a) none (ap (λ (t : Standing). t.feed) f.1)) in
    let meets : IsExternal (case_of s).header 0 (new_of s group name a) = subst (λ (n : ℕ). IsExternal (case_of s).header n (new_of s group name a)) low new in
    subst (λ (y : ExternalDef). IsExternalLine (case_of s).header y text) same (record { meets = meets; is = is ∙ ap spelled (sym again.2) })

-- ---- and no other line is

-- the line of an external that meets the rules is read as it, and has no cause
pub record IsReadSo (s : Standing) (x : ExternalDef) (text : List ℕ) : Type 0 where
  pub line : line_of text ≡ Some (external_line s.routers x)
  pub free : first_of (table s (external_line s.routers x)) ≡ None

pub external_read : (s : Standing) (x : ExternalDef) (text : List ℕ) → IsHeading (case_of s).header → s.feed ≡ [] → IsExternalLine (case_of s).header x text → IsReadSo s x text
external_read s x text h none is =
    let high : IsExternal (case_of s).header (last_group 0 s.feed) x = subst (λ (n : ℕ). IsExternal (case_of s).header n x) (sym (ap (λ (xs : List ExternalDef). last_group 0 xs) none)) is.meets in
    let named = (read_again s.routers x.router h.routers is.meets.router).named in
    let few = ports_few (length s.routers) x.router s.links h.links in
    let small : x.group < 2 ^ 64 = omega (arith, is.meets.group, h.groups.1) in
    record {
      line = ap line_of is.is ∙ spelled_again (external_line s.routers x) (external_spellable (ports_of s.links x.router) x.group (name_at s.routers x.router) x.input small named few is.meets.asked);
      free = external_free s.place s s.feed x h high;
    }

pub no_line_read : (s : Standing) (text : List ℕ) → IsHeading (case_of s).header → s.feed ≡ [] → line_of text ≡ None → (x : ExternalDef) → ¬ IsExternalLine (case_of s).header x text
no_line_read s text h none e x is = (let r = external_read s x text h none is in let no : None ≡ Some (external_line s.routers x) = sym e ∙ r.line in absurd cc)

ok_or_err : (s : Standing) (c : Cause) → ◌≡◌ {A = Result Standing Cause} (Ok s) (Err c) → ⊥
ok_or_err s c e = absurd cc

pub fault_read : (s : Standing) (text : List ℕ) (group : Number) (name : List ℕ) (a : Ask) (c : Cause) → IsHeading (case_of s).header → s.feed ≡ [] → line_of text ≡ Some (External group name a) →
    taken s (External group name a) ≡ Err c → (x : ExternalDef) → ¬ IsExternalLine (case_of s).header x text
fault_read s text group name a c h none line e x is =
    let r = external_read s x text h none is in
    let same : external_line s.routers x ≡ External group name a = (let k : Some (external_line s.routers x) ≡ Some (External group name a) = sym r.line ∙ line in cc) in
    let free : first_of (table s (External group name a)) ≡ None = subst (λ (l : Line). first_of (table s l) ≡ None) same r.free in
    ok_or_err (after s (External group name a)) c (rw free at e)

-- ---- links of no more routers

-- the rules of links hold for more routers, too
pub links_wide : (m n : ℕ) (before ls : List LinkDef) → m ≤ n → AreLinks m before ls → AreLinks n before ls
links_wide m n before [] few h = tt
links_wide m n before (l ∷ ls) few h = (
  record {
    inside = (omega (arith, h.0.inside.0, few), omega (arith, h.0.inside.1, few));
    differ = h.0.differ;
    a_port = h.0.a_port;
    b_port = h.0.b_port;
    ports = h.0.ports;
    delay = h.0.delay;
    cost = h.0.cost;
  },
  links_wide m n (before ++ l ∷ []) ls few h.1,
)

-- ---- a line of another shape

pub other_line_read : (s : Standing) (text : List ℕ) (l : Line) → IsHeading (case_of s).header → s.feed ≡ [] → line_of text ≡ Some l → ((group : Number) (name : List ℕ) (a : Ask) → l ≡ External group name a → ⊥) → (x : ExternalDef) → ¬ IsExternalLine (case_of s).header x text
other_line_read s text l h none e other x is =
    let r = external_read s x text h none is in
    let same : l ≡ external_line s.routers x = (let k : Some l ≡ Some (external_line s.routers x) = sym e ∙ r.line in cc) in
    other _ _ _ same

pub other_shape : (sh : Shape) → ((group : Number) (name : Bor (List ℕ)) (asked : Asked) → sh ≡ shape.External group name asked → ⊥) → (group : Number) (name : List ℕ) (a : Ask) → line sh ≡ External group name a → ⊥
other_shape (shape.External group name asked) other _ _ _ e = other group name asked refl
other_shape (shape.Version n) other _ _ _ e = absurd cc
other_shape (shape.Period n) other _ _ _ e = absurd cc
other_shape (shape.Groups n) other _ _ _ e = absurd cc
other_shape (shape.Seed n) other _ _ _ e = absurd cc
other_shape (shape.Router name kind) other _ _ _ e = absurd cc
other_shape (shape.Link a b delay cost) other _ _ _ e = absurd cc
other_shape (shape.Prefix name net cost) other _ _ _ e = absurd cc
other_shape shape.Feed other _ _ _ e = absurd cc
other_shape shape.End other _ _ _ e = absurd cc

-- ---- one external

taken_so : (h : Heading) (x : ExternalDef) → IsHeading h → IsExternal h 0 x → after (behind_header h) (external_line h.routers x) ≡ with_external (behind_header h) x
taken_so h x k is = external_is place.Feed (behind_header h) [] x k is

-- A line is of one external at most.
pub one_external : (h : Heading) (x y : ExternalDef) (text : List ℕ) → IsHeading h → IsExternalLine h x text → IsExternalLine h y text → x ≡ y
one_external h x y text k p q =
    let s = behind_header h in
    let a = external_read s x text k refl p in
    let b = external_read s y text k refl q in
    let same : external_line h.routers x ≡ external_line h.routers y = (let e : Some (external_line h.routers x) ≡ Some (external_line h.routers y) = sym a.line ∙ b.line in cc) in
    let both : with_external s x ≡ with_external s y = sym (taken_so h x k p.meets) ∙ ap (λ (l : Line). after s l) same ∙ taken_so h y k q.meets in
    first_same [] x y refl (ap (λ (t : Standing). t.feed) both)
