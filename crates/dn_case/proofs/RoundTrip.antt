-- The lines of each section of a case that meets the rules are read again.
use Rattle.std.proofs.Common.{◌≡◌, ◌≢◌, ◌⊎◌, inl, inr, unwrap_or, ℕ, ◌+◌, ◌*◌, ◌<◌, ◌≤◌, ◌^◌, zero, suc, Bool, true, false, cond, ◌&&◌, ◌||◌, nat_eq, nat_le, nat_lt, eqb, List, [], ◌∷◌, ◌++◌, length, map, take, get_or, Option, Some, None, Ok, IsTrue, refl, sym, ap, subst, ◌∙◌, arith, rules, tests, append_assoc}
use Rattle.std.specs.Prelude.{position}
use Rattle.std.specs.List.{list_any, position_or_len}
use Rattle.std.specs.Cmp.Lexicographic.{pointwise, bytes_decides}
use Rattle.std.proofs.lemmas.Bool.{eqb-true}
use Rattle.std.proofs.lemmas.List.{append-nil, length-append, length-take, get_or-take}
use Rattle.std.proofs.lemmas.List.Sums.{position_or_len_is}
use Rattle.dn_guest.specs.Hex.{hex}
use Rattle.dn_guest.specs.declared.input.Input.{Input}
use Rattle.dn_guest.specs.declared.input.Input.TheVariants as input
use Rattle.dn_model.specs.declared.router.RouterDef.{RouterDef}
use Rattle.dn_model.specs.declared.link.Link.{Link as LinkDef}
use Rattle.dn_model.specs.declared.feed.External.{External as ExternalDef}
use Rattle.dn_model.specs.Names.{is_name}
use Rattle.dn_model.specs.Routers.{number_of, name_at}
use Rattle.dn_model.specs.Links.{names, ports_of}
use Rattle.dn_model.specs.Cases.{Heading, IsRouter, AreRouters, IsLink, AreLinks, IsHeading, IsAsked, IsExternal, AreExternals}
use Rattle.dn_text.specs.declared.decimals.Number.TheVariants.{Is}
use Rattle.dn_text.specs.Hexadecimals.{unhex}
use Rattle.dn_text.proofs.HexadecimalLaws.{unhex_again, is_hex_again, length-hex}
use Rattle.dn_case.specs.declared.standing.Standing.{Standing}
use Rattle.dn_case.specs.declared.place.Place.{Place}
use Rattle.dn_case.specs.declared.place.Place.TheVariants as place
use Rattle.dn_case.specs.Shapes.{Line, Version, Period, Groups, Seed, External}
use Rattle.dn_case.specs.Standings.{place_of, may_follow, between, ask_fits, lacks_port, input_of, last_group, first_of, table, after, judged, read_line, start}
use Rattle.dn_case.specs.Spelling.{spelled, IsSpellable, number_lines, router_line, link_line, asked_by, external_line}
use Rattle.dn_case.specs.Reading.{Leads, case_of}
use Rattle.dn_case.proofs.FeedLaws.{last_group-append}
use Rattle.dn_case.proofs.LinkLaws.{ports_of-append, ports_of-nil}
use Rattle.dn_case.proofs.PrefixLaws.{same_number, names_joined}
use Rattle.dn_case.proofs.RouterLaws.{nobody, name_of_number, nowhere}
use Rattle.dn_case.proofs.Spelled.{spelled_again}
use Rattle.dn_case.proofs.Taken.{neither}

-- one line that follows, and has no cause
pub reads_on : (s : Standing) (l : Line) → IsSpellable l → may_follow s.place (place_of l) ≡ true → first_of (table s l) ≡ None → read_line s (spelled l) ≡ Ok (after s l)
reads_on s l h m free =
    ap (λ (o : Option Line). judged s o) (spelled_again l h) ∙ rw (m, free) refl

pub le_true : (m n : ℕ) → m ≤ n → nat_le m n ≡ true
le_true m n h = search (rules, tests)

lt_true : (m n : ℕ) → m < n → nat_lt m n ≡ true
lt_true m n h = search (rules, tests)

pub le_false : (m n : ℕ) → n < m → nat_le m n ≡ false
le_false m n h = search (rules, tests)

lt_false : (m n : ℕ) → n ≤ m → nat_lt m n ≡ false
lt_false m n h = search (rules, tests)

pub both_true : (a b : Bool) → a ≡ true → b ≡ true → (a && b) ≡ true
both_true true b p q = q
both_true false b p q = p

pub is_between : (low high n : ℕ) → low ≤ n → n ≤ high → between low high (Is n) ≡ true
is_between low high n h k = both_true _ _ (le_true low n h) (le_true n high k)

-- ---- the numbers

abbrev pub numbered_at : Heading → Standing
numbered_at h = record { place = place.Seed; period = h.period; groups = h.groups; seed = h.seed; routers = []; links = []; feed = [] }

pub numbers_lead : (h : Heading) → IsHeading h → Leads start (map spelled (number_lines h)) (numbered_at h)
unfolding may_follow
numbers_lead h k =
    let s1 = after start (Version (Is 1)) in
    let s2 = after s1 (Period (Is h.period)) in
    let s3 = after s2 (Groups (Is h.groups)) in
    let period : first_of (table s1 (Period (Is h.period))) ≡ None = rw (is_between 1 1000000 h.period k.period.0 k.period.1) refl in
    let groups : first_of (table s2 (Groups (Is h.groups))) ≡ None = rw (is_between 1 4096 h.groups k.groups.0 k.groups.1) refl in
    let seed : first_of (table s3 (Seed (Is h.seed))) ≡ None = rw (lt_true h.seed (2 ^ 64) k.seed) refl in (
      s1,
      reads_on start (Version (Is 1)) (omega arith) refl refl,
      (
        s2,
        reads_on s1 (Period (Is h.period)) (omega (arith, k.period.1)) refl period,
        (
          s3,
          reads_on s2 (Groups (Is h.groups)) (omega (arith, k.groups.1)) refl groups,
          (numbered_at h, reads_on s3 (Seed (Is h.seed)) k.seed refl seed, refl),
        ),
      ),
    )

-- ---- the routers

abbrev pub at : Place → List RouterDef → Standing → Standing
at p rs s = record s { place = p; routers = rs }

router_free : (p : Place) (s : Standing) (before : List RouterDef) (r : RouterDef) → number_of before r.name ≡ None → length before < 64 → first_of (table (at p before s) (router_line r)) ≡ None
router_free p s before r apart few = rw (apart, le_false 64 (length before) few) refl

-- a router without its prefixes, as its line gives it
abbrev pub bare : RouterDef → RouterDef
bare r = record { name = r.name; kind = r.kind; prefixes = [] }

abbrev pub bares : List RouterDef → List RouterDef
bares rs = map bare rs

pub bare_names : (rs : List RouterDef) → map (λ r. r.name) (bares rs) ≡ map (λ r. r.name) rs
bare_names [] = refl
bare_names (r ∷ rs) = ap (λ (names : List (List ℕ)). r.name ∷ names) (bare_names rs)

pub length_bares : (rs : List RouterDef) → length (bares rs) ≡ length rs
length_bares [] = refl
length_bares (r ∷ rs) = ap suc (length_bares rs)

-- they meet the rules, too
pub are_bare : (before b rs : List RouterDef) → map (λ r. r.name) before ≡ map (λ r. r.name) b → AreRouters before rs → AreRouters b (bares rs)
are_bare before b [] same h = tt
are_bare before b (r ∷ rs) same h =
    let is : IsRouter b (bare r) = record { named = h.0.named; apart = same_number b before r.name (sym same) ∙ h.0.apart; few_prefixes = omega arith; prefixes = tt } in
    (is, are_bare (before ++ r ∷ []) (b ++ bare r ∷ []) rs (names_joined before (r ∷ []) ∙ ap (λ (names : List (List ℕ)). names ++ r.name ∷ []) same ∙ sym (names_joined b (bare r ∷ []))) h.1)

pub routers_lead : (p : Place) (s : Standing) (before rs : List RouterDef) → may_follow p place.Router ≡ true → (rs ≡ [] → p ≡ place.Router) → AreRouters before (bares rs) → length (before ++ bares rs) ≤ 64 →
    Leads (at p before s) (map spelled (map router_line rs)) (at place.Router (before ++ bares rs) s)
unfolding may_follow
routers_lead p s before [] m last are few =
    ap (λ (q : Place). at q before s) (last refl) ∙ ap (λ (rs : List RouterDef). at place.Router rs s) (sym (append-nil before))
routers_lead p s before (r ∷ rs) m last are few =
    let short : length before < 64 = omega (arith, few, length-append before (bare r ∷ bares rs)) in
    let regrouped : (before ++ bare r ∷ []) ++ bares rs ≡ before ++ bare r ∷ bares rs = append_assoc before (bare r ∷ []) (bares rs) in
    let more = routers_lead place.Router s (before ++ bare r ∷ []) rs refl (λ _. refl) are.1 (rw regrouped few) in
    let read : read_line (at p before s) (spelled (router_line r)) ≡ Ok (after (at p before s) (router_line r)) = reads_on (at p before s) (router_line r) are.0.named m (router_free p s before r are.0.apart short) in
    (at place.Router (before ++ bare r ∷ []) s, read, subst (λ (x : List RouterDef). Leads (at place.Router (before ++ bare r ∷ []) s) (map spelled (map router_line rs)) (at place.Router x s)) regrouped more)

pub not_none : (rs : List RouterDef) → 1 ≤ length rs → rs ≡ [] → place.Seed ≡ place.Router
not_none [] some e = absurd (omega arith)
not_none (r ∷ rs) some e = absurd cc

-- ---- a router's name says its number

early : (before rs : List RouterDef) (i : ℕ) → AreRouters before rs → i < length rs → number_of (before ++ take i rs) (get_or rs i nobody).name ≡ None
early before [] i h inside = absurd (omega arith)
early before (r ∷ rs) zero h inside = ap (λ (b : List RouterDef). number_of b r.name) (append-nil before) ∙ h.0.apart
early before (r ∷ rs) (suc i) h inside =
    ap (λ (b : List RouterDef). number_of b (get_or rs i nobody).name) (sym (append_assoc before (r ∷ []) (take i rs))) ∙ early (before ++ r ∷ []) rs i h.1 (omega arith)

any_none : (p : RouterDef → Bool) (rs : List RouterDef) (k : ℕ) → list_any p rs ≡ false → k < length rs → p (get_or rs k nobody) ≡ false
any_none p [] k none inside = absurd (omega arith)
any_none p (r ∷ rs) zero none inside = (neither (p r) _ none).0
any_none p (r ∷ rs) (suc k) none inside = any_none p rs k (neither (p r) _ none).1 (omega arith)

own : (text : List ℕ) → pointwise nat_eq text text ≡ true
own text = (bytes_decides text text).1 refl

pub number_again : (rs : List RouterDef) (i : ℕ) → AreRouters [] rs → i < length rs → number_of rs (get_or rs i nobody).name ≡ Some i
unfolding number_of
number_again rs i h inside =
    let test = λ (r : RouterDef). pointwise nat_eq (get_or rs i nobody).name r.name in
    let none : position test (take i rs) ≡ None = early [] rs i h inside in
    let any = nowhere test (take i rs) none in
    let far : (k : ℕ) → k < i → test (get_or rs k nobody) ≡ false =
    λ k less. sym (ap test (get_or-take i rs k nobody less)) ∙ any_none test (take i rs) k any (omega (arith, length-take i rs)) in
    let at : position_or_len test rs ≡ i = position_or_len_is test rs i nobody (omega arith) far (λ _. own (get_or rs i nobody).name) in
    rw (at, lt_true i (length rs) inside) refl

pub record IsReadAgain (rs : List RouterDef) (i : ℕ) : Type 0 where
  pub number : number_of rs (name_at rs i) ≡ Some i
  pub named : IsTrue (is_name (name_at rs i))

all_named : (before rs : List RouterDef) (i : ℕ) → AreRouters before rs → i < length rs → IsTrue (is_name (get_or rs i nobody).name)
all_named before [] i h inside = absurd (omega arith)
all_named before (r ∷ rs) zero h inside = h.0.named
all_named before (r ∷ rs) (suc i) h inside = all_named (before ++ r ∷ []) rs i h.1 (omega arith)

pub read_again : (rs : List RouterDef) (i : ℕ) → AreRouters [] rs → i < length rs → IsReadAgain rs i
read_again rs i h inside =
    let is = name_of_number rs i inside in
    record {
      number = ap (λ (n : List ℕ). number_of rs n) is ∙ number_again rs i h inside;
      named = subst (λ (n : List ℕ). IsTrue (is_name n)) (sym is) (all_named [] rs i h inside);
    }

pub name_again : (rs : List RouterDef) (i : ℕ) → AreRouters [] rs → i < length rs → IsTrue (is_name (name_at rs i))
name_again rs i h inside = (read_again rs i h inside).named

some_same : (i j : ℕ) → ◌≡◌ {A = Option ℕ} (Some i) (Some j) → i ≡ j
some_same i j e = cc

names_differ : (rs : List RouterDef) (i j : ℕ) → IsReadAgain rs i → IsReadAgain rs j → i ≢ j → pointwise nat_eq (name_at rs i) (name_at rs j) ≡ false
names_differ rs i j p q apart =
    elim (pointwise nat_eq (name_at rs i) (name_at rs j)) as (λ b. pointwise nat_eq (name_at rs i) (name_at rs j) ≡ b → b ≡ false) [
      | true ↦ λ e. (
          let same : name_at rs i ≡ name_at rs j = (bytes_decides (name_at rs i) (name_at rs j)).0 e in
          absurd (apart (some_same i j (sym p.number ∙ ap (λ (n : List ℕ). number_of rs n) same ∙ q.number))))
      | false ↦ λ _. refl
    ] refl

-- ---- the links

pub name_of_bare : (rs : List RouterDef) (i : ℕ) → name_at (bares rs) i ≡ name_at rs i
name_of_bare [] i = refl
name_of_bare (r ∷ rs) zero = refl
name_of_bare (r ∷ rs) (suc i) = name_of_bare rs i

pub lines_of_bare : (rs : List RouterDef) (links : List LinkDef) → map (link_line (bares rs)) links ≡ map (link_line rs) links
lines_of_bare rs [] = refl
lines_of_bare rs (l ∷ links) = rw (name_of_bare rs l.a, name_of_bare rs l.b, lines_of_bare rs links) refl

abbrev pub with_links : Place → List LinkDef → Standing → Standing
with_links p links s = record s { place = p; links = links }

-- the place behind these links
abbrev pub behind_links : Place → List LinkDef → Place
behind_links p [] = p
behind_links p (l ∷ ls) = place.Link

link_free : (p : Place) (s : Standing) (before : List LinkDef) (l : LinkDef) → AreRouters [] s.routers → IsLink (length s.routers) before l → length before < 256 → first_of (table (with_links p before s) (link_line s.routers l)) ≡ None
link_free p s before l rs h few =
    let a : ports_of before l.a < 16 = omega (arith, h.a_port, h.ports.0) in
    let b : ports_of before l.b < 16 = omega (arith, h.b_port, h.ports.1) in
    let m = read_again s.routers l.a rs h.inside.0 in
    let n = read_again s.routers l.b rs h.inside.1 in
    rw (is_between 1 1000000 l.delay h.delay.0 h.delay.1, is_between 1 65535 l.cost h.cost.0 h.cost.1, m.number, n.number, names_differ s.routers l.a l.b m n h.differ, le_false 256 (length before) few, le_false 16 (ports_of before l.a) a, le_false 16 (ports_of before l.b) b) refl

link_is : (p : Place) (s : Standing) (before : List LinkDef) (l : LinkDef) → AreRouters [] s.routers → IsLink (length s.routers) before l → after (with_links p before s) (link_line s.routers l) ≡ with_links place.Link (before ++ l ∷ []) s
link_is p s before l rs h =
    let m = read_again s.routers l.a rs h.inside.0 in
    let n = read_again s.routers l.b rs h.inside.1 in
    rw (m.number, n.number, ← h.a_port, ← h.b_port) refl

-- behind a link the place is that of a link, whatever follows
at_link : (s : Standing) (before links : List LinkDef) → Leads (with_links place.Link before s) (map spelled (map (link_line s.routers) links)) (with_links (behind_links place.Link links) (before ++ links) s) → Leads (with_links place.Link before s) (map spelled (map (link_line s.routers) links)) (with_links place.Link (before ++ links) s)
at_link s before [] h = h
at_link s before (l ∷ links) h = h

pub links_lead : (p : Place) (s : Standing) (before links : List LinkDef) → may_follow p place.Link ≡ true → AreRouters [] s.routers → AreLinks (length s.routers) before links → length (before ++ links) ≤ 256 →
    Leads (with_links p before s) (map spelled (map (link_line s.routers) links)) (with_links (behind_links p links) (before ++ links) s)
unfolding may_follow
links_lead p s before [] m rs h few = ap (λ (x : List LinkDef). with_links p x s) (sym (append-nil before))
links_lead p s before (l ∷ links) m rs h few =
    let is = h.0 in
    let short : length before < 256 = omega (arith, few, length-append before (l ∷ links)) in
    let regrouped : (before ++ l ∷ []) ++ links ≡ before ++ l ∷ links = append_assoc before (l ∷ []) links in
    let more = links_lead place.Link s (before ++ l ∷ []) links refl rs h.1 (rw regrouped few) in
    let a = read_again s.routers l.a rs is.inside.0 in
    let b = read_again s.routers l.b rs is.inside.1 in
    let read = reads_on (with_links p before s) (link_line s.routers l) (a.named, b.named, omega (arith, is.delay.1), omega (arith, is.cost.1)) m (link_free p s before l rs is short) in
    let on : Leads (with_links place.Link (before ++ l ∷ []) s) (map spelled (map (link_line s.routers) links)) (with_links place.Link (before ++ l ∷ links) s) =
    subst (λ (x : List LinkDef). Leads (with_links place.Link (before ++ l ∷ []) s) (map spelled (map (link_line s.routers) links)) (with_links place.Link x s)) regrouped (at_link s (before ++ l ∷ []) links more) in
    (with_links place.Link (before ++ l ∷ []) s, read ∙ ap (λ (t : Standing). Ok t) (link_is p s before l rs is), on)

-- ---- a router has at most 16 ports

yes_or_no : (b : Bool) → (b ≡ true) ⊎ (b ≡ false)
yes_or_no true = inl refl
yes_or_no false = inr refl

either_is : (a b : Bool) → (a || b) ≡ true → (a ≡ true) ⊎ (b ≡ true)
either_is true b h = inl refl
either_is false b h = inr h

at_most_same : (m n k : ℕ) → m ≡ n + k → k ≡ 0 → n ≤ 16 → m ≤ 16
at_most_same m n k e z few = omega arith

below_16 : (m n k q : ℕ) → m ≡ n + k → k ≡ 1 → q ≡ n → q < 16 → m ≤ 16
below_16 m n k q e z same less = omega arith

few_more : (before : List LinkDef) (l : LinkDef) (n r : ℕ) → ports_of before r ≤ 16 → IsLink n before l → ports_of (before ++ l ∷ []) r ≤ 16
few_more before l n r few h =
    let more = ports_of-append before l r in
    elim (yes_or_no (names r l)) [
      | inr off ↦ (let none : cond (names r l) 1 0 ≡ 0 = rw off refl in at_most_same _ _ _ more none few)
      | inl on ↦ (
          let one : cond (names r l) 1 0 ≡ 1 = rw on refl in
          elim (either_is (eqb l.a r) (eqb l.b r) on) [
            | inl a ↦ (
                let is : l.a ≡ r = eqb-true l.a r a in
                let same : l.a_port ≡ ports_of before r = h.a_port ∙ ap (λ (x : ℕ). ports_of before x) is in
                below_16 _ _ _ l.a_port more one same h.ports.0)
            | inr b ↦ (
                let is : l.b ≡ r = eqb-true l.b r b in
                let same : l.b_port ≡ ports_of before r = h.b_port ∙ ap (λ (x : ℕ). ports_of before x) is in
                below_16 _ _ _ l.b_port more one same h.ports.1)
          ])
    ]

few_ports : (n r : ℕ) (before ls : List LinkDef) → ports_of before r ≤ 16 → AreLinks n before ls → ports_of (before ++ ls) r ≤ 16
few_ports n r before [] few h = subst (λ (x : List LinkDef). ports_of x r ≤ 16) (sym (append-nil before)) few
few_ports n r before (l ∷ ls) few h =
    subst (λ (x : List LinkDef). ports_of x r ≤ 16) (append_assoc before (l ∷ []) ls)
    (few_ports n r (before ++ l ∷ []) ls (few_more before l n r few h.0) h.1)

pub ports_few : (n r : ℕ) (ls : List LinkDef) → AreLinks n [] ls → ports_of ls r ≤ 16
ports_few n r ls h = few_ports n r [] ls (subst (λ (k : ℕ). k ≤ 16) (sym (ports_of-nil r)) (omega arith)) h

-- ---- the externals

abbrev pub with_feed : Place → List ExternalDef → Standing → Standing
with_feed p feed s = record s { place = p; feed = feed }

abbrev pub behind_feed : Place → List ExternalDef → Place
behind_feed p [] = p
behind_feed p (x ∷ xs) = place.External

asked_fits : (ports : ℕ) (i : Input) → ports ≤ 16 → IsAsked ports i → ask_fits (asked_by i) ≡ true
asked_fits ports (input.Cmd body) few h = le_true (length (hex body)) (2 * 255) (omega (arith, length-hex body, h.1))
asked_fits ports (input.Down port) few h = is_between 0 15 port (omega arith) (omega (arith, h, few))
asked_fits ports (input.Up port) few h = is_between 0 15 port (omega arith) (omega (arith, h, few))
asked_fits ports (input.Tick group) few h = absurd h
asked_fits ports (input.Msg port body) few h = absurd h

asked_port : (ports : ℕ) (i : Input) → IsAsked ports i → lacks_port ports (asked_by i) ≡ false
asked_port ports (input.Cmd body) h = refl
asked_port ports (input.Down port) h = le_false ports port h
asked_port ports (input.Up port) h = le_false ports port h
asked_port ports (input.Tick group) h = absurd h
asked_port ports (input.Msg port body) h = absurd h

unwrapped : (o : Option (List ℕ)) (bytes : List ℕ) → o ≡ Some bytes → unwrap_or o [] ≡ bytes
unwrapped o bytes e = ap (λ (x : Option (List ℕ)). unwrap_or x []) e

asked_again : (ports : ℕ) (i : Input) → IsAsked ports i → input_of (asked_by i) ≡ i
asked_again ports (input.Cmd body) h = ap (λ (b : List ℕ). input.Cmd b) (unwrapped (unhex (hex body)) body (unhex_again body (omega (arith, h.0)) h.2))
asked_again ports (input.Down port) h = refl
asked_again ports (input.Up port) h = refl
asked_again ports (input.Tick group) h = absurd h
asked_again ports (input.Msg port body) h = absurd h

pub external_spellable : (ports g : ℕ) (name : List ℕ) (i : Input) → g < 2 ^ 64 → IsTrue (is_name name) → ports ≤ 16 → IsAsked ports i → IsSpellable (External (Is g) name (asked_by i))
external_spellable ports g name (input.Cmd body) small named few h = (small, named, is_hex_again body (omega (arith, h.0)) h.2)
external_spellable ports g name (input.Down port) small named few h = (small, named, omega (arith, h, few))
external_spellable ports g name (input.Up port) small named few h = (small, named, omega (arith, h, few))
external_spellable ports g name (input.Tick group) small named few h = absurd h
external_spellable ports g name (input.Msg port body) small named few h = absurd h

pub external_free : (p : Place) (s : Standing) (before : List ExternalDef) (x : ExternalDef) → IsHeading (case_of s).header → IsExternal (case_of s).header (last_group 0 before) x → first_of (table (with_feed p before s) (external_line s.routers x)) ≡ None
external_free p s before x h k =
    let m = read_again s.routers x.router h.routers k.router in
    let few = ports_few (length s.routers) x.router s.links h.links in
    rw (lt_true x.group s.groups k.group, asked_fits (ports_of s.links x.router) x.input few k.asked, m.number, lt_false x.group (last_group 0 before) k.rises, asked_port (ports_of s.links x.router) x.input k.asked) refl

pub external_is : (p : Place) (s : Standing) (before : List ExternalDef) (x : ExternalDef) → IsHeading (case_of s).header → IsExternal (case_of s).header (last_group 0 before) x → after (with_feed p before s) (external_line s.routers x) ≡ with_feed place.External (before ++ x ∷ []) s
external_is p s before x h k =
    let m = read_again s.routers x.router h.routers k.router in
    rw (m.number, asked_again (ports_of s.links x.router) x.input k.asked) refl

at_external : (s : Standing) (before xs : List ExternalDef) → Leads (with_feed place.External before s) (map spelled (map (external_line s.routers) xs)) (with_feed (behind_feed place.External xs) (before ++ xs) s) → Leads (with_feed place.External before s) (map spelled (map (external_line s.routers) xs)) (with_feed place.External (before ++ xs) s)
at_external s before [] h = h
at_external s before (x ∷ xs) h = h

pub externals_lead : (p : Place) (s : Standing) (before xs : List ExternalDef) → may_follow p place.External ≡ true → IsHeading (case_of s).header → AreExternals (case_of s).header (last_group 0 before) xs →
    Leads (with_feed p before s) (map spelled (map (external_line s.routers) xs)) (with_feed (behind_feed p xs) (before ++ xs) s)
unfolding may_follow
externals_lead p s before [] m h are = ap (λ (x : List ExternalDef). with_feed p x s) (sym (append-nil before))
externals_lead p s before (x ∷ xs) m h are =
    let is = are.0 in
    let regrouped : (before ++ x ∷ []) ++ xs ≡ before ++ x ∷ xs = append_assoc before (x ∷ []) xs in
    let low : AreExternals (case_of s).header (last_group 0 (before ++ x ∷ [])) xs = subst (λ (n : ℕ). AreExternals (case_of s).header n xs) (sym (last_group-append 0 before x)) are.1 in
    let more = externals_lead place.External s (before ++ x ∷ []) xs refl h low in
    let named = (read_again s.routers x.router h.routers is.router).named in
    let few = ports_few (length s.routers) x.router s.links h.links in
    let small : x.group < 2 ^ 64 = omega (arith, is.group, h.groups.1) in
    let read = reads_on (with_feed p before s) (external_line s.routers x) (external_spellable (ports_of s.links x.router) x.group (name_at s.routers x.router) x.input small named few is.asked) m (external_free p s before x h is) in
    let on : Leads (with_feed place.External (before ++ x ∷ []) s) (map spelled (map (external_line s.routers) xs)) (with_feed place.External (before ++ x ∷ xs) s) =
    subst (λ (y : List ExternalDef). Leads (with_feed place.External (before ++ x ∷ []) s) (map spelled (map (external_line s.routers) xs)) (with_feed place.External y s)) regrouped (at_external s (before ++ x ∷ []) xs more) in
    (with_feed place.External (before ++ x ∷ []) s, read ∙ ap (λ (t : Standing). Ok t) (external_is p s before x h is), on)
