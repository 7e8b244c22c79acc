-- The prefix lines of routers are read again, in each order that keeps each router's own.
use Rattle.std.proofs.Common.{◌≡◌, ℕ, zero, suc, ◌<◌, ◌≤◌, ◌^◌, true, List, [], ◌∷◌, ◌++◌, length, map, get_or, Some, None, Ok, IsTrue, refl, sym, ap, subst, ◌∙◌, append_assoc, arith}
use Rattle.std.specs.Prelude.{slice_get}
use Rattle.std.specs.List.{AllByRecursion}
use Rattle.std.proofs.lemmas.List.{append-nil, length-append}
use Rattle.dn_model.specs.declared.router.RouterDef.{RouterDef}
use Rattle.dn_model.specs.declared.router.Kind.{Kind}
use Rattle.dn_model.specs.declared.router.Prefix.{Prefix as PrefixDef}
use Rattle.dn_model.specs.Names.{is_name}
use Rattle.dn_model.specs.Kinds.{IsPrefix, ArePrefixes}
use Rattle.dn_model.specs.Routers.{number_of, name_at}
use Rattle.dn_model.specs.Cases.{AreRouters}
use Rattle.dn_case.specs.declared.standing.Standing.{Standing}
use Rattle.dn_case.specs.declared.place.Place.{Place}
use Rattle.dn_case.specs.declared.place.Place.TheVariants as place
use Rattle.dn_case.specs.Shapes.{Line}
use Rattle.dn_case.specs.Standings.{may_follow, first_of, table, after, with_prefix, read_line, start}
use Rattle.dn_case.specs.Spelling.{spelled, IsSpellable, prefix_line}
use Rattle.dn_case.specs.CaseTexts.{IsInterleaving, prefixes_of, numbered_lines}
use Rattle.dn_case.specs.Reading.{Leads}
use Rattle.dn_case.proofs.Leading.{leads_join}
use Rattle.dn_case.proofs.RouterLaws.{nobody}
use Rattle.dn_case.proofs.PrefixLaws.{same_number, net_again, net_small, net_fits_again, cost_small, cost_wide, cost_rip, cost_flood, no_host_again}
use Rattle.dn_case.proofs.RoundTrip.{reads_on, le_false, at, bares, bare_names, length_bares, read_again}
use Rattle.dn_case.proofs.Interleavings.{prefixes_at, own_at, own_here, less_at_front, bare_with_prefix, bare_prefixes, bare_twice, part, found_bare, routers_same, prefixes_are, is_there}

map_joined : (xs ys : List Line) → map spelled (xs ++ ys) ≡ map spelled xs ++ map spelled ys
map_joined [] ys = refl
map_joined (x ∷ xs) ys = ap (λ (l : List (List ℕ)). spelled x ∷ l) (map_joined xs ys)

pub lines_join : (xs ys : List Line) (s t u : Standing) → Leads s (map spelled xs) t → Leads t (map spelled ys) u → Leads s (map spelled (xs ++ ys)) u
lines_join xs ys s t u h k = subst (λ (l : List (List ℕ)). Leads s l u) (sym (map_joined xs ys)) (leads_join (map spelled xs) (map spelled ys) s t u h k)

-- ---- the rules of one prefix

record AreRules (r : RouterDef) : Type 0 where
  named : IsTrue (is_name r.name)
  few : length r.prefixes ≤ 32
  prefixes : ArePrefixes r.kind [] r.prefixes

rules_at : (before rs : List RouterDef) (i : ℕ) → AreRouters before rs → i < length rs → AreRules (get_or rs i nobody)
rules_at before [] i h inside = absurd (omega arith)
rules_at before (r ∷ rs) zero h inside = record { named = h.0.named; few = h.0.few_prefixes; prefixes = h.0.prefixes }
rules_at before (r ∷ rs) (suc i) h inside = rules_at (before ++ r ∷ []) rs i h.1 (omega arith)

rules_behind : (k : Kind) (before done : List PrefixDef) (p : PrefixDef) (rest : List PrefixDef) → ArePrefixes k before (done ++ p ∷ rest) → IsPrefix k (before ++ done) p
rules_behind k before [] p rest h = subst (λ (b : List PrefixDef). IsPrefix k b p) (sym (append-nil before)) h.0
rules_behind k before (d ∷ done) p rest h =
    subst (λ (b : List PrefixDef). IsPrefix k b p) (append_assoc before (d ∷ []) done) (rules_behind k (before ++ d ∷ []) done p rest h.1)

fewer : (done rest : List PrefixDef) (p : PrefixDef) → length (done ++ p ∷ rest) ≤ 32 → length done < 32
fewer done rest p few = omega (arith, few, length-append done (p ∷ rest))

-- ---- one prefix

prefix_free : (p : Place) (s : Standing) (now : List RouterDef) (name : List ℕ) (i : ℕ) (r : RouterDef) (q : PrefixDef) → number_of now name ≡ Some i → slice_get now i ≡ Some r → IsPrefix r.kind r.prefixes q → length r.prefixes < 32 →
    first_of (table (at p now s) (prefix_line name q)) ≡ None
prefix_free p s now name i r q number found is few =
    rw (number, found, net_fits_again q is.address is.len, cost_wide r.kind q.cost is.cost, cost_rip r.kind q.cost is.cost, net_again q is.address, is.apart, cost_flood r.kind q.cost is.cost, no_host_again q is.address is.len is.no_host, le_false 32 (length r.prefixes) few) refl

prefix_is : (p : Place) (s : Standing) (now : List RouterDef) (name : List ℕ) (i : ℕ) (q : PrefixDef) → number_of now name ≡ Some i → q.address < 2 ^ 32 → after (at p now s) (prefix_line name q) ≡ at place.Prefix (with_prefix now i q) s
prefix_is p s now name i q number small = rw (number, net_again q small) refl

names_same : (now rs : List RouterDef) → bares now ≡ bares rs → map (λ r. r.name) now ≡ map (λ r. r.name) rs
names_same now rs e = sym (bare_names now) ∙ ap (λ (x : List RouterDef). map (λ r. r.name) x) e ∙ bare_names rs

-- the prefix q is the next one of the router i of rs, whose prefixes so far are those of now
record IsNext (p : Place) (s : Standing) (now rs : List RouterDef) (i : ℕ) (q : PrefixDef) : Type 0 where
  inside : i < length rs
  spellable : IsSpellable (prefix_line (name_at rs i) q)
  reads : read_line (at p now s) (spelled (prefix_line (name_at rs i) q)) ≡ Ok (at place.Prefix (with_prefix now i q) s)

is_next : (p : Place) (s : Standing) (now rs : List RouterDef) (i : ℕ) (q : PrefixDef) (rest : List PrefixDef) → may_follow p place.Prefix ≡ true → AreRouters [] rs → bares now ≡ bares rs → prefixes_at now i ++ q ∷ rest ≡ prefixes_at rs i → IsNext p s now rs i q
is_next p s now rs i q rest m are same e =
    let done = prefixes_at now i in
    let inside = is_there rs i done rest q e in
    let r = get_or rs i nobody in
    let rules = rules_at [] rs i are inside in
    let all : done ++ q ∷ rest ≡ r.prefixes = e ∙ prefixes_are rs i in
    let is : IsPrefix r.kind done q = rules_behind r.kind [] done q rest (subst (λ (ps : List PrefixDef). ArePrefixes r.kind [] ps) (sym all) rules.prefixes) in
    let few = fewer done rest q (subst (λ (ps : List PrefixDef). length ps ≤ 32) (sym all) rules.few) in
    let again = read_again rs i are inside in
    let name = name_at rs i in
    let number : number_of now name ≡ Some i = same_number now rs name (names_same now rs same) ∙ again.number in
    let spellable : IsSpellable (prefix_line name q) = (again.named, net_small q is.address is.len, cost_small r.kind q.cost is.cost) in
    let free = prefix_free p s now name i (part r done) q number (found_bare now rs i same inside) is few in
    record {
      inside = inside;
      spellable = spellable;
      reads = reads_on (at p now s) (prefix_line name q) spellable m free ∙ ap (λ (t : Standing). Ok t) (prefix_is p s now name i q number is.address);
    }

-- ---- all prefixes

-- the lines lead to the place q, behind which the line of the feed may come
pub record PrefixesLead (s : Standing) (lines : List Line) (rs : List RouterDef) : Type 0 where
  pub q : Place
  pub feed : may_follow q place.Feed ≡ true
  pub leads : Leads s (map spelled lines) (at q rs s)
  pub spellable : AllByRecursion IsSpellable lines

as_many : (now rs : List RouterDef) → bares now ≡ bares rs → length now ≡ length rs
as_many now rs e = sym (length_bares now) ∙ ap (λ (x : List RouterDef). length x) e ∙ length_bares rs

rest_lead : (p : Place) (s : Standing) (now rs : List RouterDef) (xs : List (ℕ × PrefixDef)) → may_follow p place.Prefix ≡ true → may_follow p place.Feed ≡ true → AreRouters [] rs → bares now ≡ bares rs → ((i : ℕ) → prefixes_at now i ++ own_at i xs ≡ prefixes_at rs i) →
    PrefixesLead (at p now s) (numbered_lines rs xs) rs
unfolding may_follow
rest_lead p s now rs [] m f are same left =
    record { q = p; feed = f; leads = ap (λ (x : List RouterDef). at p x s) (routers_same now rs same (λ i. sym (append-nil (prefixes_at now i)) ∙ left i)); spellable = tt }
rest_lead p s now rs (x ∷ xs) m f are same left =
    let next = is_next p s now rs x.0 x.1 (own_at x.0 xs) m are same (ap (λ (ps : List PrefixDef). prefixes_at now x.0 ++ ps) (sym (own_here x xs)) ∙ left x.0) in
    let then = with_prefix now x.0 x.1 in
    let inside : x.0 < length now = omega (arith, next.inside, as_many now rs same) in
    let more = rest_lead place.Prefix s then rs xs refl refl are (bare_with_prefix now x.0 x.1 ∙ same) (λ i. less_at_front now x xs i (prefixes_at rs i) inside (left i)) in
    record { q = more.q; feed = more.feed; leads = (at place.Prefix then s, next.reads, more.leads); spellable = (next.spellable, more.spellable) }

pub prefixes_lead : (p : Place) (s : Standing) (rs : List RouterDef) (xs : List (ℕ × PrefixDef)) → may_follow p place.Prefix ≡ true → may_follow p place.Feed ≡ true → AreRouters [] rs → IsInterleaving (prefixes_of rs) xs →
    PrefixesLead (at p (bares rs) s) (numbered_lines rs xs) rs
prefixes_lead p s rs xs m f are order =
    rest_lead p s (bares rs) rs xs m f are (bare_twice rs) (λ i. ap (λ (ps : List PrefixDef). ps ++ own_at i xs) (bare_prefixes rs i) ∙ order i)

pub prefixes_spellable : (rs : List RouterDef) (xs : List (ℕ × PrefixDef)) → AreRouters [] rs → IsInterleaving (prefixes_of rs) xs → AllByRecursion IsSpellable (numbered_lines rs xs)
unfolding may_follow
prefixes_spellable rs xs are order = (prefixes_lead place.Router start rs xs refl refl are order).spellable
