-- Prefixes with the numbers of their routers, in an order that keeps each router's own.
use Rattle.std.proofs.Common.{◌≡◌, ℕ, ◌+◌, ◌<◌, zero, suc, Bool, true, false, cond, eqb, List, [], ◌∷◌, ◌++◌, length, map, get_or, Some, refl, sym, ap, ◌∙◌, append_assoc, arith}
use Rattle.std.specs.Prelude.{slice_get}
use Rattle.std.specs.List.{filter, flat_map}
use Rattle.std.proofs.lemmas.Bool.{eq-eqb, ne_eqb}
use Rattle.std.proofs.lemmas.Bool.Decides.{nat_tests}
use Rattle.std.proofs.lemmas.List.{append-nil, map-append}
use Rattle.std.proofs.lemmas.List.Elements.{filter-append}
use Rattle.dn_model.specs.declared.router.RouterDef.{RouterDef}
use Rattle.dn_model.specs.declared.router.Prefix.{Prefix as PrefixDef}
use Rattle.dn_model.specs.Routers.{name_at}
use Rattle.dn_case.specs.Shapes.{Line}
use Rattle.dn_case.specs.Standings.{with_prefix}
use Rattle.dn_case.specs.Spelling.{prefix_line, prefix_lines}
use Rattle.dn_case.specs.CaseTexts.{IsInterleaving, prefixes_of, numbered_lines}
use Rattle.dn_case.proofs.RouterLaws.{nobody}
use Rattle.dn_case.proofs.RoundTrip.{bare, bares}

abbrev Item : Type 0
Item = ℕ × PrefixDef

-- the prefixes of the router of a number
abbrev pub prefixes_at : List RouterDef → ℕ → List PrefixDef
prefixes_at rs i = get_or (prefixes_of rs) i []

-- those of the items that have the number
abbrev pub own_at : ℕ → List Item → List PrefixDef
own_at i xs = map (λ (x : Item). x.1) (filter (λ (x : Item). eqb x.0 i) xs)

abbrev one_if : Bool → PrefixDef → List PrefixDef
one_if b p = cond b (p ∷ []) []

picked : (b : Bool) (x : Item) (xs : List Item) → map (λ (x : Item). x.1) (cond b (x ∷ xs) xs) ≡ one_if b x.1 ++ map (λ (x : Item). x.1) xs
picked true x xs = refl
picked false x xs = refl

pub own_next : (i : ℕ) (x : Item) (xs : List Item) → own_at i (x ∷ xs) ≡ one_if (eqb x.0 i) x.1 ++ own_at i xs
own_next i x xs = picked (eqb x.0 i) x (filter (λ (x : Item). eqb x.0 i) xs)

pub own_here : (x : Item) (xs : List Item) → own_at x.0 (x ∷ xs) ≡ x.1 ∷ own_at x.0 xs
own_here x xs = own_next x.0 x xs ∙ ap (λ (b : Bool). one_if b x.1 ++ own_at x.0 xs) (eq-eqb x.0 x.0 refl)

own_joined : (i : ℕ) (xs ys : List Item) → own_at i (xs ++ ys) ≡ own_at i xs ++ own_at i ys
own_joined i xs ys =
    ap (λ (zs : List Item). map (λ (x : Item). x.1) zs) (filter-append (λ (x : Item). eqb x.0 i) xs ys)
    ∙ map-append (λ (x : Item). x.1) (filter (λ (x : Item). eqb x.0 i) xs) (filter (λ (x : Item). eqb x.0 i) ys)

own_last : (i : ℕ) (xs : List Item) (x : Item) → own_at i (xs ++ x ∷ []) ≡ own_at i xs ++ one_if (eqb x.0 i) x.1
own_last i xs x = own_joined i xs (x ∷ []) ∙ ap (λ (ps : List PrefixDef). own_at i xs ++ ps) (own_next i x [] ∙ append-nil (one_if (eqb x.0 i) x.1))

-- ---- one prefix more

next_numbers : (j i : ℕ) → eqb j i ≡ eqb (suc j) (suc i)
next_numbers j i = grind (arith, nat_tests)

first_or_later : (i : ℕ) → eqb 0 (suc i) ≡ false
first_or_later i = ne_eqb 0 (suc i) (omega arith)

later_or_first : (j : ℕ) → eqb (suc j) 0 ≡ false
later_or_first j = ne_eqb (suc j) 0 (omega arith)

none_more : (ps : List PrefixDef) (b : Bool) (p : PrefixDef) → b ≡ false → ps ≡ ps ++ one_if b p
none_more ps b p off = sym (append-nil ps) ∙ ap (λ (b : Bool). ps ++ one_if b p) (sym off)

prefixes_more : (rs : List RouterDef) (j : ℕ) (p : PrefixDef) (i : ℕ) → j < length rs → prefixes_at (with_prefix rs j p) i ≡ prefixes_at rs i ++ one_if (eqb j i) p
unfolding with_prefix
prefixes_more [] j p i inside = absurd (omega arith)
prefixes_more (r ∷ rs) zero p zero inside = refl
prefixes_more (r ∷ rs) zero p (suc i) inside = none_more (prefixes_at rs i) (eqb 0 (suc i)) p (first_or_later i)
prefixes_more (r ∷ rs) (suc j) p zero inside = none_more r.prefixes (eqb (suc j) 0) p (later_or_first j)
prefixes_more (r ∷ rs) (suc j) p (suc i) inside = prefixes_more rs j p i (omega arith) ∙ ap (λ (b : Bool). prefixes_at rs i ++ one_if b p) (next_numbers j i)

-- at the end of the items
pub more_at_end : (rs : List RouterDef) (xs : List Item) (x : Item) → x.0 < length rs → IsInterleaving (prefixes_of rs) xs → IsInterleaving (prefixes_of (with_prefix rs x.0 x.1)) (xs ++ x ∷ [])
more_at_end rs xs x inside order i =
    own_last i xs x ∙ ap (λ (ps : List PrefixDef). ps ++ one_if (eqb x.0 i) x.1) (order i) ∙ sym (prefixes_more rs x.0 x.1 i inside)

-- from the front of the items
pub less_at_front : (now : List RouterDef) (x : Item) (xs : List Item) (i : ℕ) (all : List PrefixDef) → x.0 < length now → prefixes_at now i ++ own_at i (x ∷ xs) ≡ all → prefixes_at (with_prefix now x.0 x.1) i ++ own_at i xs ≡ all
less_at_front now x xs i all inside left =
    ap (λ (ps : List PrefixDef). ps ++ own_at i xs) (prefixes_more now x.0 x.1 i inside) ∙ append_assoc (prefixes_at now i) (one_if (eqb x.0 i) x.1) (own_at i xs)
    ∙ ap (λ (ps : List PrefixDef). prefixes_at now i ++ ps) (sym (own_next i x xs)) ∙ left

pub bare_with_prefix : (rs : List RouterDef) (i : ℕ) (p : PrefixDef) → bares (with_prefix rs i p) ≡ bares rs
unfolding with_prefix
bare_with_prefix [] i p = refl
bare_with_prefix (r ∷ rs) zero p = refl
bare_with_prefix (r ∷ rs) (suc i) p = ap (λ (x : List RouterDef). bare r ∷ x) (bare_with_prefix rs i p)

-- ---- routers by their lines and their prefixes

pub bare_prefixes : (rs : List RouterDef) (i : ℕ) → prefixes_at (bares rs) i ≡ []
bare_prefixes [] i = refl
bare_prefixes (r ∷ rs) zero = refl
bare_prefixes (r ∷ rs) (suc i) = bare_prefixes rs i

pub bare_twice : (rs : List RouterDef) → bares (bares rs) ≡ bares rs
bare_twice [] = refl
bare_twice (r ∷ rs) = ap (λ (x : List RouterDef). bare r ∷ x) (bare_twice rs)

pub one_more_bare : (rs : List RouterDef) (r : RouterDef) (i : ℕ) → r.prefixes ≡ [] → [] ≡ prefixes_at rs i → [] ≡ prefixes_at (rs ++ r ∷ []) i
one_more_bare [] r zero none h = sym none
one_more_bare [] r (suc i) none h = refl
one_more_bare (q ∷ rs) r zero none h = h
one_more_bare (q ∷ rs) r (suc i) none h = one_more_bare rs r i none h

-- a router with these prefixes
abbrev pub part : RouterDef → List PrefixDef → RouterDef
part r ps = record { name = r.name; kind = r.kind; prefixes = ps }

first_same : (x y : RouterDef) (xs ys : List RouterDef) → x ∷ xs ≡ y ∷ ys → x ≡ y
first_same x y xs ys e = cc

rest_same : (x y : RouterDef) (xs ys : List RouterDef) → x ∷ xs ≡ y ∷ ys → xs ≡ ys
rest_same x y xs ys e = cc

both_same : (x y : RouterDef) (xs ys : List RouterDef) → x ≡ y → xs ≡ ys → x ∷ xs ≡ y ∷ ys
both_same x y xs ys p q = cc

part_same : (n r : RouterDef) → bare n ≡ bare r → n ≡ part r n.prefixes
part_same n r e = ap (λ (b : RouterDef). part b n.prefixes) e

pub found_bare : (now rs : List RouterDef) (i : ℕ) → bares now ≡ bares rs → i < length rs → slice_get now i ≡ Some (part (get_or rs i nobody) (prefixes_at now i))
found_bare now [] i e inside = absurd (omega arith)
found_bare [] (r ∷ rs) i e inside = absurd cc
found_bare (n ∷ now) (r ∷ rs) zero e inside = ap (λ (x : RouterDef). Some x) (part_same n r (first_same (bare n) (bare r) (bares now) (bares rs) e))
found_bare (n ∷ now) (r ∷ rs) (suc i) e inside = found_bare now rs i (rest_same (bare n) (bare r) (bares now) (bares rs) e) (omega arith)

pub routers_same : (now rs : List RouterDef) → bares now ≡ bares rs → ((i : ℕ) → prefixes_at now i ≡ prefixes_at rs i) → now ≡ rs
routers_same [] [] e h = refl
routers_same [] (r ∷ rs) e h = absurd cc
routers_same (n ∷ now) [] e h = absurd cc
routers_same (n ∷ now) (r ∷ rs) e h =
    both_same n r now rs (part_same n r (first_same (bare n) (bare r) (bares now) (bares rs) e) ∙ ap (λ (ps : List PrefixDef). part r ps) (h 0))
    (routers_same now rs (rest_same (bare n) (bare r) (bares now) (bares rs) e) (λ i. h (suc i)))

pub prefixes_are : (rs : List RouterDef) (i : ℕ) → prefixes_at rs i ≡ (get_or rs i nobody).prefixes
prefixes_are [] i = refl
prefixes_are (r ∷ rs) zero = refl
prefixes_are (r ∷ rs) (suc i) = prefixes_are rs i

some_prefix : (xs ys : List PrefixDef) (p : PrefixDef) → xs ++ p ∷ ys ≡ [] → ⊥
some_prefix [] ys p e = cc
some_prefix (x ∷ xs) ys p e = cc

-- a router that has a prefix is there
pub is_there : (rs : List RouterDef) (i : ℕ) (xs ys : List PrefixDef) (p : PrefixDef) → xs ++ p ∷ ys ≡ prefixes_at rs i → i < length rs
is_there [] i xs ys p e = absurd (some_prefix xs ys p e)
is_there (r ∷ rs) zero xs ys p e = omega arith
is_there (r ∷ rs) (suc i) xs ys p e = omega (arith, is_there rs i xs ys p e)

-- ---- the order of the routers is one of them

abbrev numbered : ℕ → List PrefixDef → List Item
numbered i ps = map (λ (p : PrefixDef). (i, p)) ps

abbrev pub in_order : ℕ → List RouterDef → List Item
in_order i [] = []
in_order i (r ∷ rs) = numbered i r.prefixes ++ in_order (suc i) rs

own_all : (i : ℕ) (ps : List PrefixDef) → own_at i (numbered i ps) ≡ ps
own_all i [] = refl
own_all i (p ∷ ps) = own_here (i, p) (numbered i ps) ∙ ap (λ (x : List PrefixDef). p ∷ x) (own_all i ps)

own_none : (i k : ℕ) (ps : List PrefixDef) → eqb k i ≡ false → own_at i (numbered k ps) ≡ []
own_none i k [] off = refl
own_none i k (p ∷ ps) off = own_next i (k, p) (numbered k ps) ∙ ap (λ (b : Bool). one_if b p ++ own_at i (numbered k ps)) off ∙ own_none i k ps off

apart : (i k : ℕ) → i < k → eqb k i ≡ false
apart i k less = ne_eqb k i (omega arith)

before_all : (i k : ℕ) (rs : List RouterDef) → i < k → own_at i (in_order k rs) ≡ []
before_all i k [] less = refl
before_all i k (r ∷ rs) less =
    own_joined i (numbered k r.prefixes) (in_order (suc k) rs) ∙ ap (λ (x : List PrefixDef). x ++ own_at i (in_order (suc k) rs)) (own_none i k r.prefixes (apart i k less)) ∙ before_all i (suc k) rs (omega arith)

apart_later : (i k j : ℕ) → i ≡ k + suc j → eqb k i ≡ false
apart_later i k j e = ne_eqb k i (omega arith)

kept_order : (i k j : ℕ) (rs : List RouterDef) → i ≡ k + j → own_at i (in_order k rs) ≡ prefixes_at rs j
kept_order i k j [] e = refl
kept_order i k zero (r ∷ rs) e =
    let same : i ≡ k = omega arith in
    own_joined i (numbered k r.prefixes) (in_order (suc k) rs)
    ∙ ap (λ (x : List PrefixDef). own_at i (numbered k r.prefixes) ++ x) (before_all i (suc k) rs (omega arith)) ∙ append-nil (own_at i (numbered k r.prefixes))
    ∙ ap (λ (n : ℕ). own_at n (numbered k r.prefixes)) same ∙ own_all k r.prefixes
kept_order i k (suc j) (r ∷ rs) e =
    own_joined i (numbered k r.prefixes) (in_order (suc k) rs) ∙ ap (λ (x : List PrefixDef). x ++ own_at i (in_order (suc k) rs)) (own_none i k r.prefixes (apart_later i k j e))
    ∙ kept_order i (suc k) j rs (omega arith)

pub is_in_order : (rs : List RouterDef) → IsInterleaving (prefixes_of rs) (in_order 0 rs)
is_in_order rs i = kept_order i 0 i rs (omega arith)

name_behind : (done : List RouterDef) (r : RouterDef) (rs : List RouterDef) → name_at (done ++ r ∷ rs) (length done) ≡ r.name
name_behind [] r rs = refl
name_behind (d ∷ done) r rs = name_behind done r rs

lines_numbered : (all : List RouterDef) (i : ℕ) (name : List ℕ) (ps : List PrefixDef) → name_at all i ≡ name → numbered_lines all (numbered i ps) ≡ map (prefix_line name) ps
lines_numbered all i name [] e = refl
lines_numbered all i name (p ∷ ps) e = ap (λ (n : List ℕ). prefix_line n p ∷ numbered_lines all (numbered i ps)) e ∙ ap (λ (x : List Line). prefix_line name p ∷ x) (lines_numbered all i name ps e)

behind_one : (done : List RouterDef) (r : RouterDef) → length (done ++ r ∷ []) ≡ suc (length done)
behind_one [] r = refl
behind_one (d ∷ done) r = ap suc (behind_one done r)

lines_behind : (done rs : List RouterDef) → numbered_lines (done ++ rs) (in_order (length done) rs) ≡ flat_map prefix_lines rs
lines_behind done [] = refl
lines_behind done (r ∷ rs) =
    map-append (λ (x : Item). prefix_line (name_at (done ++ r ∷ rs) x.0) x.1) (numbered (length done) r.prefixes) (in_order (suc (length done)) rs)
    ∙ ap (λ (x : List Line). x ++ numbered_lines (done ++ r ∷ rs) (in_order (suc (length done)) rs)) (lines_numbered (done ++ r ∷ rs) (length done) r.name r.prefixes (name_behind done r rs))
    ∙ ap (λ (n : ℕ). prefix_lines r ++ numbered_lines (done ++ r ∷ rs) (in_order n rs)) (sym (behind_one done r))
    ∙ ap (λ (all : List RouterDef). prefix_lines r ++ numbered_lines all (in_order (length (done ++ r ∷ [])) rs)) (sym (append_assoc done (r ∷ []) rs))
    ∙ ap (λ (x : List Line). prefix_lines r ++ x) (lines_behind (done ++ r ∷ []) rs)

pub lines_in_order : (rs : List RouterDef) → numbered_lines rs (in_order 0 rs) ≡ flat_map prefix_lines rs
lines_in_order rs = lines_behind [] rs
