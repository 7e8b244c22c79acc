-- Entries in ascending order of their keys: what is put among them or taken out, and what a look-up finds then.
use Rattle.std.proofs.Common.{◌≡◌, ℕ, zero, suc, Bool, true, false, cond, ◌||◌, ◌+◌, ◌≤◌, List, [], ◌∷◌, length, refl, sym, ap, ◌∙◌, arith}
use Rattle.std.specs.Prelude.{Option, Some, is_some, slice_set}
use Rattle.std.specs.List.{AllByRecursion, filter, list_any}
use Rattle.std.specs.List.Sorted.{IsStrictlySortedBy}
use Rattle.std.specs.Map.{keys_of, lookup, remove_entry}
use Rattle.std.specs.BTreeMap.{insert_entry, is_at}
use Rattle.std.specs.Cmp.{IsTotalOrder, tied_itself}
use Rattle.std.specs.declared.cmp.Ordering.{Ordering}
use Rattle.std.specs.declared.cmp.Ordering.TheVariants.{Less, Equal, Greater}
use Rattle.std.specs.Ordering.{eq_by_cmp, is_eq, match_ordering, ordering_reverse}
use Rattle.std.proofs.lemmas.Cmp.{eq_by_cmp_equiv}
use Rattle.std.proofs.lemmas.Map.{lookup-none}
use Rattle.std.proofs.lemmas.Map.Entries.{none_below_head}
use Rattle.std.proofs.lemmas.Map.Keys.{sorted_head, sorted_tail, IsDistinct-from_sorted}
use Rattle.std.proofs.lemmas.Map.Steps.{length-le_from_keys}

-- a look-up of the key finds a value
abbrev pub Finds : {K X : Type 0} → (K → K → Ordering) → List (K × X) → K → Type 0
Finds R es q = is_some (lookup (is_at (R q)) es) ≡ true

abbrev pub Rises : {K X : Type 0} → (K → K → Ordering) → List (K × X) → Type 0
Rises R es = IsStrictlySortedBy R (keys_of es)

abbrev pub Each : {K X : Type 0} → (K → Type 0) → List (K × X) → Type 0
Each P es = AllByRecursion P (keys_of es)

unfoldable pub one : Bool → ℕ
one b = cond b 1 0

-- ---- what holds of each

pub all_more : {A : Type 0} (P Q : A → Type 0) → ((x : A) → P x → Q x) → (xs : List A) → AllByRecursion P xs → AllByRecursion Q xs
all_more P Q f [] h = tt
all_more P Q f (x ∷ xs) h = (f x h.0, all_more P Q f xs h.1)

each_put : {K X : Type 0} (P : K → Type 0) (o : Ordering) (e : K × X) (es rest : List (K × X)) (key : K) (x : X) → P key → P e.0 → Each P es → Each P rest
    → Each P (match_ordering o ((key, x) ∷ e ∷ es) ((e.0, x) ∷ es) (e ∷ rest))
each_put P Less e es rest key x new old all more = (new, (old, all))
each_put P Equal e es rest key x new old all more = (old, all)
each_put P Greater e es rest key x new old all more = (old, more)

pub each-insert : {K X : Type 0} (R : K → K → Ordering) (P : K → Type 0) (es : List (K × X)) (key : K) (x : X) → P key → Each P es → Each P (insert_entry R es key x)
each-insert R P [] key x new all = (new, tt)
each-insert R P (e ∷ es) key x new all =
    each_put P (R key e.0) e es (insert_entry R es key x) key x new all.0 all.1 (each-insert R P es key x new all.1)

each_left : {K X : Type 0} (P : K → Type 0) (b : Bool) (e : K × X) (es rest : List (K × X)) → P e.0 → Each P es → Each P rest → Each P (cond b es (e ∷ rest))
each_left P true e es rest old all more = all
each_left P false e es rest old all more = (old, more)

pub each-remove : {K X : Type 0} (P : K → Type 0) (test : K → Bool) (es : List (K × X)) → Each P es → Each P (remove_entry test es)
each-remove P test [] all = tt
each-remove P test (e ∷ es) all = each_left P (test e.0) e es (remove_entry test es) all.0 all.1 (each-remove P test es all.1)

each_chosen : {K X : Type 0} (P : K → Type 0) (b : Bool) (e : K × X) (rest : List (K × X)) → P e.0 → Each P rest → Each P (cond b (e ∷ rest) rest)
each_chosen P true e rest old more = (old, more)
each_chosen P false e rest old more = more

pub each-filter : {K X : Type 0} (P : K → Type 0) (test : K × X → Bool) (es : List (K × X)) → Each P es → Each P (filter test es)
each-filter P test [] all = tt
each-filter P test (e ∷ es) all = each_chosen P (test e) e (filter test es) all.0 (each-filter P test es all.1)

-- the same of the values
abbrev pub EachValue : {K X : Type 0} → (X → Type 0) → List (K × X) → Type 0
EachValue P es = AllByRecursion (λ e. P e.1) es

values_put : {K X : Type 0} (P : X → Type 0) (o : Ordering) (e : K × X) (es rest : List (K × X)) (key : K) (x : X) → P x → P e.1 → EachValue P es → EachValue P rest
    → EachValue P (match_ordering o ((key, x) ∷ e ∷ es) ((e.0, x) ∷ es) (e ∷ rest))
values_put P Less e es rest key x new old all more = (new, (old, all))
values_put P Equal e es rest key x new old all more = (new, all)
values_put P Greater e es rest key x new old all more = (old, more)

pub values-insert : {K X : Type 0} (R : K → K → Ordering) (P : X → Type 0) (es : List (K × X)) (key : K) (x : X) → P x → EachValue P es → EachValue P (insert_entry R es key x)
values-insert R P [] key x new all = (new, tt)
values-insert R P (e ∷ es) key x new all =
    values_put P (R key e.0) e es (insert_entry R es key x) key x new all.0 all.1 (values-insert R P es key x new all.1)

values_left : {K X : Type 0} (P : X → Type 0) (b : Bool) (e : K × X) (es rest : List (K × X)) → P e.1 → EachValue P es → EachValue P rest → EachValue P (cond b es (e ∷ rest))
values_left P true e es rest old all more = all
values_left P false e es rest old all more = (old, more)

pub values-remove : {K X : Type 0} (P : X → Type 0) (test : K → Bool) (es : List (K × X)) → EachValue P es → EachValue P (remove_entry test es)
values-remove P test [] all = tt
values-remove P test (e ∷ es) all = values_left P (test e.0) e es (remove_entry test es) all.0 all.1 (values-remove P test es all.1)

-- what is set in a list of which each is so
pub each-set : {A : Type 0} (P : A → Type 0) (xs : List A) (i : ℕ) (x : A) → P x → AllByRecursion P xs → AllByRecursion P (slice_set xs i x)
each-set P [] i x new all = tt
each-set P (y ∷ ys) zero x new all = (new, all.1)
each-set P (y ∷ ys) (suc i) x new all = (all.0, each-set P ys i x new all.1)

-- ---- the order

above_lower : {K : Type 0} {R : K → K → Ordering} (o : IsTotalOrder R) (key a : K) (ks : List K) → R key a ≡ Less → AllByRecursion (λ k. R a k ≡ Less) ks → AllByRecursion (λ k. R key k ≡ Less) ks
above_lower {K} {R} o key a ks less above = all_more (λ k. R a k ≡ Less) (λ k. R key k ≡ Less) (λ k. o.trans key a k less) ks above

below : {K : Type 0} {R : K → K → Ordering} (o : IsTotalOrder R) (key a : K) → R key a ≡ Greater → R a key ≡ Less
below o key a t = o.antisymm a key ∙ ap ordering_reverse t

rises_put : {K X : Type 0} {R : K → K → Ordering} (o : IsTotalOrder R) (c : Ordering) (e : K × X) (es rest : List (K × X)) (key : K) (x : X) → R key e.0 ≡ c → Rises R (e ∷ es)
    → (R e.0 key ≡ Less → Each (λ k. R e.0 k ≡ Less) rest) → Rises R rest
    → Rises R (match_ordering c ((key, x) ∷ e ∷ es) ((e.0, x) ∷ es) (e ∷ rest))
unfolding IsStrictlySortedBy
rises_put {K} {X} {R} o Less e es rest key x t up above more = ((t, above_lower o key e.0 (keys_of es) t (sorted_head R e.0 (keys_of es) up)), up)
rises_put o Equal e es rest key x t up above more = up
rises_put o Greater e es rest key x t up above more = (above (below o key e.0 t), more)

pub rises-insert : {K X : Type 0} {R : K → K → Ordering} (o : IsTotalOrder R) (es : List (K × X)) (key : K) (x : X) → Rises R es → Rises R (insert_entry R es key x)
unfolding IsStrictlySortedBy
rises-insert o [] key x up = (tt, tt)
rises-insert {K} {X} {R} o (e ∷ es) key x up =
    rises_put o (R key e.0) e es (insert_entry R es key x) key x refl up
    (λ less. each-insert R (λ k. R e.0 k ≡ Less) es key x less (sorted_head R e.0 (keys_of es) up))
    (rises-insert o es key x (sorted_tail R e.0 (keys_of es) up))

rises_left : {K X : Type 0} (R : K → K → Ordering) (b : Bool) (e : K × X) (es rest : List (K × X)) → Rises R (e ∷ es) → Each (λ k. R e.0 k ≡ Less) rest → Rises R rest → Rises R (cond b es (e ∷ rest))
unfolding IsStrictlySortedBy
rises_left R true e es rest up above more = sorted_tail R e.0 (keys_of es) up
rises_left R false e es rest up above more = (above, more)

pub rises-remove : {K X : Type 0} (R : K → K → Ordering) (test : K → Bool) (es : List (K × X)) → Rises R es → Rises R (remove_entry test es)
rises-remove R test [] up = up
rises-remove R test (e ∷ es) up =
    rises_left R (test e.0) e es (remove_entry test es) up
    (each-remove (λ k. R e.0 k ≡ Less) test es (sorted_head R e.0 (keys_of es) up))
    (rises-remove R test es (sorted_tail R e.0 (keys_of es) up))

-- ---- what is found

first_found : {X : Type 0} (b : Bool) (x : X) (o : Option X) → is_some o ≡ true → is_some (cond b (Some x) o) ≡ true
first_found true x o h = refl
first_found false x o h = h

either_found : {X : Type 0} (b : Bool) (x y : X) (o p : Option X) → (is_some o ≡ true → is_some p ≡ true) → is_some (cond b (Some x) o) ≡ true → is_some (cond b (Some y) p) ≡ true
either_found true x y o p more h = refl
either_found false x y o p more h = more h

finds_put : {K X : Type 0} (R : K → K → Ordering) (c : Ordering) (e : K × X) (es rest : List (K × X)) (key : K) (x : X) (q : K) → (Finds R es q → Finds R rest q) → Finds R (e ∷ es) q
    → Finds R (match_ordering c ((key, x) ∷ e ∷ es) ((e.0, x) ∷ es) (e ∷ rest)) q
finds_put R Less e es rest key x q more h = first_found (is_at (R q) key) x (lookup (is_at (R q)) (e ∷ es)) h
finds_put R Equal e es rest key x q more h = either_found (is_at (R q) e.0) e.1 x (lookup (is_at (R q)) es) (lookup (is_at (R q)) es) (λ k. k) h
finds_put R Greater e es rest key x q more h = either_found (is_at (R q) e.0) e.1 e.1 (lookup (is_at (R q)) es) (lookup (is_at (R q)) rest) more h

pub finds-insert : {K X : Type 0} (R : K → K → Ordering) (es : List (K × X)) (key : K) (x : X) (q : K) → Finds R es q → Finds R (insert_entry R es key x) q
finds-insert R [] key x q h = absurd cc
finds-insert R (e ∷ es) key x q h = finds_put R (R key e.0) e es (insert_entry R es key x) key x q (finds-insert R es key x q) h

new_put : {K X : Type 0} {R : K → K → Ordering} (o : IsTotalOrder R) (c : Ordering) (e : K × X) (es rest : List (K × X)) (key : K) (x : X) → R key e.0 ≡ c → Finds R rest key
    → Finds R (match_ordering c ((key, x) ∷ e ∷ es) ((e.0, x) ∷ es) (e ∷ rest)) key
new_put o Less e es rest key x t more = rw (tied_itself o key) refl
new_put o Equal e es rest key x t more = rw t refl
new_put o Greater e es rest key x t more = rw t more

-- what was put is found
pub finds-new : {K X : Type 0} {R : K → K → Ordering} (o : IsTotalOrder R) (es : List (K × X)) (key : K) (x : X) → Finds R (insert_entry R es key x) key
finds-new o [] key x = rw (tied_itself o key) refl
finds-new {K} {X} {R} o (e ∷ es) key x = new_put o (R key e.0) e es (insert_entry R es key x) key x refl (finds-new o es key x)

-- each key is found
pub finds_each : {K X : Type 0} {R : K → K → Ordering} (o : IsTotalOrder R) (es : List (K × X)) → Each (Finds R es) es
finds_each o [] = tt
finds_each {K} {X} {R} o (e ∷ es) =
    (rw (tied_itself o e.0) refl, all_more (Finds R es) (Finds R (e ∷ es)) (λ q. first_found (is_at (R q) e.0) e.1 (lookup (is_at (R q)) es)) (keys_of es) (finds_each o es))

finds_left : {K X : Type 0} {R : K → K → Ordering} (o : IsTotalOrder R) (b : Bool) (e : K × X) (es rest : List (K × X)) (key q : K) → is_at (R key) e.0 ≡ b → is_at (R key) q ≡ false
    → (Finds R es q → Finds R rest q) → Finds R (e ∷ es) q → Finds R (cond b es (e ∷ rest)) q
finds_left {K} {X} {R} o true e es rest key q t away more h =
    let equal = eq_by_cmp_equiv o in
    let other : is_at (R q) e.0 ≡ false = equal.symm q e.0 ∙ sym (equal.congr key e.0 q t) ∙ away in
    rw other at h
finds_left {K} {X} {R} o false e es rest key q t away more h = either_found (is_at (R q) e.0) e.1 e.1 (lookup (is_at (R q)) es) (lookup (is_at (R q)) rest) more h

-- another key is found as before
pub finds-remove : {K X : Type 0} {R : K → K → Ordering} (o : IsTotalOrder R) (es : List (K × X)) (key q : K) → is_at (R key) q ≡ false → Finds R es q → Finds R (remove_entry (is_at (R key)) es) q
finds-remove o [] key q away h = h
finds-remove {K} {X} {R} o (e ∷ es) key q away h = finds_left o (is_at (R key) e.0) e es (remove_entry (is_at (R key)) es) key q refl away (finds-remove o es key q away) h

-- ---- how many there are

length_put : {K X : Type 0} {R : K → K → Ordering} (o : IsTotalOrder R) (c : Ordering) (e : K × X) (es rest : List (K × X)) (key : K) (x : X) → R key e.0 ≡ c → Rises R (e ∷ es)
    → length rest + one (is_some (lookup (is_at (R key)) es)) ≡ length es + 1
    → length (match_ordering c ((key, x) ∷ e ∷ es) ((e.0, x) ∷ es) (e ∷ rest)) + one (is_some (lookup (is_at (R key)) (e ∷ es))) ≡ length (e ∷ es) + 1
unfolding one
length_put {K} {X} {R} o Less e es rest key x t up more =
    let none = lookup-none (is_at (R key)) (e ∷ es) (none_below_head o key e es up t) in
    rw none (omega arith)
length_put o Equal e es rest key x t up more = rw t (omega arith)
length_put o Greater e es rest key x t up more = rw t (omega (arith, more))

pub length-insert : {K X : Type 0} {R : K → K → Ordering} (o : IsTotalOrder R) (es : List (K × X)) (key : K) (x : X) → Rises R es
    → length (insert_entry R es key x) + one (is_some (lookup (is_at (R key)) es)) ≡ length es + 1
unfolding one
length-insert o [] key x up = refl
length-insert {K} {X} {R} o (e ∷ es) key x up =
    length_put o (R key e.0) e es (insert_entry R es key x) key x refl up (length-insert o es key x (sorted_tail R e.0 (keys_of es) up))

length_left : {K X : Type 0} (b : Bool) (e : K × X) (es rest : List (K × X)) (found : Option X) → length rest + one (is_some found) ≡ length es
    → length (cond b es (e ∷ rest)) + one (is_some (cond b (Some e.1) found)) ≡ length (e ∷ es)
unfolding one
length_left true e es rest found more = omega arith
length_left false e es rest found more = omega (arith, more)

pub length-remove : {K X : Type 0} (test : K → Bool) (es : List (K × X)) → length (remove_entry test es) + one (is_some (lookup test es)) ≡ length es
unfolding one
length-remove test [] = refl
length-remove test (e ∷ es) = length_left (test e.0) e es (remove_entry test es) (lookup test es) (length-remove test es)

-- ---- keys that are all found are no more than the entries

pub is_eq-true : (o : Ordering) → is_eq o ≡ true → o ≡ Equal
is_eq-true Less e = absurd cc
is_eq-true Equal e = refl
is_eq-true Greater e = absurd cc

-- where one key is found, so is each that is equal to it
found_alike : {K X : Type 0} {R : K → K → Ordering} (o : IsTotalOrder R) (q k : K) (es : List (K × X)) → eq_by_cmp R q k ≡ true → lookup (is_at (R q)) es ≡ lookup (is_at (R k)) es
found_alike o q k [] same = refl
found_alike {K} {X} {R} o q k (e ∷ es) same =
    let equal = eq_by_cmp_equiv o in
    let here : is_at (R q) e.0 ≡ is_at (R k) e.0 = equal.congr q k e.0 same in
    rw here (ap (λ (rest : Option X). cond (is_at (R k) e.0) (Some e.1) rest) (found_alike o q k es same))

among : {K X : Type 0} {R : K → K → Ordering} (o : IsTotalOrder R) (b : Bool) (q k : K) (ks : List K) (es : List (K × X)) → eq_by_cmp R q k ≡ b → Finds R es k
    → (list_any (eq_by_cmp R q) ks ≡ true → Finds R es q) → (b || list_any (eq_by_cmp R q) ks) ≡ true → Finds R es q
among o true q k ks es t here more h = ap is_some (found_alike o q k es t) ∙ here
among o false q k ks es t here more h = more h

each_one : {K X : Type 0} {R : K → K → Ordering} (o : IsTotalOrder R) (q : K) (ks : List K) (es : List (K × X)) → AllByRecursion (Finds R es) ks → list_any (eq_by_cmp R q) ks ≡ true → Finds R es q
each_one o q [] es all h = absurd cc
each_one {K} {X} {R} o q (k ∷ ks) es all h = among o (eq_by_cmp R q k) q k ks es refl all.0 (each_one o q ks es all.1) h

pub no_more : {K X : Type 0} {R : K → K → Ordering} (o : IsTotalOrder R) (ks : List K) (es : List (K × X)) → IsStrictlySortedBy R ks → AllByRecursion (Finds R es) ks → length ks ≤ length es
no_more {K} {X} {R} o ks es up all =
    length-le_from_keys (eq_by_cmp_equiv o) ks es (IsDistinct-from_sorted R ks up) (λ q h. each_one o q ks es all h)
