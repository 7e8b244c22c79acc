-- One router's part: what cancelling and arriving do, by counts, and what holds of each event.
use Rattle.std.proofs.Common.{◌≡◌, ℕ, zero, suc, ◌+◌, ◌<◌, Bool, true, false, List, [], ◌∷◌, ◌++◌, length, get_or, set, refl, sym, ap, ◌∙◌, subst, arith}
use Rattle.std.specs.Prelude.{Some, slice_get}
use Rattle.std.specs.List.{remove, AllByRecursion}
use Rattle.std.specs.Ordering.{is_eq}
use Rattle.std.specs.Cmp.{Equal-is, tied_itself}
use Rattle.dn_model.specs.declared.event.Event.{Event}
use Rattle.dn_model.specs.Order.{event_cmp, sorted, event_total}
use Rattle.dn_model.specs.Network.{tick}
use Rattle.dn_lists.proofs.Lists.{by_test, all_append}
use Rattle.dn_lists.proofs.Sorting.{one_if, count, count_append, all_in_order, count_in_order}
use Rattle.dn_model.proofs.EventOrder.{event_same}
use Rattle.dn_world.specs.declared.packet.Packet.{Packet}
use Rattle.dn_world.specs.World.{Part, no_part, is_same, stands, without, without_each, unmatched, cancelled, with_todo, with_void, plus_of, minus_of, ticked}
use Rattle.dn_world.specs.Steps.{signed, until, since}

-- ---- lists with one element changed

module _ {X : Type 0} where
  pub all_set : (P : X → Type 0) (xs : List X) (i : ℕ) (x : X) → AllByRecursion P xs → P x → AllByRecursion P (set xs i x)
  all_set P [] i x a h = tt
  all_set P (y ∷ ys) zero x a h = (h, a.1)
  all_set P (y ∷ ys) (suc i) x a h = (a.0, all_set P ys i x a.1 h)

  pub all_get : (P : X → Type 0) (xs : List X) (i : ℕ) (d : X) → AllByRecursion P xs → P d → P (get_or xs i d)
  all_get P [] i d a h = h
  all_get P (y ∷ ys) zero d a h = a.0
  all_get P (y ∷ ys) (suc i) d a h = all_get P ys i d a.1 h

  -- what a change at i leaves, seen through f
  pub get_kept : {Y : Type 0} (f : X → Y) (xs : List X) (i j : ℕ) (x d : X) → f x ≡ f (get_or xs i d) → f (get_or (set xs i x) j d) ≡ f (get_or xs j d)
  get_kept f [] i j x d h = refl
  get_kept f (y ∷ ys) zero zero x d h = h
  get_kept f (y ∷ ys) zero (suc j) x d h = refl
  get_kept f (y ∷ ys) (suc i) zero x d h = refl
  get_kept f (y ∷ ys) (suc i) (suc j) x d h = get_kept f ys i j x d h

  pub all_taken : (P : X → Type 0) (xs : List X) (i : ℕ) → AllByRecursion P xs → AllByRecursion P (remove xs i)
  all_taken P [] zero a = tt
  all_taken P [] (suc i) a = tt
  all_taken P (x ∷ xs) zero a = a.1
  all_taken P (x ∷ xs) (suc i) a = (a.0, all_taken P xs i a.1)

  pub all_of_get : (P : X → Type 0) (xs : List X) (i : ℕ) (x : X) → slice_get xs i ≡ Some x → AllByRecursion P xs → P x
  all_of_get P [] i x e a = absurd (cc)
  all_of_get P (y ∷ ys) zero x e a = let h : y ≡ x = cc in subst P h a.0
  all_of_get P (y ∷ ys) (suc i) x e a = all_of_get P ys i x e a.1

-- ---- the same event

pub same_is : (e x : Event) → is_same e x ≡ true → e ≡ x
same_is e x h = event_same e x ((Equal-is (event_cmp e x)).0 h)

pub same_itself : (e : Event) → is_same e e ≡ true
same_itself e = ap is_eq (tied_itself event_total e)

pub stands_all : (P : Event → Type 0) (e : Event) (xs : List Event) → stands e xs ≡ true → AllByRecursion P xs → P e
unfolding stands
stands_all P e [] h a = absurd (cc)
stands_all P e (x ∷ xs) h a =
    by_test (is_same e x)
    (λ g. subst P (sym (same_is e x g)) a.0)
    (λ g. let k : stands e xs ≡ true = (simp g at h) in stands_all P e xs k a.1)

pub absent_none : (e : Event) (xs : List Event) → stands e xs ≡ false → count (is_same e) xs ≡ 0
unfolding stands
absent_none e [] h = refl
absent_none e (x ∷ xs) h =
    by_test (is_same e x)
    (λ g. absurd (let k : true ≡ false = (simp g at h) in cc))
    (λ g. let k : stands e xs ≡ false = (simp g at h) in simp g (let ih = absent_none e xs k in omega (arith, ih)))

-- ---- cancelling

pub count_without : (p : Event → Bool) (e : Event) (xs : List Event) → stands e xs ≡ true → one_if (p e) + count p (without e xs) ≡ count p xs
unfolding stands without
count_without p e [] h = absurd (cc)
count_without p e (x ∷ xs) h =
    by_test (is_same e x)
    (λ g. let same : one_if (p e) ≡ one_if (p x) = ap (λ z. one_if (p z)) (same_is e x g) in simp g (omega (arith, same)))
    (λ g. let k : stands e xs ≡ true = (simp g at h) in simp g (let ih = count_without p e xs k in omega (arith, ih)))

pub without_none : (e : Event) (xs : List Event) → stands e xs ≡ false → without e xs ≡ xs
unfolding stands without
without_none e [] h = refl
without_none e (x ∷ xs) h =
    by_test (is_same e x)
    (λ g. absurd (let k : true ≡ false = (simp g at h) in cc))
    (λ g. let k : stands e xs ≡ false = (simp g at h) in simp g (ap (λ l. x ∷ l) (without_none e xs k)))

pub all_without : (P : Event → Type 0) (e : Event) (xs : List Event) → AllByRecursion P xs → AllByRecursion P (without e xs)
unfolding without
all_without P e [] a = tt
all_without P e (x ∷ xs) a = by_test (is_same e x) (λ g. simp g a.1) (λ g. simp g (a.0, all_without P e xs a.1))

-- the two lists lose the same
pub count_cancel : (p : Event → Bool) (todo voids : List Event) → count p (without_each todo voids) + count p voids ≡ count p todo + count p (unmatched todo voids)
unfolding without_each unmatched
count_cancel p todo [] = refl
count_cancel p todo (v ∷ vs) =
    let ih = count_cancel p (without v todo) vs in
    by_test (stands v todo)
    (λ g. let out = count_without p v todo g in simp g (omega (arith, ih, out)))
    (λ g.
    let stays = without_none v todo g in
    let jh = count_cancel p todo vs in
    simp (g, stays) (omega (arith, jh)))

pub all_without_each : (P : Event → Type 0) (todo voids : List Event) → AllByRecursion P todo → AllByRecursion P (without_each todo voids)
unfolding without_each
all_without_each P todo [] a = a
all_without_each P todo (v ∷ vs) a = all_without_each P (without v todo) vs (all_without P v todo a)

pub all_unmatched : (P : Event → Type 0) (todo voids : List Event) → AllByRecursion P voids → AllByRecursion P (unmatched todo voids)
unfolding unmatched
all_unmatched P todo [] a = tt
all_unmatched P todo (v ∷ vs) a =
    by_test (stands v todo) (λ g. simp g (all_unmatched P (without v todo) vs a.1)) (λ g. simp g (a.0, all_unmatched P todo vs a.1))

-- ---- arriving

pub todo_done : (es : List Event) (q : Part) → (with_todo es q).done ≡ q.done
unfolding with_todo cancelled
todo_done es q = refl

pub void_done : (e : Event) (q : Part) → (with_void e q).done ≡ q.done
unfolding with_void cancelled
void_done e q = refl

pub count_todo : (p : Event → Bool) (es : List Event) (q : Part) → count p (with_todo es q).todo + count p q.voids ≡ count p q.todo + count p es + count p (with_todo es q).voids
unfolding with_todo cancelled sorted
count_todo p es q =
    let a = count_cancel p (sorted (es ++ q.todo)) q.voids in
    let b = count_in_order event_cmp event_total event_same p (es ++ q.todo) in
    let c = count_append p es q.todo in
    omega (arith, a, b, c)

pub count_void : (p : Event → Bool) (e : Event) (q : Part) → count p (with_void e q).todo + one_if (p e) + count p q.voids ≡ count p q.todo + count p (with_void e q).voids
unfolding with_void cancelled sorted
count_void p e q =
    let a = count_cancel p q.todo (sorted (e ∷ q.voids)) in
    let b = count_in_order event_cmp event_total event_same p (e ∷ q.voids) in
    omega (arith, a, b)

-- what waits at a router
abbrev pub Waits : (Event → Type 0) → Part → Type 0
Waits P q = AllByRecursion P q.todo × AllByRecursion P q.voids

pub waits_todo : (P : Event → Type 0) (es : List Event) (q : Part) → AllByRecursion P es → Waits P q → Waits P (with_todo es q)
unfolding with_todo cancelled sorted
waits_todo P es q a b = (
  all_without_each P (sorted (es ++ q.todo)) q.voids (all_in_order event_cmp P (es ++ q.todo) (all_append P es q.todo a b.0)),
  all_unmatched P (sorted (es ++ q.todo)) q.voids b.1,
)

pub waits_void : (P : Event → Type 0) (e : Event) (q : Part) → P e → Waits P q → Waits P (with_void e q)
unfolding with_void cancelled sorted
waits_void P e q a b = (
  all_without_each P q.todo (sorted (e ∷ q.voids)) b.0,
  all_unmatched P q.todo (sorted (e ∷ q.voids)) (all_in_order event_cmp P (e ∷ q.voids) (a, b.1)),
)

pub waits_ticked : (P : Event → Type 0) (group r : ℕ) (qs : List Part) → ((s : ℕ) → P (tick group s)) → AllByRecursion (Waits P) qs → AllByRecursion (Waits P) (ticked group r qs)
unfolding ticked
waits_ticked P group r [] t a = tt
waits_ticked P group r (q ∷ qs) t a = (waits_todo P (tick group r ∷ []) q (t r, tt) a.0, waits_ticked P group (suc r) qs t a.1)

-- the part of a router after the ticks
pub get_ticked : (group r : ℕ) (qs : List Part) (s : ℕ) → s < length qs → get_or (ticked group r qs) s no_part ≡ with_todo (tick group (r + s) ∷ []) (get_or qs s no_part)
unfolding ticked
get_ticked group r [] s h = absurd (omega arith)
get_ticked group r (q ∷ qs) zero h = ap (λ n. with_todo (tick group n ∷ []) q) (let e : r ≡ r + 0 = omega arith in e)
get_ticked group r (q ∷ qs) (suc s) h =
    get_ticked group (suc r) qs s (omega arith)
    ∙ ap (λ n. with_todo (tick group n ∷ []) (get_or qs s no_part)) (let e : suc r + s ≡ r + suc s = omega arith in e)

pub length_ticked : (group r : ℕ) (qs : List Part) → length (ticked group r qs) ≡ length qs
unfolding ticked
length_ticked group r [] = refl
length_ticked group r (q ∷ qs) = ap suc (length_ticked group (suc r) qs)

-- ---- what flies

pub count_plus_of : (p : Event → Bool) (ks ls : List Packet) → count p (plus_of (ks ++ ls)) ≡ count p (plus_of ks) + count p (plus_of ls)
unfolding plus_of
count_plus_of p [] ls = omega arith
count_plus_of p (k ∷ ks) ls =
    let ih = count_plus_of p ks ls in by_test k.plus (λ g. simp g (omega (arith, ih))) (λ g. simp g (omega (arith, ih)))

pub count_minus_of : (p : Event → Bool) (ks ls : List Packet) → count p (minus_of (ks ++ ls)) ≡ count p (minus_of ks) + count p (minus_of ls)
unfolding minus_of
count_minus_of p [] ls = omega arith
count_minus_of p (k ∷ ks) ls =
    let ih = count_minus_of p ks ls in by_test k.plus (λ g. simp g (omega (arith, ih))) (λ g. simp g (omega (arith, ih)))

pub plus_of_plus : (es : List Event) → plus_of (signed true es) ≡ es
unfolding plus_of signed
plus_of_plus [] = refl
plus_of_plus (e ∷ es) = ap (λ l. e ∷ l) (plus_of_plus es)

pub plus_of_minus : (es : List Event) → plus_of (signed false es) ≡ []
unfolding plus_of signed
plus_of_minus [] = refl
plus_of_minus (e ∷ es) = plus_of_minus es

pub minus_of_plus : (es : List Event) → minus_of (signed true es) ≡ []
unfolding minus_of signed
minus_of_plus [] = refl
minus_of_plus (e ∷ es) = minus_of_plus es

pub minus_of_minus : (es : List Event) → minus_of (signed false es) ≡ es
unfolding minus_of signed
minus_of_minus [] = refl
minus_of_minus (e ∷ es) = ap (λ l. e ∷ l) (minus_of_minus es)

-- one packet less
pub taken_plus : (p : Event → Bool) (ks : List Packet) (i : ℕ) (k : Packet) → slice_get ks i ≡ Some k → k.plus ≡ true → (count p (plus_of (remove ks i)) + one_if (p k.event) ≡ count p (plus_of ks)) × (count p (minus_of (remove ks i)) ≡ count p (minus_of ks))
unfolding plus_of minus_of
taken_plus p [] i k e h = absurd (cc)
taken_plus p (l ∷ ls) zero k e h =
    let same : l ≡ k = cc in
    let g : l.plus ≡ true = ap (λ z. z.plus) same ∙ h in
    let n : one_if (p l.event) ≡ one_if (p k.event) = ap (λ z. one_if (p z.event)) same in
    simp g (omega (arith, n), refl)
taken_plus p (l ∷ ls) (suc i) k e h =
    let ih = taken_plus p ls i k e h in
    by_test l.plus (λ g. simp g (omega (arith, ih.0), ih.1)) (λ g. simp g (ih.0, let n : one_if (p l.event) + count p (minus_of (remove ls i)) ≡ one_if (p l.event) + count p (minus_of ls) = omega (arith, ih.1) in n))

pub taken_minus : (p : Event → Bool) (ks : List Packet) (i : ℕ) (k : Packet) → slice_get ks i ≡ Some k → k.plus ≡ false → (count p (minus_of (remove ks i)) + one_if (p k.event) ≡ count p (minus_of ks)) × (count p (plus_of (remove ks i)) ≡ count p (plus_of ks))
unfolding plus_of minus_of
taken_minus p [] i k e h = absurd (cc)
taken_minus p (l ∷ ls) zero k e h =
    let same : l ≡ k = cc in
    let g : l.plus ≡ false = ap (λ z. z.plus) same ∙ h in
    let n : one_if (p l.event) ≡ one_if (p k.event) = ap (λ z. one_if (p z.event)) same in
    simp g (omega (arith, n), refl)
taken_minus p (l ∷ ls) (suc i) k e h =
    let ih = taken_minus p ls i k e h in
    by_test l.plus (λ g. simp g (ih.0, let n : one_if (p l.event) + count p (plus_of (remove ls i)) ≡ one_if (p l.event) + count p (plus_of ls) = omega (arith, ih.1) in n)) (λ g. simp g (omega (arith, ih.0), ih.1))

abbrev pub Flies : (Event → Type 0) → List Packet → Type 0
Flies P ks = AllByRecursion (λ k. P k.event) ks

pub flies_signed : (P : Event → Type 0) (plus : Bool) (es : List Event) → AllByRecursion P es → Flies P (signed plus es)
unfolding signed
flies_signed P plus [] a = tt
flies_signed P plus (e ∷ es) a = (a.0, flies_signed P plus es a.1)

-- ---- the front and the rest of a list

pub until_since : (q : Event → Bool) (es : List Event) → until q es ++ since q es ≡ es
unfolding until since
until_since q [] = refl
until_since q (e ∷ es) = by_test (q e) (λ g. simp g) (λ g. simp g (ap (λ l. e ∷ l) (until_since q es)))

pub all_since : (P : Event → Type 0) (q : Event → Bool) (es : List Event) → AllByRecursion P es → AllByRecursion P (since q es)
unfolding since
all_since P q [] a = tt
all_since P q (e ∷ es) a = by_test (q e) (λ g. simp g a) (λ g. simp g (all_since P q es a.1))

pub all_until : (P : Event → Type 0) (q : Event → Bool) (es : List Event) → AllByRecursion P es → AllByRecursion P (until q es)
unfolding until
all_until P q [] a = tt
all_until P q (e ∷ es) a = by_test (q e) (λ g. simp g tt) (λ g. simp g (a.0, all_until P q es a.1))
