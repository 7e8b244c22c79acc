-- What is kept beside the routers, and what they ask for first.
use Rattle.std.proofs.Common.{◌≡◌, ℕ, zero, suc, ◌+◌, ◌<◌, ◌≤◌, Bool, true, false, not, ◌&&◌, if◌then◌else◌, List, [], ◌∷◌, length, get_or, set, refl, sym, ap, ◌∙◌, subst, arith}
use Rattle.std.specs.Prelude.{Option, Some, None, option_map, is_some, slice_get, Result, Ok, Err, OnOk, OnErr}
use Rattle.std.specs.Ordering.{is_lt, ordering_then, nat_cmp}
use Rattle.std.specs.declared.cmp.Ordering.TheVariants.{Less, Greater}
use Rattle.std.proofs.lemmas.Option.{get_or_from_slice_get}
use Rattle.dn_guest.specs.InputOrder.{input_cmp}
use Rattle.dn_model.specs.declared.key.Key.{Key}
use Rattle.dn_model.specs.declared.event.Event.{Event}
use Rattle.dn_model.specs.Order.{key_cmp, event_cmp}
use Rattle.dn_world.specs.World.{Part, is_behind, is_ready, is_empty}
use Rattle.dn_router.specs.Routers.{Speculation}
use Rattle.dn_fabric.specs.declared.asking.Asked.TheVariants.{RollBack, Handle, Nothing}
use Rattle.dn_fabric.specs.declared.roster.Errand.{Errand}
use Rattle.dn_fabric.specs.Coming.{AreAsBefore}
use Rattle.dn_fabric.specs.Commits.{AreAsHandled}
use Rattle.dn_fabric.specs.Rosters.{errand_of, errands_of, asked_of, asked_by, IsFound}
use Rattle.dn_fabric.specs.Work.{first_behind, earlier_of, least_ready}
use Rattle.dn_fabric.proofs.Arrivals.{get_mapped, set_maps, given, before_set, before_same}
use Rattle.dn_fabric.proofs.Leasts.{earliest}
use Rattle.dn_fabric.proofs.Working.{parts_of, IsBehindFrom, IsReadyFrom, ready_more, ready_all}

-- ---- places of a list

-- what stands at a place
pub there : {X : Type 0} (xs : List X) (i : ℕ) → i < length xs → (x : X) × (slice_get xs i ≡ Some x)
there [] i l = absurd (omega (arith, l))
there (x ∷ xs) zero l = (x, refl)
there (x ∷ xs) (suc i) l = there xs i (omega (arith, l))

pub within : {X : Type 0} (xs : List X) (i : ℕ) (x : X) → slice_get xs i ≡ Some x → i < length xs
within [] i x h = absurd (cc)
within (y ∷ ys) zero x h = omega arith
within (y ∷ ys) (suc i) x h = let l = within ys i x h in omega (arith, l)

pub read_is : {X : Type 0} (xs : List X) (i : ℕ) (x : X) → slice_get xs i ≡ Some x → x ≡ get_or xs i x
read_is xs i x h = sym (get_or_from_slice_get xs i x x h)

pub set_there : {X : Type 0} (xs : List X) (i : ℕ) (x : X) → i < length xs → slice_get (set xs i x) i ≡ Some x
set_there [] i x l = absurd (omega (arith, l))
set_there (y ∷ ys) zero x l = refl
set_there (y ∷ ys) (suc i) x l = set_there ys i x (omega (arith, l))

pub on_err : {T E P R : Type 0} (r : Result T E) → OnErr r P → (P → R) → OnErr r R
on_err (Ok x) p f = tt
on_err (Err e) p f = f p

pub same_at : {X : Type 0} (xs : List X) (i : ℕ) (x y : X) → slice_get xs i ≡ Some x → slice_get xs i ≡ Some y → x ≡ y
same_at xs i x y h k = cc

-- ---- what is kept

module _ {S : Type 0} where
  pub kept_at : (ss : List (Speculation S)) (es : List Errand) (i : ℕ) (s : Speculation S) (d : Errand) → es ≡ errands_of ss → slice_get ss i ≡ Some s → get_or es i d ≡ errand_of s.part
  kept_at ss es i s d e h = ap (λ l. get_or l i d) e ∙ get_mapped (λ s. errand_of s.part) ss i s d h

  -- one router has changed, and was looked at again
  pub kept_set : (ss : List (Speculation S)) (es now : List Errand) (i : ℕ) (new : Speculation S) → es ≡ errands_of ss → now ≡ set es i (errand_of new.part) → now ≡ errands_of (set ss i new)
  kept_set ss es now i new e h =
      h ∙ ap (λ l. set l i (errand_of new.part)) e ∙ sym (set_maps (λ s. errand_of s.part) ss i new)

  pub looked_at : (ss lent : List (Speculation S)) (es now : List Errand) (i : ℕ) (new : Speculation S) → i < length ss → es ≡ errands_of ss → lent ≡ set ss i new → ((s : Speculation S) → slice_get lent i ≡ Some s → now ≡ set es i (errand_of s.part)) → now ≡ errands_of (set ss i new)
  looked_at ss lent es now i new l e is again = kept_set ss es now i new e (again new (ap (λ l. slice_get l i) is ∙ set_there ss i new l))

  -- a commit leaves it
  pub kept_handled : (ss ns : List (Speculation S)) → AreAsHandled ss ns → errands_of ns ≡ errands_of ss
  kept_handled [] [] a = refl
  kept_handled [] (n ∷ ns) a = absurd (let c = a.count in omega (arith, c))
  kept_handled (s ∷ ss) [] a = absurd (let c = a.count in omega (arith, c))
  kept_handled (s ∷ ss) (n ∷ ns) a =
      let w = a.each 0 n refl in
      let old : s ≡ w.0 = (let h = w.1 in cc) in
      let first : n.part ≡ s.part = ap (λ t. t.part) w.2 ∙ ap (λ t. t.part) (sym old) in
      let rest = kept_handled ss ns (record { count = (let c = a.count in omega (arith, c)); each = λ r t h. a.each (suc r) t h }) in
      λ i. errand_of (first i) ∷ rest i

  -- routers of which one was given another part, or none
  pub given_either : {T E : Type 0} (ss ns : List (Speculation S)) (r : ℕ) (s : Speculation S) (p : Part) (o : Result T E) → slice_get ss r ≡ Some s → OnOk o (ns ≡ set ss r (given s p)) → OnErr o (ns ≡ ss) → AreAsBefore ss ns
  given_either ss ns r s p (Ok x) at h k = subst (λ (l : List (Speculation S)). AreAsBefore ss l) (sym h) (before_set ss r s p at)
  given_either ss ns r s p (Err d) at h k = subst (λ (l : List (Speculation S)). AreAsBefore ss l) (sym k) (before_same ss)

-- ---- an errand

some_first : (todo : List Event) → is_some (option_map (λ e. e.key) (slice_get todo 0)) ≡ not (is_empty todo)
some_first [] = refl
some_first (x ∷ xs) = refl

none_first : (todo : List Event) → not (is_some (option_map (λ e. e.key) (slice_get todo 0))) ≡ is_empty todo
none_first [] = refl
none_first (x ∷ xs) = refl

pub ready_is : (p : Part) (e : Errand) → e ≡ errand_of p → (not e.behind && is_some e.least) ≡ is_ready p
unfolding is_ready
ready_is p e h = ap (λ d. not d.behind && is_some d.least) h ∙ ap (λ b. not (is_behind p) && b) (some_first p.todo)

pub calm_is : (p : Part) (e : Errand) → e ≡ errand_of p → (not (is_some e.least) && not e.behind) ≡ (is_empty p.todo && not (is_behind p))
calm_is p e h = ap (λ d. not (is_some d.least) && not d.behind) h ∙ ap (λ b. b && not (is_behind p)) (none_first p.todo)

-- the key, if any, where it is less
pub first_some : (todo : List Event) (o : Option Key) (n m : Key) (k : Key) → o ≡ option_map (λ e. e.key) (slice_get todo 0) → o ≡ Some n → m ≡ (if is_lt (key_cmp n k) then n else k) → m ≡ earliest (slice_get todo 0) k
first_some [] o n m k e f h = absurd (cc)
first_some (x ∷ xs) o n m k e f h = let is : n ≡ x.key = cc in h ∙ ap (λ n. if is_lt (key_cmp n k) then n else k) is

pub first_none : (todo : List Event) (o : Option Key) (k : Key) → o ≡ option_map (λ e. e.key) (slice_get todo 0) → o ≡ None → k ≡ earliest (slice_get todo 0) k
first_none [] o k e f = refl
first_none (x ∷ xs) o k e f = absurd (cc)

-- ---- the earlier of two

-- keys decide first
abbrev pub AreByKeys : Type 0
AreByKeys = (x y : Event) → event_cmp x y ≡ ordering_then (ordering_then (key_cmp x.key y.key) (nat_cmp x.router y.router)) (input_cmp x.input y.input)

pub key_less : AreByKeys → (e x : Event) (k n : Key) → k ≡ e.key → n ≡ x.key → key_cmp k n ≡ Less → true ≡ is_lt (event_cmp e x)
key_less parts e x k n p q h =
    let first : key_cmp e.key x.key ≡ Less = (λ i. key_cmp (sym p i) (sym q i)) ∙ h in
    sym (ap is_lt (parts e x ∙ ap (λ o. ordering_then (ordering_then o (nat_cmp e.router x.router)) (input_cmp e.input x.input)) first))

pub key_greater : AreByKeys → (e x : Event) (k n : Key) → k ≡ e.key → n ≡ x.key → key_cmp k n ≡ Greater → false ≡ is_lt (event_cmp e x)
key_greater parts e x k n p q h =
    let first : key_cmp e.key x.key ≡ Greater = (λ i. key_cmp (sym p i) (sym q i)) ∙ h in
    sym (ap is_lt (parts e x ∙ ap (λ o. ordering_then (ordering_then o (nat_cmp e.router x.router)) (input_cmp e.input x.input)) first))

-- ---- what was found

module _ {S : Type 0} (ss : List (Speculation S)) where
  pub found_inside : (o : Option (ℕ × Event)) (n : ℕ) → IsFound ss o (Some n) → n < length ss
  found_inside None n w = absurd (cc)
  found_inside (Some f) n w = let e : n ≡ f.0 = (let h = w.0 in cc) in let l = within ss f.0 w.1 w.2 in omega (arith, e, l)

  pub found_none : (o : Option (ℕ × Event)) (found : Option ℕ) (r : ℕ) (todo : List Event) → None ≡ option_map (λ e. e.key) (slice_get todo 0) → IsFound ss o found → IsFound ss (earlier_of r todo o) found
  found_none o found r [] e w = w
  found_none o found r (x ∷ xs) e w = absurd (cc)

  pub found_first : (o : Option (ℕ × Event)) (r : ℕ) (s : Speculation S) (todo : List Event) (key : Key) → slice_get ss r ≡ Some s → s.part.todo ≡ todo → Some key ≡ option_map (λ e. e.key) (slice_get todo 0) → IsFound ss o None → IsFound ss (earlier_of r todo o) (Some r)
  found_first o r s [] key at is e w = absurd (cc)
  found_first None r s (x ∷ xs) key at is e w = (refl, s, at, ap (λ l. slice_get l 0) is)
  found_first (Some f) r s (x ∷ xs) key at is e w = absurd (let h = w.0 in cc)

  pub found_either : (o : Option (ℕ × Event)) (r other : ℕ) (s : Speculation S) (todo : List Event) (key : Key) (b : Bool) → slice_get ss r ≡ Some s → s.part.todo ≡ todo → Some key ≡ option_map (λ e. e.key) (slice_get todo 0) → ((u t : Speculation S) (e x : Event) → slice_get ss r ≡ Some u → slice_get ss other ≡ Some t → slice_get u.part.todo 0 ≡ Some e → slice_get t.part.todo 0 ≡ Some x → key ≡ e.key → b ≡ is_lt (event_cmp e x)) → IsFound ss o (Some other) → IsFound ss (earlier_of r todo o) (if b then Some r else Some other)
  found_either o r other s [] key b at is e fact w = absurd (cc)
  found_either None r other s (x ∷ xs) key b at is e fact w = absurd (cc)
  found_either (Some f) r other s (x ∷ xs) key b at is e fact w =
      let place : other ≡ f.0 = (let h = w.0 in cc) in
      let own : key ≡ x.key = cc in
      let first : slice_get s.part.todo 0 ≡ Some x = ap (λ l. slice_get l 0) is in
      let b_is = fact s w.1 x f.1 at (ap (slice_get ss) place ∙ w.2) first w.3 own in
      subst (λ z. IsFound ss (if z then Some (r, x) else Some f) (if b then Some r else Some other)) b_is (go b)
    where
      go : (b : Bool) → IsFound ss (if b then Some (r, x) else Some f) (if b then Some r else Some other)
      go true = (refl, s, at, ap (λ l. slice_get l 0) is)
      go false = w

-- ---- what is asked for first

nearer_by : (b leased : Bool) (r : ℕ) (todo : List Event) (o : Option (ℕ × Event)) → b ≡ false → leased ≡ false → earlier_of r todo o ≡ (if (not b && not (is_empty todo)) && not leased then earlier_of r todo o else o)
nearer_by b leased r [] o e f = sym (λ i. if (not (e i) && false) && not (f i) then earlier_of r [] o else o)
nearer_by b leased r (x ∷ xs) o e f = sym (λ i. if (not (e i) && true) && not (f i) then earlier_of r (x ∷ xs) o else o)

nearer_is : (p : Part) (leased : Bool) (r : ℕ) (o : Option (ℕ × Event)) → is_behind p ≡ false → leased ≡ false → earlier_of r p.todo o ≡ (if is_ready p && not leased then earlier_of r p.todo o else o)
unfolding is_ready
nearer_is p leased r o e f = nearer_by (is_behind p) leased r p.todo o e f

leased_by : (b : Bool) (leased : Bool) (more o : Option (ℕ × Event)) → leased ≡ true → o ≡ (if b && not leased then more else o)
leased_by true leased more o f = sym (ap (λ z. if true && not z then more else o) f)
leased_by false leased more o f = sym (ap (λ z. if false && not z then more else o) f)

module _ {S : Type 0} where
  -- what was found of the routers in front of this one, of which none is behind
  pub record IsAskedFrom (rs : List (Speculation S)) (leased : List Bool) (i : ℕ) (found : Option ℕ) : Type 0 where
    pub behind : IsBehindFrom rs i
    pub event : Option (ℕ × Event)
    pub is : IsFound rs event found
    pub ready : IsReadyFrom rs leased i event

  pub asked_start : (rs : List (Speculation S)) (leased : List Bool) → IsAskedFrom rs leased 0 None
  asked_start rs leased = record { behind = refl; event = None; is = refl; ready = refl }

  pub asked_leased : (rs : List (Speculation S)) (leased : List Bool) (i : ℕ) (found : Option ℕ) (x : Speculation S) → i < length rs → x ≡ get_or rs i x → IsBehindFrom rs (i + 1) → get_or leased i false ≡ true → IsAskedFrom rs leased i found → IsAskedFrom rs leased (i + 1) found
  asked_leased rs leased i found x l is behind taken from = record {
    behind = behind;
    event = from.event;
    is = from.is;
    ready = ready_more rs leased i x from.event from.event l is (leased_by (is_ready x.part) (get_or leased i false) (earlier_of i x.part.todo from.event) from.event taken) from.ready;
  }

  pub asked_more : (rs : List (Speculation S)) (leased : List Bool) (i : ℕ) (found next : Option ℕ) (x : Speculation S) → i < length rs → x ≡ get_or rs i x → IsBehindFrom rs (i + 1) → is_behind x.part ≡ false → get_or leased i false ≡ false → (from : IsAskedFrom rs leased i found) → IsFound rs (earlier_of i x.part.todo from.event) next → IsAskedFrom rs leased (i + 1) next
  asked_more rs leased i found next x l is behind calm free from found_now = record {
    behind = behind;
    event = earlier_of i x.part.todo from.event;
    is = found_now;
    ready = ready_more rs leased i x from.event (earlier_of i x.part.todo from.event) l is (nearer_is x.part (get_or leased i false) i from.event calm free) from.ready;
  }

  pub asked_back : (rs : List (Speculation S)) (leased : List Bool) (r : ℕ) → Some r ≡ first_behind 0 (parts_of rs) → RollBack r ≡ asked_by (parts_of rs) leased
  asked_back rs leased r e = ap (λ b. asked_of b (least_ready 0 (parts_of rs) leased None)) e

  handle_of : (rs : List (Speculation S)) (o : Option (ℕ × Event)) (n : ℕ) → IsFound rs o (Some n) → Handle n ≡ asked_of None o
  handle_of rs None n w = absurd (cc)
  handle_of rs (Some f) n w = let e : n ≡ f.0 = (let h = w.0 in cc) in ap Handle e

  nothing_of : (rs : List (Speculation S)) (o : Option (ℕ × Event)) → IsFound rs o None → Nothing ≡ asked_of None o
  nothing_of rs None w = refl
  nothing_of rs (Some f) w = absurd (let h = w.0 in cc)

  asked_all : (rs : List (Speculation S)) (leased : List Bool) (i : ℕ) (o : Option (ℕ × Event)) → length rs ≤ i → None ≡ first_behind 0 (parts_of rs) → IsReadyFrom rs leased i o → asked_of None o ≡ asked_by (parts_of rs) leased
  asked_all rs leased i o l none ready = λ j. asked_of (none j) (ready_all rs leased i o l ready j)

  pub asked_handle : (rs : List (Speculation S)) (leased : List Bool) (i n : ℕ) → length rs ≤ i → None ≡ first_behind 0 (parts_of rs) → IsAskedFrom rs leased i (Some n) → Handle n ≡ asked_by (parts_of rs) leased
  asked_handle rs leased i n l none from = handle_of rs from.event n from.is ∙ asked_all rs leased i from.event l none from.ready

  pub asked_nothing : (rs : List (Speculation S)) (leased : List Bool) (i : ℕ) → length rs ≤ i → None ≡ first_behind 0 (parts_of rs) → IsAskedFrom rs leased i None → Nothing ≡ asked_by (parts_of rs) leased
  asked_nothing rs leased i l none from = nothing_of rs from.event from.is ∙ asked_all rs leased i from.event l none from.ready
