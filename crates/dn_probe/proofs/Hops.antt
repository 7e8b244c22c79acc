-- A packet, hop by hop.
use Rattle.std.proofs.Common.{◌≡◌, ◌<◌, ◌≤◌, ◌+◌, ◌-◌, ℕ, zero, suc, Bool, true, false, ◌||◌, eqb, List, Option, Some, None, refl, sym, ap, ◌∙◌, subst, arith}
use Rattle.std.specs.List.{list_any, range_with_len}
use Rattle.std.specs.Option.{option_and_then}
use Rattle.dn_probe.specs.Stations.{Standing}
use Rattle.dn_probe.specs.Loop.{is_at, hop, after_hops, comes_back}

-- it is back at one of the places from the first one on, of so many
unfoldable pub is_back : List Standing → List ℕ → ℕ → ℕ → ℕ → Bool
is_back ss prefix router first count = list_any (λ n. is_at router (after_hops ss prefix router n)) (range_with_len first count)

pub begins : (ss : List Standing) (prefix : List ℕ) (router : ℕ) → after_hops ss prefix router 0 ≡ Some router
unfolding after_hops
begins ss prefix router = refl

pub whole : (ss : List Standing) (prefix : List ℕ) (router : ℕ) → comes_back ss prefix router ≡ is_back ss prefix router 1 64
unfolding comes_back is_back
whole ss prefix router = refl

plus_one : (n : ℕ) → suc n ≡ n + 1
plus_one n = omega arith

-- the next place
pub further : (ss : List Standing) (prefix : List ℕ) (router at n : ℕ) → after_hops ss prefix router n ≡ Some at → after_hops ss prefix router (n + 1) ≡ hop ss prefix at
unfolding after_hops
further ss prefix router at n is =
    subst (λ (m : ℕ). after_hops ss prefix router m ≡ hop ss prefix at) (plus_one n) (ap (λ (o : Option ℕ). option_and_then (hop ss prefix) o) is)

ended : (ss : List Standing) (prefix : List ℕ) (router n : ℕ) → after_hops ss prefix router n ≡ None → after_hops ss prefix router (n + 1) ≡ None
unfolding after_hops
ended ss prefix router n is =
    subst (λ (m : ℕ). after_hops ss prefix router m ≡ None) (plus_one n) (ap (λ (o : Option ℕ). option_and_then (hop ss prefix) o) is)

nowhere : (ss : List Standing) (prefix : List ℕ) (router first count : ℕ) → after_hops ss prefix router first ≡ None → is_back ss prefix router first count ≡ false
unfolding is_back
nowhere ss prefix router first zero is = refl
nowhere ss prefix router first (suc count) is =
    ap (λ (o : Option ℕ). is_at router o || is_back ss prefix router (first + 1) count) is ∙ nowhere ss prefix router (first + 1) count (ended ss prefix router first is)

-- at the first place, or at a later one
cut : (ss : List Standing) (prefix : List ℕ) (router first count left : ℕ) → count ≡ suc left → is_back ss prefix router first count ≡ is_at router (after_hops ss prefix router first) || is_back ss prefix router (first + 1) left
unfolding is_back
cut ss prefix router first count left is = ap (λ (c : ℕ). list_any (λ n. is_at router (after_hops ss prefix router n)) (range_with_len first c)) is

nothing_left : (ss : List Standing) (prefix : List ℕ) (router first count : ℕ) → count ≡ 0 → is_back ss prefix router first count ≡ false
unfolding is_back
nothing_left ss prefix router first count none = ap (λ (c : ℕ). list_any (λ n. is_at router (after_hops ss prefix router n)) (range_with_len first c)) none

pub not_back : (ss : List Standing) (prefix : List ℕ) (router n : ℕ) → 64 ≤ n → is_back ss prefix router (n + 1) (64 - n) ≡ false
not_back ss prefix router n all = nothing_left ss prefix router (n + 1) (64 - n) (omega arith)

pub never_back : (ss : List Standing) (prefix : List ℕ) (router at n : ℕ) → after_hops ss prefix router n ≡ Some at → None ≡ hop ss prefix at → is_back ss prefix router (n + 1) (64 - n) ≡ false
never_back ss prefix router at n is none = nowhere ss prefix router (n + 1) (64 - n) (further ss prefix router at n is ∙ sym none)

-- the next place is this one
next_at : (ss : List Standing) (prefix : List ℕ) (router at n next : ℕ) → n < 64 → after_hops ss prefix router n ≡ Some at → Some next ≡ hop ss prefix at
    → is_back ss prefix router (n + 1) (64 - n) ≡ eqb next router || is_back ss prefix router (n + 1 + 1) (64 - (n + 1))
next_at ss prefix router at n next more is hops =
    cut ss prefix router (n + 1) (64 - n) (64 - (n + 1)) (omega arith)
    ∙ ap (λ (o : Option ℕ). is_at router o || is_back ss prefix router (n + 1 + 1) (64 - (n + 1))) (further ss prefix router at n is ∙ sym hops)

pub back_now : (ss : List Standing) (prefix : List ℕ) (router at n next : ℕ) → n < 64 → after_hops ss prefix router n ≡ Some at → Some next ≡ hop ss prefix at → eqb next router ≡ true
    → is_back ss prefix router (n + 1) (64 - n) ≡ true
back_now ss prefix router at n next more is hops same =
    next_at ss prefix router at n next more is hops ∙ ap (λ (b : Bool). b || is_back ss prefix router (n + 1 + 1) (64 - (n + 1))) same

pub one_further : (ss : List Standing) (prefix : List ℕ) (router at n next : ℕ) → n < 64 → after_hops ss prefix router n ≡ Some at → Some next ≡ hop ss prefix at → eqb next router ≡ false
    → is_back ss prefix router (n + 1) (64 - n) ≡ is_back ss prefix router (n + 1 + 1) (64 - (n + 1))
one_further ss prefix router at n next more is hops other =
    next_at ss prefix router at n next more is hops ∙ ap (λ (b : Bool). b || is_back ss prefix router (n + 1 + 1) (64 - (n + 1))) other
