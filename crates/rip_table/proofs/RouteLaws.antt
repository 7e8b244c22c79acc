-- What is held at each network after a route was put, and how many routes there are.
use Rattle.std.proofs.Common.{◌≡◌, ◌≢◌, ℕ, Bool, true, false, cond, [], ◌∷◌, Option, Some, None, refl, sym, ap, subst, ◌∙◌}
use Rattle.std.specs.Prelude.{IfSome}
use Rattle.std.specs.Map.{keys_of, set_value}
use Rattle.std.specs.BTreeMap.{insert_entry, is_at}
use Rattle.std.specs.List.Sorted.{IsStrictlySortedBy}
use Rattle.std.specs.declared.cmp.Ordering.{Ordering}
use Rattle.std.specs.declared.cmp.Ordering.TheVariants.{Less, Equal, Greater}
use Rattle.std.specs.Ordering.{nat_cmp, ordering_then, match_ordering, is_eq}
use Rattle.std.proofs.lemmas.Option.{none-some}
use Rattle.std.proofs.lemmas.Map.Lookups.{exact_unsigned}
use Rattle.std.proofs.lemmas.Map.Keys.{sorted_tail}
use Rattle.std.proofs.lemmas.Map.{lookup-none}
use Rattle.std.proofs.lemmas.Map.Entries.{none_below_head}
use Rattle.std.specs.Cmp.{IsTotalOrder, then_total, on_total, tied_itself}
use Rattle.std.proofs.lemmas.Cmp.{nat_cmp_total}
use Rattle.rip_table.specs.declared.held.Held.{Held}
use Rattle.dn_net.specs.Networks.{Network, network_cmp}
use Rattle.rip_table.specs.Routes.{Routes, held_at, is_full, put}
use Rattle.rip_table.specs.Response.{existing_after, route_after}

-- ---- the order tells all networks apart

then_equal : (x y : Ordering) → ordering_then x y ≡ Equal → (x ≡ Equal) × (y ≡ Equal)
then_equal Less y e = absurd cc
then_equal Equal y e = (refl, e)
then_equal Greater y e = absurd cc

pub exact_networks : (m n : Network) → network_cmp m n ≡ Equal → m ≡ n
exact_networks m n e =
    let both = then_equal (nat_cmp m.0 n.0) (nat_cmp m.1 n.1) e in
    let address = exact_unsigned m.0 n.0 both.0 in
    let len = exact_unsigned m.1 n.1 both.1 in
    λ i. (address i, len i)

pub networks_total : IsTotalOrder network_cmp
networks_total = then_total (on_total (λ (n : Network). n.0) nat_cmp_total) (on_total (λ (n : Network). n.1) nat_cmp_total)

itself : (n : Network) → network_cmp n n ≡ Equal
itself n = tied_itself networks_total n

is_eq-true : (o : Ordering) → is_eq o ≡ true → o ≡ Equal
is_eq-true Less e = absurd cc
is_eq-true Equal e = refl
is_eq-true Greater e = absurd cc

-- ---- a look-up after a route was put

-- at its own network
here_by : (o : Ordering) (n : Network) (h : Held) (e : Network × Held) (es : Routes) → network_cmp n e.0 ≡ o → held_at (insert_entry network_cmp es n h) n ≡ Some h
    → held_at (match_ordering o ((n, h) ∷ e ∷ es) ((e.0, h) ∷ es) (e ∷ insert_entry network_cmp es n h)) n ≡ Some h
here_by Less n h e es t more = rw (itself n) refl
here_by Equal n h e es t more = rw t refl
here_by Greater n h e es t more = rw t more

pub held_here : (n : Network) (h : Held) (es : Routes) → held_at (insert_entry network_cmp es n h) n ≡ Some h
held_here n h [] = rw (itself n) refl
held_here n h (e ∷ es) = here_by (network_cmp n e.0) n h e es refl (held_here n h es)

-- at another network
apart_by : (o : Ordering) (m n : Network) → n ≢ m → network_cmp m n ≡ o → is_eq o ≡ false
apart_by Less m n differ t = refl
apart_by Equal m n differ t = absurd (differ (sym (exact_networks m n t)))
apart_by Greater m n differ t = refl

apart : (m n : Network) → n ≢ m → is_at (network_cmp m) n ≡ false
apart m n differ = apart_by (network_cmp m n) m n differ refl

elsewhere_by : (o : Ordering) (n m : Network) (h : Held) (e : Network × Held) (es : Routes) → network_cmp n e.0 ≡ o → n ≢ m
    → held_at (insert_entry network_cmp es n h) m ≡ held_at es m
    → held_at (match_ordering o ((n, h) ∷ e ∷ es) ((e.0, h) ∷ es) (e ∷ insert_entry network_cmp es n h)) m ≡ held_at (e ∷ es) m
elsewhere_by Less n m h e es t differ more = rw (apart m n differ) refl
elsewhere_by Equal n m h e es t differ more =
    let other : is_at (network_cmp m) e.0 ≡ false = ap (is_at (network_cmp m)) (sym (exact_networks n e.0 t)) ∙ apart m n differ in
    rw other refl
elsewhere_by Greater n m h e es t differ more = ap (cond (is_at (network_cmp m) e.0) (Some e.1)) more

held_elsewhere : (n m : Network) (h : Held) (es : Routes) → n ≢ m → held_at (insert_entry network_cmp es n h) m ≡ held_at es m
held_elsewhere n m h [] differ = rw (apart m n differ) refl
held_elsewhere n m h (e ∷ es) differ = elsewhere_by (network_cmp n e.0) n m h e es refl differ (held_elsewhere n m h es differ)

pub put_elsewhere : (routes : Routes) (n other : Network) (route : Option Held) → n ≢ other → held_at (put routes n route) other ≡ held_at routes other
put_elsewhere routes n other None differ = refl
put_elsewhere routes n other (Some h) differ = held_elsewhere n other h routes differ

-- ---- a route that is written through a look-up is put

written_by : (o : Ordering) (n : Network) (h v : Held) (e : Network × Held) (es : Routes) → network_cmp n e.0 ≡ o
    → IsStrictlySortedBy network_cmp (keys_of (e ∷ es)) → held_at (e ∷ es) n ≡ Some v
    → (held_at es n ≡ Some v → set_value (is_at (network_cmp n)) es h ≡ insert_entry network_cmp es n h)
    → set_value (is_at (network_cmp n)) (e ∷ es) h ≡ match_ordering o ((n, h) ∷ e ∷ es) ((e.0, h) ∷ es) (e ∷ insert_entry network_cmp es n h)
written_by Less n h v e es t sorted found more =
    let none : held_at (e ∷ es) n ≡ None = lookup-none (is_at (network_cmp n)) (e ∷ es) (none_below_head networks_total n e es sorted t) in
    absurd (none-some v (sym none ∙ found))
written_by Equal n h v e es t sorted found more = rw t refl
written_by Greater n h v e es t sorted found more =
    let there : held_at es n ≡ Some v = rw t at found in
    rw t (ap (λ (rest : Routes). e ∷ rest) (more there))

pub written : (n : Network) (h v : Held) (es : Routes) → IsStrictlySortedBy network_cmp (keys_of es) → held_at es n ≡ Some v
    → set_value (is_at (network_cmp n)) es h ≡ insert_entry network_cmp es n h
written n h v [] sorted found = absurd (none-some v found)
written n h v (e ∷ es) sorted found =
    written_by (network_cmp n e.0) n h v e es refl sorted found (written n h v es (sorted_tail network_cmp e.0 (keys_of es) sorted))

-- ---- an entry of a response

pub kept_none : (full : Bool) (port tag m now : ℕ) (held : Option Held) → route_after full port tag m now held ≡ None → held ≡ None
kept_none full port tag m now None e = refl
kept_none full port tag m now (Some h) e = absurd (none-some (existing_after port tag m now h) (sym e))

pub put_here : (routes : Routes) (n : Network) (route : Option Held) → (route ≡ None → held_at routes n ≡ None) → held_at (put routes n route) n ≡ route
put_here routes n None none = none refl
put_here routes n (Some h) none = held_here n h routes

-- the route to the entry's network is the one of the rule
pub heard_route : (port tag m now : ℕ) (before old new : Routes) (o : Option Network) (n : Network) → o ≡ Some n → before ≡ old
    → new ≡ put before n (route_after (is_full before) port tag m now (held_at before n))
    → IfSome o (λ k. held_at new k ≡ route_after (is_full old) port tag m now (held_at old k))
heard_route port tag m now before old new o n told same heard =
    let after : new ≡ put old n (route_after (is_full old) port tag m now (held_at old n)) = rw same at heard in
    let here : held_at new n ≡ route_after (is_full old) port tag m now (held_at old n) = ap (λ (routes : Routes). held_at routes n) after ∙ put_here old n _ (kept_none (is_full old) port tag m now (held_at old n)) in
    subst (λ (x : Option Network). IfSome x (λ k. held_at new k ≡ route_after (is_full old) port tag m now (held_at old k))) (sym told) here

-- and the other routes are as before
pub heard_others : (port tag m now : ℕ) (before old new : Routes) (o : Option Network) (n : Network) → o ≡ Some n → before ≡ old
    → new ≡ put before n (route_after (is_full before) port tag m now (held_at before n))
    → (k : Network) → o ≢ Some k → held_at new k ≡ held_at old k
heard_others port tag m now before old new o n told same heard k differ =
    let after : new ≡ put old n (route_after (is_full old) port tag m now (held_at old n)) = rw same at heard in
    ap (λ (routes : Routes). held_at routes k) after ∙ put_elsewhere old n k _ (λ e. differ (told ∙ ap (λ (x : Network). Some x) e))
