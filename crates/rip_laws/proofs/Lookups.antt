-- What is held at a network: in a table of which each route is changed, in one of which some are removed, and in one
-- where a route was put.
use Rattle.std.proofs.Common.{◌≡◌, ◌≢◌, ◌⊎◌, inl, inr, ℕ, Bool, true, false, not, List, [], ◌∷◌, Option, Some, None, refl, sym, ap, subst, ◌∙◌}
use Rattle.std.specs.Prelude.{option_map, Contains}
use Rattle.std.specs.List.{AllByRecursion}
use Rattle.std.specs.List.Sorted.{IsStrictlySortedBy}
use Rattle.std.specs.Map.{keys_of}
use Rattle.std.specs.BTreeMap.{is_at}
use Rattle.std.specs.declared.cmp.Ordering.{Ordering}
use Rattle.std.specs.declared.cmp.Ordering.TheVariants.{Less, Equal, Greater}
use Rattle.std.specs.Ordering.{nat_cmp, ordering_then, is_eq}
use Rattle.std.specs.Cmp.{IsTotalOrder, then_total, on_total}
use Rattle.std.proofs.lemmas.Bool.{cases_Bool}
use Rattle.std.proofs.lemmas.Cmp.{eq_by_cmp_equiv, nat_cmp_total}
use Rattle.std.proofs.lemmas.List.Elements.{All-contains_itself, All-weaker, recursion_from_All}
use Rattle.std.proofs.lemmas.Map.Entries.{lookup-filter-values, option_filter}
use Rattle.std.proofs.lemmas.Map.Keys.{IsDistinct-from_sorted}
use Rattle.std.proofs.lemmas.Map.Lookups.{exact_unsigned}
use Rattle.std.proofs.lemmas.Map.Made.{lookup-map_values}
use Rattle.std.proofs.lemmas.Map.Views.{lookup-from_Contains}
use Rattle.dn_net.specs.Networks.{Network, network_cmp}
use Rattle.rip_table.specs.declared.held.Held.{Held}
use Rattle.rip_table.specs.Held.{is_gone, settled}
use Rattle.rip_table.specs.Routes.{Routes, all_changed, any_changed, held_at, put}
use Rattle.rip_table.specs.Timers.{ticked, timed_out}
use Rattle.rip_laws.proofs.Choice.{or_false}

abbrev pub Rises : Routes → Type 0
Rises es = IsStrictlySortedBy network_cmp (keys_of es)

-- ---- the order tells all networks apart

then_equal : (x y : Ordering) → ordering_then x y ≡ Equal → (x ≡ Equal) × (y ≡ Equal)
then_equal Less y e = absurd cc
then_equal Equal y e = (refl, e)
then_equal Greater y e = absurd cc

is_eq-true : (o : Ordering) → is_eq o ≡ true → o ≡ Equal
is_eq-true Less e = absurd cc
is_eq-true Equal e = refl
is_eq-true Greater e = absurd cc

is_eq-false : (o : Ordering) → is_eq o ≡ false → o ≡ Equal → ⊥
is_eq-false Less f e = absurd cc
is_eq-false Equal f e = absurd cc
is_eq-false Greater f e = absurd cc

networks_total : IsTotalOrder network_cmp
networks_total = then_total (on_total (λ (n : Network). n.0) nat_cmp_total) (on_total (λ (n : Network). n.1) nat_cmp_total)

same_network : (m n : Network) → is_at (network_cmp m) n ≡ true → m ≡ n
same_network m n t =
    let both = then_equal (nat_cmp m.0 n.0) (nat_cmp m.1 n.1) (is_eq-true (network_cmp m n) t) in
    let address = exact_unsigned m.0 n.0 both.0 in
    let len = exact_unsigned m.1 n.1 both.1 in
    λ i. (address i, len i)

itself : (n : Network) → is_at (network_cmp n) n ≡ true
itself n = (eq_by_cmp_equiv networks_total).refl n

other_network : (m n : Network) → is_at (network_cmp m) n ≡ false → m ≢ n
other_network m n f e =
    let same : is_at (network_cmp m) n ≡ true = subst (λ (k : Network). is_at (network_cmp m) k ≡ true) e (itself m) in
    let both : true ≡ false = sym same ∙ f in
    absurd cc

pub same_or_other : (m n : Network) → (m ≡ n) ⊎ (m ≢ n)
same_or_other m n = elim (cases_Bool (is_at (network_cmp m) n)) [
  | inl t ↦ inl (same_network m n t)
  | inr f ↦ inr (other_network m n f)
]

-- ---- each entry is what is held at its network

pub entries_are_held : (es : Routes) → Rises es → AllByRecursion (λ e. held_at es e.0 ≡ Some e.1) es
entries_are_held es up =
    let there : (e : Network × Held) → Contains es e → held_at es e.0 ≡ Some e.1 =
    λ e among. lookup-from_Contains {eq = λ (m n : Network). is_at (network_cmp m) n} (eq_by_cmp_equiv networks_total) e.0 e.1 es (IsDistinct-from_sorted network_cmp (keys_of es) up) among in
    recursion_from_All (λ (e : Network × Held). held_at es e.0 ≡ Some e.1) es
    (All-weaker (Contains es) (λ (e : Network × Held). held_at es e.0 ≡ Some e.1) there es (All-contains_itself es))

-- ---- changes

pub changed_at : (change : Held → Held) (es : Routes) (n : Network) → held_at (all_changed change es) n ≡ option_map change (held_at es n)
changed_at change es n = lookup-map_values change (is_at (network_cmp n)) es

keys_changed : (change : Held → Held) (es : Routes) → keys_of (all_changed change es) ≡ keys_of es
keys_changed change [] = refl
keys_changed change (e ∷ es) = ap (λ (ks : List Network). e.0 ∷ ks) (keys_changed change es)

abbrev pub stays_at : ℕ → Held → Bool
stays_at now h = not (is_gone now h)

pub ticked_at : (now : ℕ) (es : Routes) (n : Network) → Rises es → held_at (ticked now es) n ≡ option_filter (stays_at now) (option_map (timed_out now) (held_at es n))
ticked_at now es n up =
    let timed = all_changed (timed_out now) es in
    let rises : Rises timed = subst (λ (ks : List Network). IsStrictlySortedBy network_cmp ks) (sym (keys_changed (timed_out now) es)) up in
    lookup-filter-values {eq = λ (m k : Network). is_at (network_cmp m) k} (eq_by_cmp_equiv networks_total) (stays_at now) n timed (IsDistinct-from_sorted network_cmp (keys_of timed) rises)
    ∙ ap (option_filter (stays_at now)) (changed_at (timed_out now) es n)

-- ---- a route that is put

-- what the law `a_change_is_at_one_network` says
pub record Puts : Type 0 where
  pub here : (routes : Routes) (n : Network) (h : Held) → held_at (put routes n (Some h)) n ≡ Some h
  pub elsewhere : (routes : Routes) (n other : Network) (route : Option Held) → n ≢ other → held_at (put routes n route) other ≡ held_at routes other

put_same : (c : Puts) (P : Option Held → Type 0) (es : Routes) (n : Network) (route : Option Held) → P (held_at es n) → P route → P (held_at (put es n route) n)
put_same c P es n None before now = before
put_same c P es n (Some h) before now = subst P (sym (c.here es n h)) now

pub put_keeps : (c : Puts) (P : Option Held → Type 0) (es : Routes) (k n : Network) (route : Option Held) → P (held_at es n) → (k ≡ n → P route) → P (held_at (put es k route) n)
put_keeps c P es k n route before now = elim (same_or_other k n) [
  | inl same ↦ subst (λ (m : Network). P (held_at (put es m route) n)) (sym same) (put_same c P es n route before (now same))
  | inr differ ↦ subst P (sym (c.elsewhere es k n route differ)) before
]

-- ---- marks

held_by : (b : Bool) (e : Network × Held) (es : Routes) (n : Network) (h : Held) → is_at (network_cmp n) e.0 ≡ b → e.1.changed ≡ false
    → (held_at es n ≡ Some h → h.changed ≡ false) → held_at (e ∷ es) n ≡ Some h → h.changed ≡ false
held_by true e es n h t here more found =
    let same : Some e.1 ≡ Some h = rw t at found in
    cc
held_by false e es n h t here more found = more (rw t at found)

pub unmarked_at : (es : Routes) (n : Network) (h : Held) → any_changed es ≡ false → held_at es n ≡ Some h → h.changed ≡ false
unmarked_at [] n h none found = absurd cc
unmarked_at (e ∷ es) n h none found =
    let parts = or_false e.1.changed (any_changed es) none in
    held_by (is_at (network_cmp n) e.0) e es n h refl parts.0 (unmarked_at es n h parts.1) found

pub none_marked : (es : Routes) → any_changed es ≡ false → AllByRecursion (λ e. e.1.changed ≡ false) es
none_marked [] none = tt
none_marked (e ∷ es) none =
    let parts = or_false e.1.changed (any_changed es) none in
    (parts.0, none_marked es parts.1)

pub settled_is : (h : Held) → h.changed ≡ false → settled h ≡ h
settled_is h unmarked =
    let mark : false ≡ h.changed = sym unmarked in
    λ i. record h { changed = mark i }
