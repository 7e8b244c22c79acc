-- Routers by number and by name.
use Rattle.std.proofs.Common.{◌≡◌, ◌≢◌, ℕ, ◌<◌, suc, zero, Bool, true, false, not, nat_eq, nat_lt, List, [], ◌∷◌, length, map, get_or, set, Some, None, refl, sym, ap, subst, ◌∙◌, arith, rules, tests}
use Rattle.std.specs.Prelude.{slice_get, position}
use Rattle.std.specs.List.{list_any, prefix_len, position_or_len}
use Rattle.std.specs.Cmp.Lexicographic.{pointwise, bytes_decides}
use Rattle.std.proofs.lemmas.List.Quantifiers.{position-Some}
use Rattle.dn_model.specs.declared.router.RouterDef.{RouterDef}
use Rattle.dn_model.specs.declared.router.Kind.TheVariants as kind
use Rattle.dn_model.specs.declared.router.Prefix.{Prefix}
use Rattle.dn_model.specs.Routers.{number_of, name_at}
use Rattle.dn_case.specs.Standings.{and_prefix, with_prefix}

pub with_prefix_is : (rs : List RouterDef) (i : ℕ) (p : Prefix) (r : RouterDef) → i < length rs → r ≡ get_or rs i r → set rs i (and_prefix r p) ≡ with_prefix rs i p
unfolding with_prefix
with_prefix_is [] i p r within is = absurd (omega arith)
with_prefix_is (s ∷ rs) zero p r within is = ap (λ (t : RouterDef). and_prefix t p ∷ rs) is
with_prefix_is (s ∷ rs) (suc i) p r within is = ap (λ (l : List RouterDef). s ∷ l) (with_prefix_is rs i p r (omega arith) is)

-- a router with other prefixes has its name
pub names_kept : (rs : List RouterDef) (i : ℕ) (r : RouterDef) (ps : List Prefix) → i < length rs → r ≡ get_or rs i r → map (λ t. t.name) (set rs i (record { name = r.name; kind = r.kind; prefixes = ps })) ≡ map (λ t. t.name) rs
names_kept [] i r ps within is = absurd (omega arith)
names_kept (s ∷ rs) zero r ps within is = ap (λ (t : RouterDef). t.name ∷ map (λ t. t.name) rs) is
names_kept (s ∷ rs) (suc i) r ps within is = ap (λ (l : List (List ℕ)). s.name ∷ l) (names_kept rs i r ps (omega arith) is)

-- ---- places in a list and in what it is mapped to

prefix_of_map : {X Y : Type 0} (p : Y → Bool) (f : X → Y) (xs : List X) → prefix_len p (map f xs) ≡ prefix_len (λ x. p (f x)) xs
prefix_of_map p f [] = refl
prefix_of_map p f (x ∷ xs) = rw (prefix_of_map p f xs) refl

length_of_map : {X Y : Type 0} (f : X → Y) (xs : List X) → length (map f xs) ≡ length xs
length_of_map f [] = refl
length_of_map f (x ∷ xs) = ap suc (length_of_map f xs)

pub position_of_map : {X Y : Type 0} (p : Y → Bool) (f : X → Y) (xs : List X) → position p (map f xs) ≡ position (λ x. p (f x)) xs
position_of_map p f xs = rw (prefix_of_map (λ y. not (p y)) f xs, length_of_map f xs) refl

within : {X : Type 0} (p : X → Bool) (xs : List X) → list_any p xs ≡ true → position_or_len p xs < length xs
within p [] any = absurd cc
within p (x ∷ xs) any =
    elim (p x) as (λ b. p x ≡ b → position_or_len p (x ∷ xs) < length (x ∷ xs)) [
      | true ↦ λ yes. rw yes (omega arith)
      | false ↦ λ no. (let rest = within p xs (rw no at any) in rw no (omega (arith, rest)))
    ] refl

pub nowhere : {X : Type 0} (p : X → Bool) (xs : List X) → position p xs ≡ None → list_any p xs ≡ false
nowhere p xs none =
    elim (list_any p xs) as (λ b. list_any p xs ≡ b → b ≡ false) [
      | true ↦ λ any. (
          let lt : nat_lt (position_or_len p xs) (length xs) ≡ true = (let w = within p xs any in search (rules, tests)) in
          absurd (let none' = rw lt at none in cc))
      | false ↦ λ _. refl
    ] refl

-- ---- the router of a name

abbrev pub nobody : RouterDef
nobody = record { name = []; kind = kind.Flood; prefixes = [] }

get_is : (rs : List RouterDef) (i : ℕ) → i < length rs → slice_get rs i ≡ Some (get_or rs i nobody)
get_is [] i within = absurd (omega arith)
get_is (r ∷ rs) zero within = refl
get_is (r ∷ rs) (suc i) within = get_is rs i (omega arith)

pub name_of_number : (rs : List RouterDef) (i : ℕ) → i < length rs → name_at rs i ≡ (get_or rs i nobody).name
name_of_number rs i within = rw (get_is rs i within) refl

pub record IsNumbered (rs : List RouterDef) (name : List ℕ) (i : ℕ) : Type 0 where
  pub inside : i < length rs
  pub found : slice_get rs i ≡ Some (get_or rs i nobody)
  pub named : name ≡ name_at rs i

pub numbered : (rs : List RouterDef) (name : List ℕ) (i : ℕ) → number_of rs name ≡ Some i → IsNumbered rs name i
unfolding number_of
numbered rs name i is =
    let k = position-Some (λ r. pointwise nat_eq name r.name) rs i nobody is in
    let same : name ≡ (get_or rs i nobody).name = (bytes_decides name (get_or rs i nobody).name).0 k.1 in
    record { inside = k.0; found = get_is rs i k.0; named = same ∙ sym (name_of_number rs i k.0) }

own : (text : List ℕ) → pointwise nat_eq text text ≡ true
own text = (bytes_decides text text).1 refl

-- names that differ have numbers that differ
pub differ : (rs : List RouterDef) (a b : List ℕ) (i j : ℕ) → number_of rs a ≡ Some i → number_of rs b ≡ Some j → pointwise nat_eq a b ≡ false → i ≢ j
differ rs a b i j p q apart same =
    let m = numbered rs a i p in
    let n = numbered rs b j q in
    let equal : a ≡ b = m.named ∙ ap (λ (k : ℕ). name_at rs k) same ∙ sym n.named in
    let yes : pointwise nat_eq a b ≡ true = subst (λ (x : List ℕ). pointwise nat_eq a x ≡ true) equal (own a) in
    cc
