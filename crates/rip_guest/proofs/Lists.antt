-- What holds of each element of a list that is made from others.
use Rattle.std.proofs.Common.{ℕ, zero, suc, ◌+◌, ◌≤◌, ◌<◌, Bool, true, false, cond, List, [], ◌∷◌, ◌++◌, map, filter, arith}
use Rattle.std.specs.List.{AllByRecursion, flat_map, range_with_len}

pub each_append : {A : Type 0} (P : A → Type 0) (xs ys : List A) → AllByRecursion P xs → AllByRecursion P ys → AllByRecursion P (xs ++ ys)
each_append P [] ys all more = more
each_append P (x ∷ xs) ys all more = (all.0, each_append P xs ys all.1 more)

pub each_map : {A B : Type 0} (P : A → Type 0) (Q : B → Type 0) (f : A → B) → ((x : A) → P x → Q (f x)) → (xs : List A) → AllByRecursion P xs → AllByRecursion Q (map f xs)
each_map P Q f keeps [] all = tt
each_map P Q f keeps (x ∷ xs) all = (keeps x all.0, each_map P Q f keeps xs all.1)

pub each_flat_map : {A B : Type 0} (P : A → Type 0) (Q : B → Type 0) (f : A → List B) → ((x : A) → P x → AllByRecursion Q (f x)) → (xs : List A) → AllByRecursion P xs → AllByRecursion Q (flat_map f xs)
each_flat_map P Q f keeps [] all = tt
each_flat_map P Q f keeps (x ∷ xs) all = each_append Q (f x) (flat_map f xs) (keeps x all.0) (each_flat_map P Q f keeps xs all.1)

chosen : {A : Type 0} (P : A → Type 0) (b : Bool) (x : A) (xs : List A) → P x → AllByRecursion P xs → AllByRecursion P (cond b (x ∷ xs) xs)
chosen P true x xs here all = (here, all)
chosen P false x xs here all = all

pub each_filter : {A : Type 0} (P : A → Type 0) (test : A → Bool) (xs : List A) → AllByRecursion P xs → AllByRecursion P (filter test xs)
each_filter P test [] all = tt
each_filter P test (x ∷ xs) all = chosen P (test x) x (filter test xs) all.0 (each_filter P test xs all.1)

-- the numbers of a range are below its end
pub each_below : (from many most : ℕ) → from + many ≤ most → AllByRecursion (λ k. k < most) (range_with_len from many)
each_below from zero most le = tt
each_below from (suc many) most le = (omega arith, each_below (from + 1) many most (omega arith))
