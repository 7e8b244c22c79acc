-- The front of a list, as many as a limit, and what comes behind it.
use Rattle.std.proofs.Common.{◌≡◌, ℕ, zero, suc, ◌+◌, true, ◌||◌, List, [], ◌∷◌, ◌++◌, length, take, refl, sym, ap, ◌∙◌, arith, length-append}
use Rattle.std.specs.Prelude.{nat_lt}
use Rattle.std.proofs.lemmas.Bool.{ltb-true, ltb-false, lt-ltb}
use Rattle.std.proofs.lemmas.List.{take_all}
use Rattle.dn_lists.proofs.Lists.{by_test}

-- cutting before and after more comes is cutting after
pub take_front_more : {X : Type 0} (n : ℕ) (xs ys : List X) → take n (take n xs ++ ys) ≡ take n (xs ++ ys)
take_front_more zero xs ys = refl
take_front_more (suc n) [] ys = refl
take_front_more (suc n) (x ∷ xs) ys = ap (λ l. x ∷ l) (take_front_more n xs ys)

-- whether there are more than n
pub is_long_more : {X : Type 0} (n : ℕ) (xs ys : List X) → (nat_lt n (length xs) || nat_lt n (length (take n xs) + length ys)) ≡ nat_lt n (length (xs ++ ys))
is_long_more n xs ys =
    let sum = length-append xs ys in
    by_test (nat_lt n (length xs))
    (λ h.
    let more = ltb-true n (length xs) h in
    let long : nat_lt n (length (xs ++ ys)) ≡ true = lt-ltb n (length (xs ++ ys)) (omega (arith, more, sum)) in
    ap (λ b. b || nat_lt n (length (take n xs) + length ys)) h ∙ sym long)
    (λ h.
    let few = ltb-false n (length xs) h in
    let short : length (take n xs) ≡ length xs = ap length (take_all n xs few) in
    ap (λ b. b || nat_lt n (length (take n xs) + length ys)) h ∙ ap (nat_lt n) (ap (λ m. m + length ys) short ∙ sym sum))
