-- A fold over the numbers from 0 on: one number more is one step more.
use Rattle.std.proofs.Common.{◌≡◌, ℕ, zero, suc, ◌+◌, ap, ◌∙◌, arith}
use Rattle.std.specs.Prelude.{fold}
use Rattle.std.specs.List.{range_with_len}

pub fold_from : {X : Type 0} (f : X → ℕ → X) (a : X) (s n j : ℕ) → s + n ≡ j → fold f a (range_with_len s (suc n)) ≡ f (fold f a (range_with_len s n)) j
fold_from f a s zero j e =
    let here : s ≡ j = omega arith in
    ap (f a) here
fold_from f a s (suc n) j e = fold_from f (f a s) (s + 1) n j (omega arith)

pub fold_range_more : {X : Type 0} (f : X → ℕ → X) (a : X) (n : ℕ) → fold f a (range_with_len 0 (n + 1)) ≡ f (fold f a (range_with_len 0 n)) n
fold_range_more f a n =
    let one : n + 1 ≡ suc n = omega arith in
    ap (λ (k : ℕ). fold f a (range_with_len 0 k)) one ∙ fold_from f a 0 n n (omega arith)
