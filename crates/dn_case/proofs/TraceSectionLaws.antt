-- The lines up to the one that closes a section, one after the other.
use Rattle.std.proofs.Common.{◌≡◌, ℕ, ◌+◌, suc, true, false, List, [], ◌∷◌, length, take, ap, ◌∙◌, arith}
use Rattle.std.specs.List.{concat, position_or_len}
use Rattle.std.proofs.lemmas.List.{length-append}
use Rattle.dn_case.specs.TraceSections.{closes, up_to_close}

abbrev pub close_len : List (List ℕ) → ℕ
close_len ls = length (concat (up_to_close ls))

pub close_here : (l : List ℕ) (ls : List (List ℕ)) → closes l ≡ true → close_len (l ∷ ls) ≡ length l
close_here l ls is = rw is (length-append l [] ∙ omega arith)

next_len : (n : ℕ) (l : List ℕ) (ls : List (List ℕ)) → length (concat (take (1 + n + 1) (l ∷ ls))) ≡ length l + length (concat (take (n + 1) ls))
next_len n l ls =
    let e : 1 + n + 1 ≡ suc (n + 1) = omega arith in
    ap (λ (k : ℕ). length (concat (take k (l ∷ ls)))) e ∙ length-append l (concat (take (n + 1) ls))

pub close_later : (l : List ℕ) (ls : List (List ℕ)) → closes l ≡ false → close_len (l ∷ ls) ≡ length l + close_len ls
close_later l ls is = rw is (next_len (position_or_len closes ls) l ls)
