-- One port more of a mask.
use Rattle.std.proofs.Common.{◌≡◌, ℕ, zero, suc, ◌+◌, List, [], ◌∷◌, ◌++◌, ap, ◌∙◌, append-nil, arith}
use Rattle.std.specs.List.{flat_map, range_with_len}
use Rattle.std.proofs.lemmas.Grind.{flat_map-append}
use Rattle.ospf_guest.specs.Show.{port_text}

range_more : (a n j : ℕ) → a + n ≡ j → range_with_len a (suc n) ≡ range_with_len a n ++ j ∷ []
range_more a zero j e =
    let here : a ≡ j = omega arith in
    ap (λ (k : ℕ). k ∷ []) here
range_more a (suc n) j e = ap (λ (ks : List ℕ). a ∷ ks) (range_more (a + 1) n j (omega arith))

pub texts_more : (mask n : ℕ) → flat_map (port_text mask) (range_with_len 0 (n + 1)) ≡ flat_map (port_text mask) (range_with_len 0 n) ++ port_text mask n
texts_more mask n =
    let f = port_text mask in
    let one : n + 1 ≡ suc n = omega arith in
    ap (λ (k : ℕ). flat_map f (range_with_len 0 k)) one
    ∙ ap (flat_map f) (range_more 0 n n (omega arith))
    ∙ flat_map-append f (range_with_len 0 n) (n ∷ [])
    ∙ ap (λ (xs : List ℕ). flat_map f (range_with_len 0 n) ++ xs) (append-nil (f n))
