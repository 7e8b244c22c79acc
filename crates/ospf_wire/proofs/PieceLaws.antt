-- Pieces of one length: read one after the other as a loop does, and the law of reading them.
use Rattle.std.proofs.Common.{◌≡◌, ℕ, zero, suc, ◌+◌, ◌-◌, ◌*◌, ◌/◌, ◌%◌, ◌<◌, ◌==◌, List, [], ◌∷◌, ◌++◌, length, drop, Some, refl, sym, ap, subst, ◌∙◌, append_assoc, arith}
use Rattle.std.proofs.Math.Nat.{div-add-mod', mul-mod_right, mul-div_cancel_left}
use Rattle.std.proofs.lemmas.List.{drop-drop, length-drop, nil_from_length}
use Rattle.std.proofs.lemmas.Option.{cond_some}
use Rattle.std.proofs.lemmas.Bool.{eqb-true, eq-eqb}
use Rattle.ospf_wire.specs.Pieces.{ArePieces}
use Rattle.ospf_wire.specs.Reading.{pieces, all_pieces}

-- one more piece is read
pub pieces_more : {X : Type 0} (n : ℕ) (item : List ℕ → X) (count i : ℕ) (bytes : List ℕ) (front total : List X) → i < count
    → front ++ pieces n item (count - i) (drop (n * i) bytes) ≡ total
    → (front ++ item (drop (n * i) bytes) ∷ []) ++ pieces n item (count - (i + 1)) (drop (n * (i + 1)) bytes) ≡ total
pieces_more {X} n item count i bytes front total lt so_far =
    let k : count - i ≡ suc (count - (i + 1)) = omega arith in
    let place : n * i + n ≡ n * (i + 1) = omega arith in
    let moved : drop n (drop (n * i) bytes) ≡ drop (n * (i + 1)) bytes = drop-drop n (n * i) bytes ∙ ap (λ (m : ℕ). drop m bytes) place in
    let opened : front ++ item (drop (n * i) bytes) ∷ pieces n item (count - (i + 1)) (drop n (drop (n * i) bytes)) ≡ total = rw k at so_far in
    append_assoc front (item (drop (n * i) bytes) ∷ []) (pieces n item (count - (i + 1)) (drop (n * (i + 1)) bytes))
    ∙ ap (λ (rest : List ℕ). front ++ item (drop (n * i) bytes) ∷ pieces n item (count - (i + 1)) rest) (sym moved) ∙ opened

-- so many bytes are so many pieces
pieces_are : {X : Type 0} (n : ℕ) (item : List ℕ → X) (count : ℕ) (bytes : List ℕ) → length bytes ≡ n * count → ArePieces n item bytes (pieces n item count bytes)
pieces_are n item zero bytes len = nil_from_length bytes (omega arith)
pieces_are n item (suc count) bytes len =
    (omega arith, refl, pieces_are n item count (drop n bytes) (omega (arith, length-drop n bytes)))

-- bytes that are pieces are as many as these, and are read as these
pub pieces_again : {X : Type 0} (n : ℕ) (item : List ℕ → X) (xs : List X) (bytes : List ℕ) → ArePieces n item bytes xs → (length bytes ≡ n * length xs) × (pieces n item (length xs) bytes ≡ xs)
pieces_again n item [] bytes are = (omega (arith, ap length are), refl)
pieces_again {X} n item (x ∷ xs) bytes are =
    let rest = pieces_again n item xs (drop n bytes) are.2 in
    let front : item bytes ∷ pieces n item (length xs) (drop n bytes) ≡ x ∷ pieces n item (length xs) (drop n bytes) = ap (λ (y : X). y ∷ pieces n item (length xs) (drop n bytes)) (sym are.1) in
    (omega (arith, rest.0, are.0, length-drop n bytes), front ∙ ap (λ (ys : List X). x ∷ ys) rest.1)

-- what is read are the pieces
pub all_take : {X : Type 0} (n : ℕ) (item : List ℕ → X) (bytes : List ℕ) (xs : List X) → 0 < n → all_pieces n item bytes ≡ Some xs → ArePieces n item bytes xs
unfolding all_pieces
all_take {X} n item bytes xs positive e =
    let c = cond_some (length bytes % n == 0) (pieces n item (length bytes / n) bytes) xs e in
    let whole : length bytes ≡ n * (length bytes / n) = omega (arith, div-add-mod' (length bytes) n, eqb-true (length bytes % n) 0 c.0) in
    subst (λ (ys : List X). ArePieces n item bytes ys) c.1 (pieces_are n item (length bytes / n) bytes whole)

-- the pieces are read
pub all_again : {X : Type 0} (n : ℕ) (item : List ℕ → X) (bytes : List ℕ) (xs : List X) → 0 < n → ArePieces n item bytes xs → all_pieces n item bytes ≡ Some xs
unfolding all_pieces
all_again n item bytes xs positive are =
    let again = pieces_again n item xs bytes are in
    let rest : length bytes % n ≡ 0 = ap (λ (m : ℕ). m % n) again.0 ∙ mul-mod_right n (length xs) in
    let count : length bytes / n ≡ length xs = ap (λ (m : ℕ). m / n) again.0 ∙ mul-div_cancel_left (length xs) positive in
    rw (eq-eqb (length bytes % n) 0 rest, count, again.1) refl
