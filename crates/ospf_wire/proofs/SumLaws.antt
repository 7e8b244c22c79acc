-- The words of bytes, one after the other.
use Rattle.std.proofs.Common.{◌≡◌, ℕ, zero, suc, ◌+◌, ◌*◌, ◌≤◌, List, [], ◌∷◌, ◌++◌, length, drop, take, get_or, refl, sym, ap, ◌∙◌, arith}
use Rattle.std.specs.Prelude.{sum}
use Rattle.std.proofs.Math.Seq.{take-add}
use Rattle.std.proofs.Common.{inl, inr}
use Rattle.std.proofs.lemmas.Bool.{cases_lt}
use Rattle.std.proofs.lemmas.List.{drop_all, length-take, length-drop, append-nil, get_or-drop, take-append-drop}
use Rattle.std.proofs.lemmas.List.Sums.{sum_by-append}
use Rattle.byteorder.specs.Endian.{big_number}
use Rattle.ospf_wire.specs.Fields.{field}
use Rattle.ospf_wire.specs.Sums.{words, summed_bytes}

-- the words of two pieces, the first of them of whole words
pub words-append : (k : ℕ) (xs ys : List ℕ) → length xs ≡ 2 * k → words (xs ++ ys) ≡ words xs ++ words ys
words-append zero [] ys len = refl
words-append zero (a ∷ xs) ys len = absurd (omega arith)
words-append (suc k) [] ys len = absurd (omega arith)
words-append (suc k) (a ∷ []) ys len = absurd (omega arith)
words-append (suc k) (a ∷ b ∷ xs) ys len = ap (λ (ws : List ℕ). (256 * a + b) ∷ ws) (words-append k xs ys (omega arith))

sum-append : (xs ys : List ℕ) → sum (xs ++ ys) ≡ sum xs + sum ys
sum-append xs ys = sum_by-append (λ x. x) xs ys

-- the sum of their words
pub sum-words-append : (k : ℕ) (xs ys : List ℕ) → length xs ≡ 2 * k → sum (words (xs ++ ys)) ≡ sum (words xs) + sum (words ys)
sum-words-append k xs ys len = ap sum (words-append k xs ys len) ∙ sum-append (words xs) (words ys)

two_bytes : (bs : List ℕ) → 2 ≤ length bs → sum (words (take 2 bs)) ≡ big_number 2 bs
two_bytes [] le = absurd (omega arith)
two_bytes (a ∷ []) le = absurd (omega arith)
two_bytes (a ∷ b ∷ bs) le = omega arith

-- one word more
pub sum-words-more : (i : ℕ) (bytes : List ℕ) → 2 * i + 2 ≤ length bytes → sum (words (take (2 * (i + 1)) bytes)) ≡ sum (words (take (2 * i) bytes)) + field (2 * i) 2 bytes
unfolding field
sum-words-more i bytes le =
    let place : 2 * (i + 1) ≡ 2 * i + 2 = omega arith in
    let front : length (take (2 * i) bytes) ≡ 2 * i = omega (arith, length-take (2 * i) bytes) in
    ap (λ (n : ℕ). sum (words (take n bytes))) place
    ∙ ap (λ (xs : List ℕ). sum (words xs)) (take-add (2 * i) 2 bytes)
    ∙ sum-words-append i (take (2 * i) bytes) (take 2 (drop (2 * i) bytes)) front
    ∙ ap (λ (n : ℕ). sum (words (take (2 * i) bytes)) + n) (two_bytes (drop (2 * i) bytes) (omega (arith, length-drop (2 * i) bytes)))

one_byte : (bs : List ℕ) → length bs ≡ 1 → sum (words bs) ≡ 256 * get_or bs 0 0
one_byte [] e = absurd (omega arith)
one_byte (a ∷ []) e = omega arith
one_byte (a ∷ b ∷ bs) e = absurd (omega arith)

-- the odd byte at the end
pub sum-words-last : (i : ℕ) (bytes : List ℕ) → length bytes ≡ 2 * i + 1 → sum (words bytes) ≡ sum (words (take (2 * i) bytes)) + 256 * get_or bytes (2 * i) 0
sum-words-last i bytes len =
    let front : length (take (2 * i) bytes) ≡ 2 * i = omega (arith, length-take (2 * i) bytes) in
    let last : sum (words (drop (2 * i) bytes)) ≡ 256 * get_or (drop (2 * i) bytes) 0 0 = one_byte (drop (2 * i) bytes) (omega (arith, length-drop (2 * i) bytes)) in
    let byte : get_or (drop (2 * i) bytes) 0 0 ≡ get_or bytes (2 * i + 0) 0 = get_or-drop (2 * i) bytes 0 0 in
    let place : 2 * i + 0 ≡ 2 * i = omega arith in
    ap (λ (xs : List ℕ). sum (words xs)) (sym (take-append-drop (2 * i) bytes))
    ∙ sum-words-append i (take (2 * i) bytes) (drop (2 * i) bytes) front
    ∙ ap (λ (n : ℕ). sum (words (take (2 * i) bytes)) + n) (last ∙ ap (λ (n : ℕ). 256 * n) (byte ∙ ap (λ (n : ℕ). get_or bytes n 0) place))

-- the words before the authentication, and those behind it
pub sum-summed : (bytes : List ℕ) → sum (words (summed_bytes bytes)) ≡ sum (words (take 16 bytes)) + sum (words (drop 24 bytes))
sum-summed bytes =
    elim (cases_lt (length bytes) 16) [
      | inl short ↦
          let none : drop 24 bytes ≡ [] = drop_all 24 bytes (omega arith) in
          ap (λ (xs : List ℕ). sum (words (take 16 bytes ++ xs))) none ∙ ap (λ (xs : List ℕ). sum (words xs)) (append-nil (take 16 bytes))
          ∙ sym (ap (λ (xs : List ℕ). sum (words (take 16 bytes)) + sum (words xs)) none ∙ omega arith)
      | inr long ↦ sum-words-append 8 (take 16 bytes) (drop 24 bytes) (omega (arith, length-take 16 bytes))
    ]
