-- The two sums of the LS checksum, and the only pair of check bytes.
use Rattle.std.proofs.Common.{◌≡◌, ℕ, ◌+◌, ◌-◌, ◌*◌, ◌/◌, ◌%◌, ◌<◌, ◌≤◌, List, [], ◌∷◌, ◌++◌, length, take, get_or, inl, inr, refl, sym, ap, ◌∙◌, arith}
use Rattle.std.specs.Prelude.{sum}
use Rattle.std.proofs.lemmas.Bool.{cases_eq, eq-eqb, ne_eqb}
use Rattle.std.proofs.lemmas.List.{take_more, length-append}
use Rattle.std.proofs.lemmas.List.Sums.{sum_by-append}
use Rattle.ospf_wire.specs.declared.lsa.Lsa.{Lsa}
use Rattle.ospf_wire.specs.declared.lsa.LsaHeader.{LsaHeader}
use Rattle.ospf_wire.specs.Fields.{number}
use Rattle.ospf_wire.specs.Lsas.{header_bytes}
use Rattle.ospf_wire.specs.Fletcher.{weighted, checked_bytes, IsChecked, AreCheckBytes, with_sum, check_byte, ls_checksum}

pub sum-append : (xs ys : List ℕ) → sum (xs ++ ys) ≡ sum xs + sum ys
sum-append xs ys = sum_by-append (λ x. x) xs ys

sum-cons : (x : ℕ) (xs : List ℕ) → sum (x ∷ xs) ≡ x + sum xs
sum-cons x xs = sum-append (x ∷ []) xs ∙ omega arith

pub weighted-append : (xs ys : List ℕ) → weighted (xs ++ ys) ≡ weighted xs + length ys * sum xs + weighted ys
weighted-append [] ys = omega arith
weighted-append (x ∷ xs) ys =
    let first = weighted-append xs ys in
    let len : length (xs ++ ys) * x ≡ (length xs + length ys) * x = ap (λ (n : ℕ). n * x) (length-append xs ys) in
    let all : length ys * sum (x ∷ xs) ≡ length ys * (x + sum xs) = ap (λ (n : ℕ). length ys * n) (sum-cons x xs) in
    omega (arith, first, len, all)

-- one byte more
pub sum-more : (bytes : List ℕ) (i : ℕ) → i < length bytes → sum (take (i + 1) bytes) ≡ sum (take i bytes) + get_or bytes i 0
sum-more bytes i lt = ap sum (take_more bytes i 0 lt) ∙ sum-append (take i bytes) (get_or bytes i 0 ∷ []) ∙ omega arith

pub weighted-more : (bytes : List ℕ) (i : ℕ) → i < length bytes → weighted (take (i + 1) bytes) ≡ weighted (take i bytes) + sum (take i bytes) + get_or bytes i 0
weighted-more bytes i lt = ap weighted (take_more bytes i 0 lt) ∙ weighted-append (take i bytes) (get_or bytes i 0 ∷ []) ∙ omega arith

-- ---- the two sums by the check bytes

-- the bytes from the options to the sequence number
abbrev before : LsaHeader → List ℕ
before h = h.options ∷ h.kind ∷ number 4 h.id ++ number 4 h.router ++ number 4 h.seq

-- the bytes behind the checksum
abbrev behind : Lsa → List ℕ
behind l = number 2 l.head.length ++ l.body

-- what the plain sum is without the check bytes
abbrev pub plain_rest : Lsa → ℕ
plain_rest l = sum (before l.head) + sum (behind l)

-- what the weighted sum is without the check bytes
abbrev pub weighted_rest : Lsa → ℕ
weighted_rest l = weighted (before l.head) + (length l.body + 4) * sum (before l.head) + weighted (behind l)

split : (l : Lsa) (n : ℕ) → checked_bytes (with_sum l n).head l.body ≡ before l.head ++ (n / 256 % 256 ∷ n % 256 ∷ behind l)
unfolding header_bytes number
split l n = refl

length-behind : (l : Lsa) → length (behind l) ≡ length l.body + 2
unfolding number
length-behind l = omega arith

two_more : (x y : ℕ) (zs : List ℕ) → (sum (x ∷ y ∷ zs) ≡ x + y + sum zs) × (weighted (x ∷ y ∷ zs) ≡ (length zs + 2) * x + (length zs + 1) * y + weighted zs)
two_more x y zs = (omega (arith, sum-cons x (y ∷ zs), sum-cons y zs), omega arith)

pub plain_is : (l : Lsa) (n : ℕ) → sum (checked_bytes (with_sum l n).head l.body) ≡ plain_rest l + (n / 256 % 256 + n % 256)
plain_is l n =
    let x = n / 256 % 256 in
    let y = n % 256 in
    omega (arith, ap sum (split l n), sum-append (before l.head) (x ∷ y ∷ behind l), (two_more x y (behind l)).0)

pub weighted_is : (l : Lsa) (n : ℕ) → weighted (checked_bytes (with_sum l n).head l.body) ≡ weighted_rest l + ((length l.body + 3 + 1) * (n / 256 % 256) + (length l.body + 3) * (n % 256))
weighted_is l n =
    let x = n / 256 % 256 in
    let y = n % 256 in
    let len = length-behind l in
    let all : length (x ∷ y ∷ behind l) * sum (before l.head) ≡ (length l.body + 4) * sum (before l.head) = ap (λ (k : ℕ). k * sum (before l.head)) (omega arith) in
    let one : (length (behind l) + 2) * x ≡ (length l.body + 4) * x = ap (λ (k : ℕ). k * x) (omega arith) in
    let other : (length (behind l) + 1) * y ≡ (length l.body + 3) * y = ap (λ (k : ℕ). k * y) (omega arith) in
    omega (arith, ap weighted (split l n), weighted-append (before l.head) (x ∷ y ∷ behind l), (two_more x y (behind l)).1, all, one, other)

-- ---- pairs of numbers with both sums 0 modulo 255

-- two pairs of 1 to 255 are one
pub one_pair : (p q w x y u v : ℕ) → 1 ≤ x → x ≤ 255 → 1 ≤ y → y ≤ 255 → 1 ≤ u → u ≤ 255 → 1 ≤ v → v ≤ 255
    → (p + (x + y)) % 255 ≡ 0 → (q + ((w + 1) * x + w * y)) % 255 ≡ 0
    → (p + (u + v)) % 255 ≡ 0 → (q + ((w + 1) * u + w * v)) % 255 ≡ 0 → (x ≡ u) × (y ≡ v)
one_pair p q w x y u v x1 x2 y1 y2 u1 u2 v1 v2 a b c d =
    let m = (p + (x + y)) / 255 in
    let n = (p + (u + v)) / 255 in
    let one : p + (x + y) ≡ 255 * m = omega arith in
    let other : p + (u + v) ≡ 255 * n = omega arith in
    let first : w * (p + (x + y)) ≡ w * (255 * m) = ap (λ (k : ℕ). w * k) one in
    let second : w * (p + (u + v)) ≡ w * (255 * n) = ap (λ (k : ℕ). w * k) other in
    let same : x ≡ u = omega arith in
    (same, omega arith)

-- a pair that makes them so
pub some_pair : (p q w x y : ℕ) → x ≤ 255 → x % 255 ≡ (w * (p % 255) + 255 - q % 255) % 255 → y % 255 ≡ (510 - p % 255 - x) % 255
    → ((p + (x + y)) % 255 ≡ 0) × ((q + ((w + 1) * x + w * y)) % 255 ≡ 0)
some_pair p q w x y small ex ey =
    let plain : (p + (x + y)) % 255 ≡ 0 = omega arith in
    let m = (p + (x + y)) / 255 in
    let one : p + (x + y) ≡ 255 * m = omega arith in
    let first : w * (p + (x + y)) ≡ w * (255 * m) = ap (λ (k : ℕ). w * k) one in
    let rest : w * p ≡ w * (255 * (p / 255) + p % 255) = ap (λ (k : ℕ). w * k) (omega arith) in
    (plain, omega arith)

byte_is : (n : ℕ) → (1 ≤ check_byte n) × (check_byte n ≤ 255) × (check_byte n % 255 ≡ n % 255)
byte_is n =
    elim (cases_eq (n % 255) 0) [
      | inl none ↦ rw (eq-eqb (n % 255) 0 none) (omega arith, omega arith, omega arith)
      | inr some ↦ rw (ne_eqb (n % 255) 0 some) (omega arith, omega arith, omega arith)
    ]

-- ---- the laws

-- two bytes as a checksum
pub pair_is : (x y : ℕ) → 1 ≤ x → x ≤ 255 → 1 ≤ y → y ≤ 255 → AreCheckBytes (256 * x + y) × ((256 * x + y) / 256 % 256 ≡ x) × ((256 * x + y) % 256 ≡ y)
pair_is x y x1 x2 y1 y2 = (record { first_least = omega arith; first_most = omega arith; second_least = omega arith }, omega arith, omega arith)

-- both sums are right where the pair makes them so
pub checked_by : (l : Lsa) (x y : ℕ) → 1 ≤ x → x ≤ 255 → 1 ≤ y → y ≤ 255
    → x % 255 ≡ ((length l.body + 3) * (plain_rest l % 255) + 255 - weighted_rest l % 255) % 255 → y % 255 ≡ (510 - plain_rest l % 255 - x) % 255
    → IsChecked (with_sum l (256 * x + y))
checked_by l x y x1 x2 y1 y2 ex ey =
    let w = length l.body + 3 in
    let n = 256 * x + y in
    let is = pair_is x y x1 x2 y1 y2 in
    let sums = some_pair (plain_rest l) (weighted_rest l) w x y x2 ex ey in
    let one : w * (n % 256) ≡ w * y = ap (λ (k : ℕ). w * k) is.2 in
    let other : (w + 1) * (n / 256 % 256) ≡ (w + 1) * x = ap (λ (k : ℕ). (w + 1) * k) is.1 in
    record {
      plain = ap (λ (k : ℕ). k % 255) (plain_is l n ∙ omega (arith, is.1, is.2)) ∙ sums.0;
      weighted = ap (λ (k : ℕ). k % 255) (weighted_is l n ∙ omega (arith, one, other)) ∙ sums.1;
    }

-- the sums that the LS checksum is solved from
solved : (l : Lsa) → (sum (checked_bytes (with_sum l 0).head l.body) ≡ plain_rest l) × (weighted (checked_bytes (with_sum l 0).head l.body) ≡ weighted_rest l)
solved l = (plain_is l 0 ∙ omega arith, weighted_is l 0 ∙ omega arith)

pub right : (l : Lsa) → AreCheckBytes (ls_checksum l) × IsChecked (with_sum l (ls_checksum l))
unfolding ls_checksum
right l =
    let w = length l.body + 3 in
    let p = sum (checked_bytes (with_sum l 0).head l.body) % 255 in
    let q = weighted (checked_bytes (with_sum l 0).head l.body) % 255 in
    let a = w * p + 255 - q in
    let x = check_byte a in
    let first = byte_is a in
    let b = 510 - p - x in
    let y = check_byte b in
    let second = byte_is b in
    let e = solved l in
    let p-is : p ≡ plain_rest l % 255 = ap (λ (k : ℕ). k % 255) e.0 in
    let q-is : q ≡ weighted_rest l % 255 = ap (λ (k : ℕ). k % 255) e.1 in
    let ex : x % 255 ≡ (w * (plain_rest l % 255) + 255 - weighted_rest l % 255) % 255 = first.2 ∙ ap (λ (k : ℕ). (w * k + 255 - q) % 255) p-is ∙ ap (λ (k : ℕ). (w * (plain_rest l % 255) + 255 - k) % 255) q-is in
    let ey : y % 255 ≡ (510 - plain_rest l % 255 - x) % 255 = second.2 ∙ ap (λ (k : ℕ). (510 - k - x) % 255) p-is in
    ((pair_is x y first.0 first.1 second.0 second.1).0, checked_by l x y first.0 first.1 second.0 second.1 ex ey)

one_check_bytes : (l : Lsa) (m n : ℕ) → AreCheckBytes m → AreCheckBytes n → IsChecked (with_sum l m) → IsChecked (with_sum l n) → m ≡ n
one_check_bytes l m n mb nb mc nc =
    let w = length l.body + 3 in
    let m1 : m / 256 % 256 ≡ m / 256 = omega (arith, mb.first_most) in
    let n1 : n / 256 % 256 ≡ n / 256 = omega (arith, nb.first_most) in
    let pair = one_pair (plain_rest l) (weighted_rest l) w (m / 256 % 256) (m % 256) (n / 256 % 256) (n % 256)
    (omega (arith, mb.first_least)) (omega arith) mb.second_least (omega arith) (omega (arith, nb.first_least)) (omega arith) nb.second_least (omega arith)
    (ap (λ (k : ℕ). k % 255) (sym (plain_is l m)) ∙ mc.plain) (ap (λ (k : ℕ). k % 255) (sym (weighted_is l m)) ∙ mc.weighted)
    (ap (λ (k : ℕ). k % 255) (sym (plain_is l n)) ∙ nc.plain) (ap (λ (k : ℕ). k % 255) (sym (weighted_is l n)) ∙ nc.weighted) in
    omega (arith, pair.0, pair.1)

pub only : (l : Lsa) (n : ℕ) → AreCheckBytes n → IsChecked (with_sum l n) → n ≡ ls_checksum l
only l n bytes checked =
    let r = right l in
    one_check_bytes l n (ls_checksum l) bytes r.0 checked r.1
