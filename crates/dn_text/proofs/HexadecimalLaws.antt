-- Reading pairs of digits, one after the other; digits and bytes, both ways.
use Rattle.std.proofs.Common.{◌≡◌, ℕ, ◌+◌, ◌*◌, ◌/◌, ◌%◌, ◌<◌, ◌≤◌, suc, Bool, true, false, cond, ◌&&◌, eqb, nat_lt, List, [], ◌∷◌, ◌++◌, length, get_or, drop, Option, Some, None, Result, Ok, Err, IfOk, refl, sym, ap, ◌∙◌, append_assoc, arith, rules, tests}
use Rattle.std.specs.Prelude.{◌↔◌}
use Rattle.std.specs.List.{list_all, AllByRecursion}
use Rattle.std.specs.Option.{option_map}
use Rattle.std.proofs.lemmas.Bool.{eqb-true}
use Rattle.std.proofs.lemmas.Bool.Decides.{nat_tests}
use Rattle.std.proofs.lemmas.List.{append-nil}
use Rattle.dn_guest.specs.Hex.{hex, digit}
use Rattle.dn_text.specs.Hexadecimals.{is_hex_digit, digit_value, byte_of, behind, pairs, unhex, is_hex}

abbrev pub front : List ℕ → Option (List ℕ) → Option (List ℕ)
front bytes read = option_map (λ rest. bytes ++ rest) read

regroup : (bytes : List ℕ) (byte : ℕ) (read : Option (List ℕ)) → front bytes (option_map (λ bytes. byte ∷ bytes) read) ≡ front (bytes ++ byte ∷ []) read
regroup bytes byte None = refl
regroup bytes byte (Some rest) = rw (append_assoc bytes (byte ∷ []) rest) refl

pub pairs_more : (bytes left : List ℕ) (byte : ℕ) (all : Option (List ℕ)) → 2 ≤ length left → byte_of (get_or left 0 0) (get_or left 1 0) ≡ Some byte → front bytes (pairs left) ≡ all → front (bytes ++ byte ∷ []) (pairs (drop 2 left)) ≡ all
unfolding pairs
pairs_more bytes [] byte all long is so_far = absurd (omega arith)
pairs_more bytes (c ∷ []) byte all long is so_far = absurd (omega arith)
pairs_more bytes (c ∷ d ∷ cs) byte all long is so_far =
    sym (regroup bytes byte (pairs cs)) ∙ sym (ap (λ (o : Option ℕ). front bytes (behind o (pairs cs))) is) ∙ so_far

pub pairs_bad : (bytes left : List ℕ) (all : Option (List ℕ)) → 2 ≤ length left → byte_of (get_or left 0 0) (get_or left 1 0) ≡ None → front bytes (pairs left) ≡ all → None ≡ all
unfolding pairs
pairs_bad bytes [] all long is so_far = absurd (omega arith)
pairs_bad bytes (c ∷ []) all long is so_far = absurd (omega arith)
pairs_bad bytes (c ∷ d ∷ cs) all long is so_far = sym (ap (λ (o : Option ℕ). front bytes (behind o (pairs cs))) is) ∙ so_far

pub pairs_end : (bytes left : List ℕ) (all : Option (List ℕ)) → length left ≡ 0 → front bytes (pairs left) ≡ all → Some bytes ≡ all
unfolding pairs
pairs_end bytes [] all none so_far = sym (ap (λ (l : List ℕ). Some l) (append-nil bytes)) ∙ so_far
pairs_end bytes (c ∷ cs) all none so_far = absurd (omega arith)

pub pairs_odd : (bytes left : List ℕ) (all : Option (List ℕ)) → length left < 2 → ¬ (length left ≡ 0) → front bytes (pairs left) ≡ all → None ≡ all
unfolding pairs
pairs_odd bytes [] all short some so_far = absurd (some refl)
pairs_odd bytes (c ∷ []) all short some so_far = so_far
pairs_odd bytes (c ∷ d ∷ cs) all short some so_far = absurd (omega arith)

-- ---- the digits of a byte say the byte

each_true : (a b : Bool) → (a && b) ≡ true → (a ≡ true) × (b ≡ true)
each_true true b p = (refl, p)
each_true false b p = absurd cc

both_true : (a b : Bool) → a ≡ true → b ≡ true → (a && b) ≡ true
both_true true b p q = q
both_true false b p q = p

digit_test : (n : ℕ) → n < 16 → is_hex_digit (digit n) ≡ true
digit_test n small = grind (arith, nat_tests)

value_of_digit : (n : ℕ) → n < 16 → digit_value (digit n) ≡ n
value_of_digit n small = grind (arith, nat_tests)

digit_of_value : (c : ℕ) → is_hex_digit c ≡ true → digit (digit_value c) ≡ c
digit_of_value c h = grind (arith, nat_tests)

value_small : (c : ℕ) → is_hex_digit c ≡ true → digit_value c < 16
value_small c h = grind (arith, nat_tests)

pub byte_again : (b : ℕ) → b < 256 → byte_of (digit (b / 16)) (digit (b % 16)) ≡ Some b
byte_again b small =
    let high : b / 16 < 16 = omega arith in
    let low : b % 16 < 16 = omega arith in
    let whole : 16 * (b / 16) + b % 16 ≡ b = omega arith in
    rw (digit_test (b / 16) high, digit_test (b % 16) low, value_of_digit (b / 16) high, value_of_digit (b % 16) low) (ap (λ (n : ℕ). Some n) whole)

pub pairs_again : (bytes : List ℕ) → AllByRecursion (λ byte. byte < 256) bytes → pairs (hex bytes) ≡ Some bytes
unfolding pairs
pairs_again [] all = refl
pairs_again (b ∷ bytes) all =
    ap (λ (o : Option ℕ). behind o (pairs (hex bytes))) (byte_again b all.0) ∙ ap (λ (o : Option (List ℕ)). option_map (λ bytes. b ∷ bytes) o) (pairs_again bytes all.1)

pub unhex_again : (bytes : List ℕ) → 0 < length bytes → AllByRecursion (λ byte. byte < 256) bytes → unhex (hex bytes) ≡ Some bytes
unhex_again [] some all = absurd (omega arith)
unhex_again (b ∷ bytes) some all = pairs_again (b ∷ bytes) all

digits_of_bytes : (bytes : List ℕ) → AllByRecursion (λ byte. byte < 256) bytes → list_all is_hex_digit (hex bytes) ≡ true
digits_of_bytes [] all = refl
digits_of_bytes (b ∷ bytes) all =
    both_true (is_hex_digit (digit (b / 16))) (is_hex_digit (digit (b % 16)) && list_all is_hex_digit (hex bytes)) (digit_test (b / 16) (omega (arith, all.0)))
    (both_true (is_hex_digit (digit (b % 16))) (list_all is_hex_digit (hex bytes)) (digit_test (b % 16) (omega arith)) (digits_of_bytes bytes all.1))

pub length-hex : (bytes : List ℕ) → length (hex bytes) ≡ 2 * length bytes
length-hex [] = refl
length-hex (b ∷ bytes) = omega (arith, length-hex bytes)

lt_true : (m n : ℕ) → m < n → nat_lt m n ≡ true
lt_true m n h = search (rules, tests)

same_true : (m n : ℕ) → m ≡ n → eqb m n ≡ true
same_true m n h = search (rules, tests)

pub is_hex_again : (bytes : List ℕ) → 0 < length bytes → AllByRecursion (λ byte. byte < 256) bytes → is_hex (hex bytes) ≡ true
is_hex_again bytes some all =
    let width = length-hex bytes in
    both_true (nat_lt 0 (length (hex bytes))) (eqb (length (hex bytes) % 2) 0 && list_all is_hex_digit (hex bytes)) (lt_true 0 (length (hex bytes)) (omega arith))
    (both_true (eqb (length (hex bytes) % 2) 0) (list_all is_hex_digit (hex bytes)) (same_true (length (hex bytes) % 2) 0 (omega arith)) (digits_of_bytes bytes all))

-- ---- and no other digits do

-- what a hexadecimal field is: the digits of these bytes
pub record IsHexOf (field bytes : List ℕ) : Type 0 where
  pub read : pairs field ≡ Some bytes
  pub same : hex bytes ≡ field
  pub small : AllByRecursion (λ byte. byte < 256) bytes
  pub width : length field ≡ 2 * length bytes

pub of_pairs : (field : List ℕ) → length field % 2 ≡ 0 → list_all is_hex_digit field ≡ true → (bytes : List ℕ) × IsHexOf field bytes
unfolding pairs
of_pairs [] even all = ([], record { read = refl; same = refl; small = tt; width = refl })
of_pairs (c ∷ []) even all = absurd (omega arith)
of_pairs (c ∷ d ∷ cs) even all =
    let first = each_true (is_hex_digit c) (is_hex_digit d && list_all is_hex_digit cs) all in
    let second = each_true (is_hex_digit d) (list_all is_hex_digit cs) first.1 in
    let rest = of_pairs cs (omega arith) second.1 in
    let b = 16 * digit_value c + digit_value d in
    let high = value_small c first.0 in
    let low = value_small d second.0 in
    let above : b / 16 ≡ digit_value c = omega arith in
    let below : b % 16 ≡ digit_value d = omega arith in
    let read : byte_of c d ≡ Some b = rw (first.0, second.0) refl in
    let c-is : digit (b / 16) ≡ c = ap digit above ∙ digit_of_value c first.0 in
    let d-is : digit (b % 16) ≡ d = ap digit below ∙ digit_of_value d second.0 in (
      b ∷ rest.0,
      record {
        read = ap (λ (o : Option ℕ). behind o (pairs cs)) read ∙ ap (λ (o : Option (List ℕ)). option_map (λ bytes. b ∷ bytes) o) rest.1.read;
        same = ap (λ (x : ℕ). x ∷ digit (b % 16) ∷ hex rest.0) c-is ∙ ap (λ (x : ℕ). c ∷ x ∷ hex rest.0) d-is ∙ ap (λ (x : List ℕ). c ∷ d ∷ x) rest.1.same;
        small = (omega arith, rest.1.small);
        width = omega (arith, rest.1.width);
      },
    )

unhex_some : (field : List ℕ) → 0 < length field → unhex field ≡ pairs field
unhex_some [] some = absurd (omega arith)
unhex_some (c ∷ cs) some = refl

-- A field that is hexadecimal is the digits of the bytes that are read of it.
pub of_hex : (field : List ℕ) → is_hex field ≡ true → (bytes : List ℕ) × (unhex field ≡ Some bytes) × IsHexOf field bytes
of_hex field h =
    let some = each_true (nat_lt 0 (length field)) (eqb (length field % 2) 0 && list_all is_hex_digit field) h in
    let even = each_true (eqb (length field % 2) 0) (list_all is_hex_digit field) some.1 in
    let found = of_pairs field (eqb-true (length field % 2) 0 even.0) even.1 in
    let long : 0 < length field = search (rules, tests) in
    (found.0, unhex_some field long ∙ found.1.read, found.1)

byte_read : (c d b : ℕ) → byte_of c d ≡ Some b → (is_hex_digit c ≡ true) × (is_hex_digit d ≡ true)
byte_read c d b e =
    elim (is_hex_digit c && is_hex_digit d) as (λ t. (is_hex_digit c && is_hex_digit d) ≡ t → cond t (Some (16 * digit_value c + digit_value d)) None ≡ Some b → (is_hex_digit c ≡ true) × (is_hex_digit d ≡ true)) [
      | true ↦ λ is _. each_true (is_hex_digit c) (is_hex_digit d) is
      | false ↦ λ _ e. absurd cc
    ] refl e

even_more : (m n : ℕ) → m % 2 ≡ 0 → n ≡ suc (suc m) → n % 2 ≡ 0
even_more m n h e = omega arith

pairs_digits : (field bytes : List ℕ) → pairs field ≡ Some bytes → (length field % 2 ≡ 0) × (list_all is_hex_digit field ≡ true)
unfolding pairs
pairs_digits [] bytes e = (refl, refl)
pairs_digits (c ∷ []) bytes e = absurd cc
pairs_digits (c ∷ d ∷ cs) bytes e =
    elim (byte_of c d) as (λ o. byte_of c d ≡ o → behind o (pairs cs) ≡ Some bytes → (length (c ∷ d ∷ cs) % 2 ≡ 0) × (list_all is_hex_digit (c ∷ d ∷ cs) ≡ true)) [
      | None ↦ λ _ e. absurd cc
      | Some b ↦ λ is e.
          elim (pairs cs) as (λ o. pairs cs ≡ o → option_map (λ bytes. b ∷ bytes) o ≡ Some bytes → (length (c ∷ d ∷ cs) % 2 ≡ 0) × (list_all is_hex_digit (c ∷ d ∷ cs) ≡ true)) [
            | None ↦ λ _ e. absurd cc
            | Some more ↦ λ rest _. (
                let k = pairs_digits cs more rest in
                let two = byte_read c d b is in
                (even_more (length cs) (length (c ∷ d ∷ cs)) k.0 refl, both_true (is_hex_digit c) (is_hex_digit d && list_all is_hex_digit cs) two.0 (both_true (is_hex_digit d) (list_all is_hex_digit cs) two.1 k.1)))
          ] refl e
    ] refl e

same_some : (a b : List ℕ) → ◌≡◌ {A = Option (List ℕ)} (Some a) (Some b) → a ≡ b
same_some a b e = cc

unhex_pairs : (field bytes : List ℕ) → unhex field ≡ Some bytes → pairs field ≡ Some bytes
unhex_pairs [] bytes e = absurd cc
unhex_pairs (c ∷ cs) bytes e = e

pub digits_are : (field bytes : List ℕ) → unhex field ≡ Some bytes → field ≡ hex bytes
digits_are field bytes e =
    let read = unhex_pairs field bytes e in
    let k = pairs_digits field bytes read in
    let found = of_pairs field k.0 k.1 in
    sym found.1.same ∙ ap hex (same_some found.0 bytes (sym found.1.read ∙ read))

pub spelled : (field : List ℕ) (r : Option (List ℕ)) → r ≡ unhex field → (bytes : List ℕ) → 0 < length bytes → AllByRecursion (λ byte. byte < 256) bytes → ((r ≡ Some bytes) ↔ (field ≡ hex bytes))
spelled field r e bytes some all =
    (λ is. digits_are field bytes (sym e ∙ is), λ is. e ∙ ap unhex is ∙ unhex_again bytes some all)

pub spelled_ok : {E : Type 0} (r : Result (Option (List ℕ)) E) (field : List ℕ) → IfOk r (λ found. found ≡ unhex field) → IfOk r (λ found. (bytes : List ℕ) → 0 < length bytes → AllByRecursion (λ byte. byte < 256) bytes → ((found ≡ Some bytes) ↔ (field ≡ hex bytes)))
spelled_ok (Ok found) field e = spelled field found e
spelled_ok (Err x) field e = tt
