-- What a decimal field is to std's words, and that it is the text of its number.
use Rattle.std.proofs.Common.{◌≡◌, ℕ, ◌<◌, ◌^◌, suc, zero, Bool, true, false, cond, ◌&&◌, eqb, nat_lt, List, [], ◌∷◌, length, get_or, drop, Option, Some, None, refl, sym, ap, subst, ◌∙◌, arith, rules, tests}
use Rattle.std.specs.Prelude.{◌↔◌}
use Rattle.std.specs.Fmt.{decimal}
use Rattle.std.specs.List.{list_all}
use Rattle.std.specs.Char.{digit_value}
use Rattle.std.specs.Str.{IsAscii}
use Rattle.std.specs.Str.Parse.{AllDigits, IsNumeral, digits_value, without_leading_plus}
use Rattle.std.proofs.lemmas.Bool.{eqb-true, ne_eqb}
use Rattle.std.proofs.lemmas.Bool.Decides.{nat_tests}
use Rattle.std.proofs.lemmas.Fmt.{IsAscii-from_digits, decimal_is_IsNumeral, first_decimal, decimal-digits_value}
use Rattle.std.proofs.lemmas.Str.Parse.{IsNumeralModel, digit_from_value}
use Rattle.dn_text.specs.declared.decimals.Number.{Number}
use Rattle.dn_text.specs.declared.decimals.Number.TheVariants.{Is, Beyond}
use Rattle.dn_text.specs.Decimals.{is_digit, is_nil, is_decimal, number, numeral_of, within, decimal_of}

pub each_true : (a b : Bool) → (a && b) ≡ true → (a ≡ true) × (b ≡ true)
each_true true b p = (refl, p)
each_true false b p = cc

pub both_true : (a b : Bool) → a ≡ true → b ≡ true → (a && b) ≡ true
both_true true b p q = q
both_true false b p q = p

digit_low : (c : ℕ) → is_digit c ≡ true → digit_value c < 10
digit_low c h = grind (arith, nat_tests)

all_low : (cs : List ℕ) → list_all is_digit cs ≡ true → AllDigits 10 cs
all_low [] h = tt
all_low (c ∷ cs) h =
    let parts = each_true (is_digit c) (list_all is_digit cs) h in
    (digit_low c parts.0, all_low cs parts.1)

nil_low : (cs : List ℕ) → is_nil cs ≡ true → AllDigits 10 cs
nil_low [] h = tt
nil_low (c ∷ cs) h = cc

decimal_low : (c : ℕ) (cs : List ℕ) → is_decimal (c ∷ cs) ≡ true → AllDigits 10 (c ∷ cs)
decimal_low c cs h =
    elim (eqb c 48) as (λ b. eqb c 48 ≡ b → cond b (is_nil cs) (is_digit c && list_all is_digit cs) ≡ true → AllDigits 10 (c ∷ cs)) [
      | true ↦ λ zero h. (let is : c ≡ 48 = eqb-true c 48 zero in subst (λ (d : ℕ). digit_value d < 10) (sym is) (omega arith), nil_low cs h)
      | false ↦ λ _ h. all_low (c ∷ cs) h
    ] refl h

pub decimal_numeral : (field : List ℕ) → is_decimal field ≡ true → IsNumeral 10 field
decimal_numeral [] h = cc
decimal_numeral (c ∷ cs) h = (omega arith, decimal_low c cs h)

no_plus : (c : ℕ) (cs : List ℕ) → AllDigits 10 (c ∷ cs) → without_leading_plus (c ∷ cs) ≡ c ∷ cs
no_plus c cs h = ap (λ (b : Bool). drop (cond b 1 0) (c ∷ cs)) (ne_eqb c 43 (λ e. let k : digit_value 43 < 10 = subst (λ (x : ℕ). digit_value x < 10) e h.0 in omega arith))

pub decimal_plain : (field : List ℕ) → is_decimal field ≡ true → without_leading_plus field ≡ field
decimal_plain [] h = refl
decimal_plain (c ∷ cs) h = no_plus c cs (decimal_low c cs h)

pub decimal_ascii : (field : List ℕ) → is_decimal field ≡ true → IsAscii field
decimal_ascii field h = IsAscii-from_digits field (decimal_numeral field h).1

-- ---- the text of a number says the number

digit_test : (c : ℕ) → digit_value c < 10 → is_digit c ≡ true
digit_test c h = let range = digit_from_value c h in grind (arith, nat_tests)

digit_tests : (ds : List ℕ) → AllDigits 10 ds → list_all is_digit ds ≡ true
digit_tests [] all = refl
digit_tests (c ∷ cs) all = both_true (is_digit c) (list_all is_digit cs) (digit_test c all.0) (digit_tests cs all.1)

led : (ds : List ℕ) → 0 < length ds → AllDigits 10 ds → 48 < get_or ds 0 0 → is_decimal ds ≡ true
led [] some all lead = absurd (omega arith)
led (c ∷ cs) some all lead =
    let other : eqb c 48 ≡ false = ne_eqb c 48 (omega arith) in
    rw other (digit_tests (c ∷ cs) all)

zero_decimal : is_decimal (decimal 0) ≡ true
unfolding Rattle.std.specs.Fmt.digits
zero_decimal = refl

decimal_test : (n : ℕ) → n < 2 ^ 64 → is_decimal (decimal n) ≡ true
decimal_test zero small = zero_decimal
decimal_test (suc n) small =
    let k = decimal_is_IsNumeral (suc n) small in
    led (decimal (suc n)) k.0.0 k.0.1 (first_decimal (suc n) (omega arith) small)

small_is : (n : ℕ) → n < 2 ^ 64 → number n ≡ Is n
small_is n h = let yes : nat_lt n (2 ^ 64) ≡ true = search (rules, tests) in rw yes refl

pub decimal_again : (n : ℕ) → n < 2 ^ 64 → numeral_of (decimal n) ≡ Some (Is n)
unfolding numeral_of
decimal_again n small = rw (decimal_test n small, (decimal_is_IsNumeral n small).1) (ap (λ (x : Number). Some x) (small_is n small))

-- ---- and no other text does

own_words : IsNumeralModel (AllDigits 10) (digits_value 10)
own_words = record { to = λ ds h. h; from = λ ds h. h; same = λ ds h. refl }

one_zero : (c : ℕ) (cs : List ℕ) → is_decimal (c ∷ cs) ≡ true → c ≡ 48 → length (c ∷ cs) ≡ 1
one_zero c [] h e = refl
one_zero c (d ∷ cs) h e = let off = rw e at h in absurd cc

alone : (field : List ℕ) → is_decimal field ≡ true → get_or field 0 0 ≡ 48 → length field ≡ 1
alone [] h e = absurd cc
alone (c ∷ cs) h e = one_zero c cs h e

some_digit : (field : List ℕ) → is_decimal field ≡ true → 0 < length field
some_digit [] h = absurd cc
some_digit (c ∷ cs) h = omega arith

all_digits : (field : List ℕ) → is_decimal field ≡ true → AllDigits 10 field
all_digits [] h = tt
all_digits (c ∷ cs) h = decimal_low c cs h

text_of_value : (field : List ℕ) → is_decimal field ≡ true → digits_value 10 field < 2 ^ 64 → decimal (digits_value 10 field) ≡ field
text_of_value field h small = decimal-digits_value own_words field (all_digits field h) (some_digit field h) (alone field h) small

value_is : (v n : ℕ) → within (Some (number v)) ≡ Some n → (v ≡ n) × (v < 2 ^ 64)
value_is v n e =
    elim (nat_lt v (2 ^ 64)) as (λ b. nat_lt v (2 ^ 64) ≡ b → within (Some (cond b (Is v) Beyond)) ≡ Some n → (v ≡ n) × (v < 2 ^ 64)) [
      | true ↦ λ less e. (let same : v ≡ n = cc in (same, search (rules, tests)))
      | false ↦ λ _ e. absurd cc
    ] refl e

pub text_is : (field : List ℕ) (n : ℕ) → decimal_of field ≡ Some n → field ≡ decimal n
unfolding numeral_of
text_is field n e =
    elim (is_decimal field) as (λ b. is_decimal field ≡ b → within (cond b (Some (number (digits_value 10 field))) None) ≡ Some n → field ≡ decimal n) [
      | true ↦ λ is e. (let v = value_is (digits_value 10 field) n e in sym (text_of_value field is v.1) ∙ ap decimal v.0)
      | false ↦ λ _ e. absurd cc
    ] refl e

pub spelled : (field : List ℕ) (r : Option ℕ) → r ≡ decimal_of field → (n : ℕ) → n < 2 ^ 64 → ((r ≡ Some n) ↔ (field ≡ decimal n))
spelled field r e n small =
    (λ is. text_is field n (sym e ∙ is), λ is. e ∙ ap decimal_of is ∙ ap within (decimal_again n small))
