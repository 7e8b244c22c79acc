use Rattle.std.proofs.Common.{◌≡◌, ◌<◌, ◌^◌, ℕ, List, Some, true, false, cond, nat_lt, sym, ap, ◌∙◌, arith, subst, refl, rules, tests}
use Rattle.std.specs.Str.Parse.{digits_value, IsNumeral, without_leading_plus}
use Rattle.std.proofs.lemmas.Str.{IsUtf8-from_ascii}
use Rattle.std.proofs.lemmas.Result.{OkIff-at_ok}
use Rattle.dn_text.specs.declared.decimals.Number.TheVariants.{Is, Beyond}
use Rattle.dn_text.specs.Decimals.{numeral_of, number, is_decimal}
use Rattle.dn_text.proofs.DecimalLaws.{decimal_numeral, decimal_plain, decimal_ascii}
use Rattle.dn_text.proofs.decimals.numeral.Goals as goal

told : (field : List ℕ) → is_decimal field ≡ true → numeral_of field ≡ Some (number (digits_value 10 field))
unfolding numeral_of
told field h = rw h refl

small : (n : ℕ) → n < 2 ^ 64 → Some (Is n) ≡ Some (number n)
small n h = let yes : nat_lt n (2 ^ 64) ≡ true = search (rules, tests) in rw yes refl

great : (n : ℕ) → ¬ (n < 2 ^ 64) → Some Beyond ≡ Some (number n)
great n h =
    elim (nat_lt n (2 ^ 64)) as (λ b. nat_lt n (2 ^ 64) ≡ b → Some Beyond ≡ Some (cond b (Is n) Beyond)) [
      | true ↦ λ lt. absurd (h (search (rules, tests)))
      | false ↦ λ _. refl
    ] refl

pub returns-then-not-is_decimal : goal.returns-then-not-is_decimal
unfolding numeral_of
returns-then-not-is_decimal c =
    let no : is_decimal c.args.field.now ≡ false = sym c.is_decimal.ensures ∙ (grind rules) in
    rw no refl

pub returns-in_default : goal.returns-in_default
returns-in_default c =
    let yes : is_decimal c.args.field.now ≡ true = sym c.is_decimal.ensures ∙ (grind rules) in
    absurd (c.in_default.ensures.cases.0 (IsUtf8-from_ascii c.args.field.now (decimal_ascii c.args.field.now yes)))

pub returns-in-Ok-parse : goal.returns-in-Ok-parse
returns-in-Ok-parse c =
    let yes : is_decimal c.args.field.now ≡ true = sym c.is_decimal.ensures ∙ (grind rules) in
    let n = c.in-Ok-parse.n in
    let same : c.in-Ok.text.now ≡ c.args.field.now = c.in-Ok.ensures.cases.0 in
    let numeral : IsNumeral 10 c.args.field.now = decimal_numeral c.args.field.now yes in
    let plain : without_leading_plus c.args.field.now ≡ c.args.field.now = decimal_plain c.args.field.now yes in
    let parsed = OkIff-at_ok c.parse.result _ _ n c.parse.ensures.value.0 c.in-Ok-parse.is in
    let is : n ≡ digits_value 10 c.args.field.now = parsed.1 ∙ ap (λ (t : List ℕ). digits_value 10 (without_leading_plus t)) same ∙ ap (λ (t : List ℕ). digits_value 10 t) plain in
    let below : n < 2 ^ 64 = omega (arith, parsed.1, parsed.0.1) in
    small n below ∙ ap (λ (m : ℕ). Some (number m)) is ∙ sym (told c.args.field.now yes)

pub returns-in-Err : goal.returns-in-Err
returns-in-Err c =
    let yes : is_decimal c.args.field.now ≡ true = sym c.is_decimal.ensures ∙ (grind rules) in
    let same : c.in-Ok.text.now ≡ c.args.field.now = c.in-Ok.ensures.cases.0 in
    let numeral : IsNumeral 10 c.args.field.now = decimal_numeral c.args.field.now yes in
    let plain : without_leading_plus c.args.field.now ≡ c.args.field.now = decimal_plain c.args.field.now yes in
    let all : without_leading_plus c.in-Ok.text.now ≡ c.args.field.now = ap (λ (t : List ℕ). without_leading_plus t) same ∙ plain in
    let fails : ¬ (digits_value 10 c.args.field.now < 2 ^ 64) = λ lt. c.in-Err.ensures.value.0 (subst (λ (t : List ℕ). IsNumeral 10 t × (digits_value 10 t < 2 ^ 64)) (sym all) (numeral, lt)) in
    great (digits_value 10 c.args.field.now) fails ∙ sym (told c.args.field.now yes)
