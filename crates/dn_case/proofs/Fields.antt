-- Fields without a separator in them, joined and split again.
use Rattle.std.proofs.Common.{◌≡◌, ℕ, ◌<◌, ◌^◌, Bool, true, false, not, ◌&&◌, eqb, nat_le, nat_lt, List, [], ◌∷◌, ◌++◌, length, refl, ap, ◌∙◌, arith, rules, tests}
use Rattle.std.specs.List.{onto_first, list_all}
use Rattle.std.specs.Char.{digit_value}
use Rattle.std.specs.Fmt.{decimal}
use Rattle.std.specs.Str.Parse.{AllDigits}
use Rattle.std.proofs.lemmas.Bool.Decides.{nat_tests}
use Rattle.std.proofs.lemmas.List.Splits.{slice_split-cons_yes, slice_split-cons_no}
use Rattle.std.proofs.lemmas.Fmt.{decimal_is_IsNumeral}
use Rattle.std.proofs.lemmas.Str.Parse.{digit_from_value}
use Rattle.dn_model.specs.Names.{is_name, begins_well, is_letter_or_digit, is_letter}
use Rattle.dn_text.specs.Hexadecimals.{is_hex, is_hex_digit}
use Rattle.dn_text.specs.Lines.{parts}

-- no such byte
abbrev pub free : ℕ → List ℕ → Bool
free separator [] = true
free separator (c ∷ cs) = not (eqb c separator) && free separator cs

pub both_true : (a b : Bool) → a ≡ true → b ≡ true → (a && b) ≡ true
both_true true b p q = q
both_true false b p q = p

pub each_true : (a b : Bool) → (a && b) ≡ true → (a ≡ true) × (b ≡ true)
each_true true b p = (refl, p)
each_true false b p = cc

is_false : (b : Bool) → not b ≡ true → b ≡ false
is_false true p = cc
is_false false p = refl

pub free-append : (s : ℕ) (a b : List ℕ) → free s a ≡ true → free s b ≡ true → free s (a ++ b) ≡ true
free-append s [] b p q = q
free-append s (c ∷ a) b p q =
    let parts = each_true (not (eqb c s)) (free s a) p in
    both_true (not (eqb c s)) (free s (a ++ b)) parts.0 (free-append s a b parts.1 q)

same_byte : (s : ℕ) → eqb s s ≡ true
same_byte s = search (rules, tests)

pub part_then : (s : ℕ) (f rest : List ℕ) → free s f ≡ true → parts s (f ++ s ∷ rest) ≡ f ∷ parts s rest
unfolding parts
part_then s [] rest h = slice_split-cons_yes (λ byte. eqb byte s) s rest (same_byte s)
part_then s (c ∷ f) rest h =
    let k = each_true (not (eqb c s)) (free s f) h in
    slice_split-cons_no (λ byte. eqb byte s) c (f ++ s ∷ rest) (is_false (eqb c s) k.0) ∙ ap (λ (ps : List (List ℕ)). onto_first c ps) (part_then s f rest k.1)

pub part_last : (s : ℕ) (f : List ℕ) → free s f ≡ true → parts s f ≡ f ∷ []
unfolding parts
part_last s [] h = refl
part_last s (c ∷ f) h =
    let k = each_true (not (eqb c s)) (free s f) h in
    slice_split-cons_no (λ byte. eqb byte s) c f (is_false (eqb c s) k.0) ∙ ap (λ (ps : List (List ℕ)). onto_first c ps) (part_last s f k.1)

-- ---- what has no separator

digit_free : (s c : ℕ) → s < 48 → digit_value c < 10 → not (eqb c s) ≡ true
digit_free s c low h = let range = digit_from_value c h in grind (arith, nat_tests)

digits_free : (s : ℕ) (ds : List ℕ) → s < 48 → AllDigits 10 ds → free s ds ≡ true
digits_free s [] low all = refl
digits_free s (c ∷ cs) low all = both_true (not (eqb c s)) (free s cs) (digit_free s c low all.0) (digits_free s cs low all.1)

pub decimal_free : (s n : ℕ) → s < 48 → n < 2 ^ 64 → free s (decimal n) ≡ true
decimal_free s n low small = digits_free s (decimal n) low ((decimal_is_IsNumeral n small).0.1)

letter_free : (s c : ℕ) → s < 48 → is_letter_or_digit c ≡ true → not (eqb c s) ≡ true
letter_free s c low h = grind (arith, nat_tests)

letters_free : (s : ℕ) (cs : List ℕ) → s < 48 → list_all is_letter_or_digit cs ≡ true → free s cs ≡ true
letters_free s [] low h = refl
letters_free s (c ∷ cs) low h =
    let parts = each_true (is_letter_or_digit c) (list_all is_letter_or_digit cs) h in
    both_true (not (eqb c s)) (free s cs) (letter_free s c low parts.0) (letters_free s cs low parts.1)

first_free : (s c : ℕ) → s < 48 → is_letter c ≡ true → not (eqb c s) ≡ true
first_free s c low h = grind (arith, nat_tests)

begins_free : (s : ℕ) (cs : List ℕ) → s < 48 → begins_well cs ≡ true → free s cs ≡ true
begins_free s [] low h = refl
begins_free s (c ∷ cs) low h =
    let parts = each_true (is_letter c) (list_all is_letter_or_digit cs) h in
    both_true (not (eqb c s)) (free s cs) (first_free s c low parts.0) (letters_free s cs low parts.1)

pub name_free : (s : ℕ) (name : List ℕ) → s < 48 → is_name name ≡ true → free s name ≡ true
name_free s name low h = begins_free s name low (each_true (nat_le (length name) 16) (begins_well name) h).1

hex_digit_free : (s c : ℕ) → s < 48 → is_hex_digit c ≡ true → not (eqb c s) ≡ true
hex_digit_free s c low h = grind (arith, nat_tests)

hex_digits_free : (s : ℕ) (cs : List ℕ) → s < 48 → list_all is_hex_digit cs ≡ true → free s cs ≡ true
hex_digits_free s [] low h = refl
hex_digits_free s (c ∷ cs) low h =
    let parts = each_true (is_hex_digit c) (list_all is_hex_digit cs) h in
    both_true (not (eqb c s)) (free s cs) (hex_digit_free s c low parts.0) (hex_digits_free s cs low parts.1)

pub hex_free : (s : ℕ) (cs : List ℕ) → s < 48 → is_hex cs ≡ true → free s cs ≡ true
hex_free s cs low h =
    let some = each_true (nat_lt 0 (length cs)) _ h in
    hex_digits_free s cs low (each_true _ (list_all is_hex_digit cs) some.1).1
