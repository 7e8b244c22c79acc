-- Places and lines of an input.
use Rattle.std.proofs.Common.{◌≡◌, ℕ, zero, suc, ◌+◌, ◌≤◌, List, [], ◌∷◌, length, take, eqb, ap, arith, ⊎_elim}
use Rattle.std.specs.List.{concat, onto_first, position_or_len}
use Rattle.std.proofs.lemmas.List.{length-append, length-drop}
use Rattle.std.specs.Prelude.{drop}
use Rattle.std.proofs.lemmas.Bool.{cases_Bool}
use Rattle.dn_text.specs.Lines.{lines}
use Rattle.dn_case.specs.TraceSections.{closes, begins_section, section, section_len}
use Rattle.dn_top.specs.Promises.{journal_place}

front_short : (n : ℕ) (ls : List (List ℕ)) → length (concat (take n ls)) ≤ length (concat ls)
front_short zero ls = omega arith
front_short (suc n) [] = omega arith
front_short (suc n) (l ∷ ls) =
    let rest = front_short n ls in
    omega (arith, length-append l (concat (take n ls)), length-append l (concat ls), rest)

section_short : (ls : List (List ℕ)) → length (concat (section ls)) ≤ length (concat ls)
section_short ls =
    ⊎_elim (λ h. rw h (front_short (position_or_len closes ls + 1) ls)) (λ h. rw h (omega arith)) (cases_Bool (begins_section ls))

-- the lines of a text, one behind the other, are the text
abbrev pub AreText : Type 0
AreText = (text : List ℕ) → concat (lines text) ≡ text

section_within : AreText → (text : List ℕ) → section_len text ≤ length text
section_within are text =
    let short = section_short (lines text) in
    let same = ap (λ (l : List ℕ). length l) (are text) in
    omega (arith, short, same)

-- a trace section ends within the input
pub place_within : AreText → (input : List ℕ) (size : ℕ) → size ≤ length input → journal_place input size ≤ length input
place_within are input size within =
    let short = section_within are (drop size input) in
    let long = length-drop size input in
    omega (arith, short, long, within)

-- there are at most as many lines as bytes
onto_few : (c : ℕ) (ls : List (List ℕ)) → length (onto_first c ls) ≤ suc (length ls)
onto_few c [] = omega arith
onto_few c (l ∷ ls) = omega arith

pub lines_few : (text : List ℕ) → length (lines text) ≤ length text
lines_few [] = omega arith
lines_few (c ∷ text) =
    let rest = lines_few text in
    let more = onto_few c (lines text) in
    ⊎_elim (λ h. rw h (omega (arith, rest))) (λ h. rw h (omega (arith, rest, more))) (cases_Bool (eqb c 10))

pub take_short : (n : ℕ) (text : List ℕ) → length (take n text) ≤ length text
take_short zero text = omega arith
take_short (suc n) [] = omega arith
take_short (suc n) (c ∷ text) = let rest = take_short n text in omega (arith, rest)
