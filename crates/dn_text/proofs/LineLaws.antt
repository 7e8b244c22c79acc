-- The first part of a list of parts, put together again.
use Rattle.std.proofs.Common.{◌≡◌, ℕ, suc, subst, ◌+◌, ◌-◌, ◌<◌, ◌≤◌, true, false, eqb, List, [], ◌∷◌, ◌++◌, length, get_or, take, drop, refl, sym, ap, ◌∙◌, drop-cons, arith}
use Rattle.std.proofs.lemmas.List.{append-nil, take_all, drop_all, take_more, length-drop}
use Rattle.std.proofs.lemmas.Bool.{eqb-true}
use Rattle.std.proofs.lemmas.List.Splits.{slice_split-cons_yes, slice_split-cons_no}
use Rattle.std.specs.List.{onto_first}
use Rattle.dn_text.specs.Lines.{lines, parts}

-- bytes before the first part
abbrev pub onto : List ℕ → List (List ℕ) → List (List ℕ)
onto [] parts = parts
onto (c ∷ front) parts = onto_first c (onto front parts)

pub onto_more : (front : List ℕ) (c : ℕ) (parts : List (List ℕ)) → onto (front ++ c ∷ []) parts ≡ onto front (onto_first c parts)
onto_more [] c parts = refl
onto_more (d ∷ front) c parts = ap (λ (x : List (List ℕ)). onto_first d x) (onto_more front c parts)

pub onto_part : (front part : List ℕ) (parts : List (List ℕ)) → onto front (part ∷ parts) ≡ (front ++ part) ∷ parts
onto_part [] part parts = refl
onto_part (c ∷ front) part parts = ap (λ (x : List (List ℕ)). onto_first c x) (onto_part front part parts)

pub onto_nothing : (c : ℕ) (front : List ℕ) → onto (c ∷ front) [] ≡ (c ∷ front) ∷ []
onto_nothing c [] = refl
onto_nothing c (d ∷ front) = ap (λ (x : List (List ℕ)). onto_first c x) (onto_nothing d front)

item_past : (text : List ℕ) (i : ℕ) → i < length text → drop i text ≡ get_or text i 0 ∷ drop (i + 1) text
item_past text i within =
    let same : suc i ≡ i + 1 = omega arith in
    subst (λ (n : ℕ). drop i text ≡ get_or text i 0 ∷ drop n text) same (drop-cons text i 0 within)

-- what a slice from n on is
pub rest_is : (n : ℕ) (text : List ℕ) → take (length text - n) (drop n text) ≡ drop n text
rest_is n text = take_all (length text - n) (drop n text) (omega (arith, length-drop n text))

pub parts_here : (separator : ℕ) (text : List ℕ) (i : ℕ) → i < length text → eqb (get_or text i 0) separator ≡ true → parts separator text ≡ onto (take i text) (parts separator (drop i text)) → parts separator text ≡ take i text ∷ parts separator (drop (i + 1) text)
unfolding parts
parts_here separator text i within is so_far =
    let cut = item_past text i within in
    let here = slice_split-cons_yes (λ byte. eqb byte separator) (get_or text i 0) (drop (i + 1) text) is in
    so_far ∙ ap (λ (t : List ℕ). onto (take i text) (parts separator t)) cut ∙ ap (λ (ps : List (List ℕ)). onto (take i text) ps) here ∙ onto_part (take i text) [] (parts separator (drop (i + 1) text))
    ∙ ap (λ (t : List ℕ). t ∷ parts separator (drop (i + 1) text)) (append-nil (take i text))

pub parts_on : (separator : ℕ) (text : List ℕ) (i : ℕ) → i < length text → eqb (get_or text i 0) separator ≡ false → parts separator text ≡ onto (take i text) (parts separator (drop i text)) → parts separator text ≡ onto (take (i + 1) text) (parts separator (drop (i + 1) text))
unfolding parts
parts_on separator text i within is so_far =
    let cut = item_past text i within in
    let on = slice_split-cons_no (λ byte. eqb byte separator) (get_or text i 0) (drop (i + 1) text) is in
    so_far ∙ ap (λ (t : List ℕ). onto (take i text) (parts separator t)) cut ∙ ap (λ (ps : List (List ℕ)). onto (take i text) ps) on ∙ sym (onto_more (take i text) (get_or text i 0) (parts separator (drop (i + 1) text)))
    ∙ ap (λ (t : List ℕ). onto t (parts separator (drop (i + 1) text))) (sym (take_more text i 0 within))

pub parts_end : (separator : ℕ) (text : List ℕ) (i : ℕ) → length text ≤ i → parts separator text ≡ onto (take i text) (parts separator (drop i text)) → parts separator text ≡ text ∷ []
unfolding parts
parts_end separator text i past so_far =
    so_far ∙ ap (λ (t : List ℕ). onto t (parts separator (drop i text))) (take_all i text past) ∙ ap (λ (t : List ℕ). onto text (parts separator t)) (drop_all i text past) ∙ onto_part text [] [] ∙ ap (λ (t : List ℕ). t ∷ []) (append-nil text)

lines_yes : (c : ℕ) (cs : List ℕ) → eqb c 10 ≡ true → lines (c ∷ cs) ≡ (c ∷ []) ∷ lines cs
lines_yes c cs is = rw (is, eqb-true c 10 is) refl

lines_no : (c : ℕ) (cs : List ℕ) → eqb c 10 ≡ false → lines (c ∷ cs) ≡ onto_first c (lines cs)
lines_no c cs is = rw is refl

pub lines_here : (text : List ℕ) (i : ℕ) → i < length text → eqb (get_or text i 0) 10 ≡ true → lines text ≡ onto (take i text) (lines (drop i text)) → lines text ≡ take (i + 1) text ∷ lines (drop (i + 1) text)
lines_here text i within is so_far =
    let cut = item_past text i within in
    so_far ∙ ap (λ (t : List ℕ). onto (take i text) (lines t)) cut ∙ ap (λ (ps : List (List ℕ)). onto (take i text) ps) (lines_yes (get_or text i 0) (drop (i + 1) text) is)
    ∙ onto_part (take i text) (get_or text i 0 ∷ []) (lines (drop (i + 1) text)) ∙ ap (λ (t : List ℕ). t ∷ lines (drop (i + 1) text)) (sym (take_more text i 0 within))

pub lines_on : (text : List ℕ) (i : ℕ) → i < length text → eqb (get_or text i 0) 10 ≡ false → lines text ≡ onto (take i text) (lines (drop i text)) → lines text ≡ onto (take (i + 1) text) (lines (drop (i + 1) text))
lines_on text i within is so_far =
    let cut = item_past text i within in
    so_far ∙ ap (λ (t : List ℕ). onto (take i text) (lines t)) cut ∙ ap (λ (ps : List (List ℕ)). onto (take i text) ps) (lines_no (get_or text i 0) (drop (i + 1) text) is)
    ∙ sym (onto_more (take i text) (get_or text i 0) (lines (drop (i + 1) text))) ∙ ap (λ (t : List ℕ). onto t (lines (drop (i + 1) text))) (sym (take_more text i 0 within))

onto_all : (text : List ℕ) → 0 < length text → onto text [] ≡ text ∷ []
onto_all [] some = absurd (omega arith)
onto_all (c ∷ text) some = onto_nothing c text

pub lines_end : (text : List ℕ) (i : ℕ) → 0 < length text → length text ≤ i → lines text ≡ onto (take i text) (lines (drop i text)) → lines text ≡ text ∷ []
lines_end text i some past so_far =
    so_far ∙ ap (λ (t : List ℕ). onto t (lines (drop i text))) (take_all i text past) ∙ ap (λ (t : List ℕ). onto text (lines t)) (drop_all i text past) ∙ onto_all text some
