-- What is read as a case is what spells it.
use Rattle.std.proofs.Common.{◌≡◌, ℕ, Bool, true, false, cond, eqb, List, [], ◌∷◌, ◌++◌, length, take, drop, refl, sym, ap, subst, ◌∙◌}
use Rattle.std.specs.Prelude.{◌↔◌}
use Rattle.std.specs.List.{concat, flat_map, onto_first}
use Rattle.std.proofs.lemmas.Bool.{eqb-true}
use Rattle.std.proofs.lemmas.List.{take-append-drop}
use Rattle.std.proofs.lemmas.List.Folds.{concat-append}
use Rattle.dn_model.specs.Cases.{Recording}
use Rattle.dn_text.specs.Lines.{lines}
use Rattle.dn_case.specs.Spelling.{spelled}
use Rattle.dn_case.specs.CaseTexts.{case_lines, Spells, BeginsWith}
use Rattle.dn_case.specs.Reading.{IsCaseText, IsCaseFront}
use Rattle.dn_case.proofs.CaseAgain.{lines_taken}
use Rattle.dn_case.proofs.Fronts.{concat_is_flat, front_taken}
use Rattle.dn_case.proofs.Together.{case_spelled}

pub as_spelled : (ls : List (List ℕ)) (c : Recording) → IsCaseText ls c ↔ Spells ls c
as_spelled ls c = (case_spelled ls c, λ h. subst (λ (x : List (List ℕ)). IsCaseText x c) (sym h.are) (lines_taken c h.prefixes h.meets h.order))

-- ---- the front of a text

first_joined : (c : ℕ) (ls : List (List ℕ)) → concat (onto_first c ls) ≡ c ∷ concat ls
first_joined c [] = refl
first_joined c (l ∷ ls) = refl

line_joined : (b : Bool) (c : ℕ) (ls : List (List ℕ)) → eqb c 10 ≡ b → concat (cond b ((10 ∷ []) ∷ ls) (onto_first c ls)) ≡ c ∷ concat ls
line_joined true c ls is = ap (λ (x : ℕ). x ∷ concat ls) (sym (eqb-true c 10 is))
line_joined false c ls is = first_joined c ls

lines_joined : (text : List ℕ) → concat (lines text) ≡ text
lines_joined [] = refl
lines_joined (c ∷ cs) = line_joined (eqb c 10) c (lines cs) refl ∙ ap (λ (x : List ℕ). c ∷ x) (lines_joined cs)

split_at : (text : List ℕ) (n : ℕ) → text ≡ concat (take n (lines text)) ++ concat (drop n (lines text))
split_at text n =
    sym (lines_joined text) ∙ ap concat (sym (take-append-drop n (lines text))) ∙ concat-append (take n (lines text)) (drop n (lines text))

front_spelled : (text : List ℕ) (c : Recording) (size : ℕ) → IsCaseFront text c size → BeginsWith text c size
front_spelled text c size h =
    record { lines = take h.count (lines text); rest = concat (drop h.count (lines text)); spell = case_spelled (take h.count (lines text)) c h.whole; is = split_at text h.count; long = h.long }

spelled_front : (text : List ℕ) (c : Recording) (size : ℕ) → BeginsWith text c size → IsCaseFront text c size
spelled_front text c size h =
    let k = h.spell in
    let bytes = flat_map spelled (case_lines c k.prefixes) in
    let all : concat h.lines ≡ bytes = ap concat k.are ∙ concat_is_flat (case_lines c k.prefixes) in
    let text_is : bytes ++ h.rest ≡ text = ap (λ (x : List ℕ). x ++ h.rest) (sym all) ∙ sym h.is in
    let size_is : length bytes ≡ size = ap (λ (x : List ℕ). length x) (sym all) ∙ sym h.long in
    subst (λ (n : ℕ). IsCaseFront text c n) size_is (subst (λ (x : List ℕ). IsCaseFront x c (length bytes)) text_is (front_taken c k.prefixes h.rest k.meets k.order))

pub as_begun : (text : List ℕ) (c : Recording) (size : ℕ) → IsCaseFront text c size ↔ BeginsWith text c size
as_begun text c size = (front_spelled text c size, spelled_front text c size)
