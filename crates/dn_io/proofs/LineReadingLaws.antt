-- Lines that are gathered piece by piece.
use Rattle.std.proofs.Common.{◌≡◌, ℕ, ◌+◌, ◌-◌, ◌<◌, ◌≤◌, suc, true, eqb, List, [], ◌∷◌, ◌++◌, length, get_or, take, drop, Option, refl, sym, ap, subst, ◌∙◌, append_assoc, drop-cons, arith}
use Rattle.std.proofs.lemmas.Bool.{eqb-true}
use Rattle.std.specs.Prelude.{slice_range}
use Rattle.std.proofs.lemmas.List.{take-append-drop, take_all, drop_at, drop-drop, drop-take, length-take, length-append}
use Rattle.std.proofs.Math.Seq.{take-append-add}
use Rattle.std.proofs.lemmas.List.Elements.{All-append, All-contains}
use Rattle.std.specs.List.{Contains}
use Rattle.dn_io.specs.Streams.{before, Gives}
use Rattle.dn_io.specs.LineReading.{HasNoNewline}
use Rattle.dn_io.proofs.StreamLaws.{before-before}

-- ---- one newline

item_past : (text : List ℕ) (i : ℕ) → i < length text → drop i text ≡ get_or text i 0 ∷ drop (i + 1) text
item_past text i within =
    let same : suc i ≡ i + 1 = omega arith in
    subst (λ (n : ℕ). drop i text ≡ get_or text i 0 ∷ drop n text) same (drop-cons text i 0 within)

pub cut_here : (text : List ℕ) (i : ℕ) → i < length text → eqb (get_or text i 0) 10 ≡ true → text ≡ (take i text ++ 10 ∷ []) ++ drop (i + 1) text
cut_here text i within is =
    sym (take-append-drop i text)
    ∙ ap (λ (t : List ℕ). take i text ++ t) (item_past text i within ∙ ap (λ (b : ℕ). b ∷ drop (i + 1) text) (eqb-true (get_or text i 0) 10 is))
    ∙ sym (append_assoc (take i text) (10 ∷ []) (drop (i + 1) text))

pub none_at_all : (text : List ℕ) (i : ℕ) → length text ≤ i → HasNoNewline (take i text) → HasNoNewline text
none_at_all text i past clean = subst HasNoNewline (take_all i text past) clean

-- what is behind a newline that stands within so many bytes
pub cut_behind : (held x rest : List ℕ) (n w : ℕ) → take w held ≡ (x ++ 10 ∷ []) ++ rest → length x ≡ n → held ≡ (x ++ 10 ∷ []) ++ drop (n + 1) held
cut_behind held x rest n w is long =
    let front = x ++ 10 ∷ [] in
    let size : length front ≡ n + 1 = omega (arith, length-append x (10 ∷ [])) in
    let whole : held ≡ front ++ (rest ++ drop w held) = sym (take-append-drop w held) ∙ ap (λ (t : List ℕ). t ++ drop w held) is ∙ append_assoc front rest (drop w held) in
    let behind : drop (n + 1) held ≡ rest ++ drop w held = ap (drop (n + 1)) whole ∙ drop_at front (rest ++ drop w held) (n + 1) size in
    whole ∙ ap (λ (t : List ℕ). front ++ t) (sym behind)

-- a text without a newline has none
pub newline_or_none : {A : Type 0} (text : List ℕ) → HasNoNewline text → Contains text 10 → A
newline_or_none text clean has = absurd (All-contains (λ (b : ℕ). b ≡ 10 → ⊥) text 10 clean has refl)

-- ---- what came

pub gives_so : {old now : Option (List ℕ)} {P Q : List ℕ → Type 0} → Gives old now P → ((x : List ℕ) → P x → Q x) → Gives old now Q
gives_so given all = record { came = given.came; holds = all given.came given.holds; told = given.told }

pub gives_on : {old between now : Option (List ℕ)} {P Q R : List ℕ → Type 0} → Gives old between P → Gives between now Q → ((x y : List ℕ) → P x → Q y → R (x ++ y)) → Gives old now R
gives_on {now = now} first second all = record {
  came = first.came ++ second.came;
  holds = all first.came second.came first.holds second.holds;
  told = first.told ∙ ap (before first.came) second.told ∙ before-before first.came second.came now;
}

-- what was held at first and then came is the line so far, and then what is held
abbrev pub SoFar : List ℕ → List ℕ → List ℕ → List ℕ → Type 0
SoFar first line held came = first ++ came ≡ line ++ held

pub so_far_on : (first line held more x y : List ℕ) → SoFar first line held x → more ≡ held ++ y → SoFar first line more (x ++ y)
so_far_on first line held more x y so is =
    sym (append_assoc first x y) ∙ ap (λ (t : List ℕ). t ++ y) so ∙ append_assoc line held y ∙ ap (λ (t : List ℕ). line ++ t) (sym is)

-- the line goes on with a piece of what is held, of which the rest stays
pub so_far_moved : (first line held came piece rest : List ℕ) → SoFar first line held came → held ≡ piece ++ rest → SoFar first (line ++ piece) rest came
so_far_moved first line held came piece rest so is =
    so ∙ ap (λ (t : List ℕ). line ++ t) is ∙ sym (append_assoc line piece rest)

-- a place behind a newline that stands within so many bytes of a slice
pub cut_fits : (buffer x rest : List ℕ) (from to n w : ℕ) → from ≤ to → take w (slice_range buffer from to) ≡ (x ++ 10 ∷ []) ++ rest → length x ≡ n → (from + (n + 1) ≤ to) × (n + 1 ≤ w)
cut_fits buffer x rest from to n w order is long =
    let held = slice_range buffer from to in
    let all : length (take w held) ≡ length ((x ++ 10 ∷ []) ++ rest) = ap (λ (t : List ℕ). length t) is in
    let parts = length-append (x ++ 10 ∷ []) rest in
    let front = length-append x (10 ∷ []) in
    let few = length-take w held in
    let wide = length-take (to - from) (drop from buffer) in
    (omega (arith, order, all, parts, front, few, wide, long), omega (arith, all, parts, front, few, long))

-- a slice from later on
pub slice_behind : (buffer : List ℕ) (from to k : ℕ) → from + k ≤ to → slice_range buffer (from + k) to ≡ drop k (slice_range buffer from to)
slice_behind buffer from to k fits =
    let m = to - (from + k) in
    let long : to - from ≡ k + m = omega arith in
    sym (ap (λ (n : ℕ). drop k (take n (drop from buffer))) long ∙ drop-take k m (drop from buffer) ∙ ap (take m) (drop-drop k from buffer))

-- ---- what the answers say

-- a line that ends with the piece that is moved, and is behind a newline
pub full_ahead : (first line held came piece rest : List ℕ) → SoFar first line held came → held ≡ (piece ++ 10 ∷ []) ++ rest → first ++ came ≡ ((line ++ piece) ++ 10 ∷ []) ++ rest
full_ahead first line held came piece rest so is =
    so_far_moved first line held came (piece ++ 10 ∷ []) rest so is ∙ ap (λ (t : List ℕ). t ++ rest) (sym (append_assoc line piece (10 ∷ [])))

pub clean_on : (line piece : List ℕ) → HasNoNewline line → HasNoNewline piece → HasNoNewline (line ++ piece)
clean_on line piece one two = All-append (λ (b : ℕ). b ≡ 10 → ⊥) line piece one two

-- no newline within the room, and more bytes than it
pub over_ahead : (first line held came : List ℕ) (room left : ℕ) → SoFar first line held came → room ≡ length line + left → HasNoNewline line → HasNoNewline (take left held) → left < length held → HasNoNewline (take room (first ++ came)) × (room < length (first ++ came))
over_ahead first line held came room left so is clean within more =
    let cut : take room (first ++ came) ≡ line ++ take left held = ap (take room) so ∙ ap (λ (n : ℕ). take n (line ++ held)) is ∙ take-append-add line held left in (
      subst HasNoNewline (sym cut) (clean_on line (take left held) clean within),
      (let long = ap (λ (t : List ℕ). length t) so in let parts = length-append line held in omega (arith, long, parts, is, more)),
    )
