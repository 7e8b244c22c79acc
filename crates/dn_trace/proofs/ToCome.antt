-- The rows that are still to come.
use Rattle.std.proofs.Common.{◌≡◌, ◌≢◌, ℕ, zero, suc, ◌+◌, ◌<◌, ◌≤◌, true, false, List, [], ◌∷◌, ◌++◌, length, take, drop, Some, refl, ap, arith}
use Rattle.std.specs.Prelude.{slice_get, nat_lt}
use Rattle.std.proofs.lemmas.Bool.{lt-ltb}
use Rattle.dn_model.specs.declared.router.RouterDef.{RouterDef}
use Rattle.dn_model.specs.declared.event.Event.{Event}
use Rattle.dn_trace.specs.Rows.{row_line, row_lines}

-- the row at a place below the limit is the first of those to come
first_to_come : (rows : List Event) (place limit : ℕ) (row : Event) → place < limit → slice_get rows place ≡ Some row → drop place (take limit rows) ≡ row ∷ drop (suc place) (take limit rows)
first_to_come [] place limit row below is = cc
first_to_come (x ∷ xs) place zero row below is = absurd (omega arith)
first_to_come (x ∷ xs) zero (suc limit) row below is = let e : x ≡ row = cc in ap (λ (r : Event). r ∷ take limit xs) e
first_to_come (x ∷ xs) (suc place) (suc limit) row below is = first_to_come xs place limit row (omega arith) is

pub next_line : (routers : List RouterDef) (rows : List Event) (place limit : ℕ) (row : Event) → place < limit → slice_get rows place ≡ Some row → row_lines routers (drop place (take limit rows)) ≡ row_line routers row ++ row_lines routers (drop (place + 1) (take limit rows))
next_line routers rows place limit row below is =
    let e : place + 1 ≡ suc place = omega arith in
    rw e (ap (row_lines routers) (first_to_come rows place limit row below is))

nothing_behind : (rows : List Event) (n : ℕ) → length rows ≤ n → drop n rows ≡ []
nothing_behind [] zero h = refl
nothing_behind [] (suc n) h = refl
nothing_behind (x ∷ xs) zero h = absurd (omega arith)
nothing_behind (x ∷ xs) (suc n) h = nothing_behind xs n (omega arith)

length_front : (rows : List Event) (n : ℕ) → length (take n rows) ≤ n
length_front [] zero = omega arith
length_front [] (suc n) = omega arith
length_front (x ∷ xs) zero = omega arith
length_front (x ∷ xs) (suc n) = omega (arith, length_front xs n)

length_front_of : (rows : List Event) (n : ℕ) → length (take n rows) ≤ length rows
length_front_of [] zero = omega arith
length_front_of [] (suc n) = omega arith
length_front_of (x ∷ xs) zero = omega arith
length_front_of (x ∷ xs) (suc n) = omega (arith, length_front_of xs n)

-- after all rows, or at the limit, no line is to come
pub no_line_at_end : (routers : List RouterDef) (rows : List Event) (place limit : ℕ) → place ≡ length rows → row_lines routers (drop place (take limit rows)) ≡ []
no_line_at_end routers rows place limit is = ap (row_lines routers) (nothing_behind (take limit rows) place (omega (arith, length_front_of rows limit)))

pub no_line_at_limit : (routers : List RouterDef) (rows : List Event) (place limit : ℕ) → place ≡ limit → row_lines routers (drop place (take limit rows)) ≡ []
no_line_at_limit routers rows place limit is = ap (row_lines routers) (nothing_behind (take limit rows) place (omega (arith, length_front rows limit)))

pub whole_is_not_cut : (rows : List Event) (place limit : ℕ) → place ≡ length rows → place ≤ limit → nat_lt limit (length rows) ≡ false
whole_is_not_cut rows place limit is within = search (arith)

pub more_is_cut : (rows : List Event) (place limit : ℕ) → place ≤ length rows → place ≢ length rows → place ≡ limit → nat_lt limit (length rows) ≡ true
more_is_cut rows place limit within apart at = lt-ltb limit (length rows) (omega arith)
