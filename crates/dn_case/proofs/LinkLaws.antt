-- Counts of ports.
use Rattle.std.proofs.Common.{◌≡◌, ◌≢◌, ℕ, ◌+◌, ◌<◌, ◌≤◌, Bool, true, false, cond, ◌||◌, eqb, List, [], ◌∷◌, ◌++◌, length, get_or, set, replicate, refl, sym, ap, ◌∙◌, arith, rules, tests, length-set}
use Rattle.std.proofs.lemmas.List.Sums.{sum_by-append}
use Rattle.std.proofs.lemmas.List.{get_or-set_other, get_or-set_same, get_or-replicate}
use Rattle.std.proofs.lemmas.Bool.{eqb-true, ne_eqb}
use Rattle.dn_model.specs.declared.link.Link.{Link}
use Rattle.dn_model.specs.Links.{names, ports_of}

pub ports_of-append : (ls : List Link) (l : Link) (r : ℕ) → ports_of (ls ++ l ∷ []) r ≡ ports_of ls r + cond (names r l) 1 0
unfolding ports_of
ports_of-append ls l r = sum_by-append (λ x. cond (names r x) 1 0) ls (l ∷ []) ∙ omega arith

pub ports_of-nil : (r : ℕ) → ports_of [] r ≡ 0
unfolding ports_of
ports_of-nil r = refl

names_no : (r : ℕ) (l : Link) → l.a ≢ r → l.b ≢ r → names r l ≡ false
names_no r l a b = rw (ne_eqb l.a r a, ne_eqb l.b r b) refl

self : (n : ℕ) → eqb n n ≡ true
self n = search (rules, tests)

names_a : (l : Link) → names l.a l ≡ true
names_a l = rw (self l.a) refl

either : (p q : Bool) → q ≡ true → (p || q) ≡ true
either true q h = refl
either false q h = h

no_more : (m n k : ℕ) → m ≡ n + k → k ≡ 0 → m ≡ n
no_more m n k e z = omega arith

one_more : (m n k : ℕ) → m ≡ n + k → k ≡ 1 → m ≡ n + 1
one_more m n k e z = omega arith

names_b : (l : Link) → names l.b l ≡ true
names_b l = either (eqb l.a l.b) (eqb l.b l.b) (self l.b)

abbrev pub bumped : List ℕ → ℕ → List ℕ
bumped ports i = set ports i (get_or ports i 0 + 1)

bumped_at : (ports : List ℕ) (i : ℕ) → i < length ports → get_or (bumped ports i) i 0 ≡ get_or ports i 0 + 1
bumped_at ports i inside = get_or-set_same ports i (get_or ports i 0 + 1) 0 inside

bumped_other : (ports : List ℕ) (i j : ℕ) → j ≢ i → get_or (bumped ports i) j 0 ≡ get_or ports j 0
bumped_other ports i j other = get_or-set_other ports i j (get_or ports i 0 + 1) 0 other

-- The counts with one more at both ends of a link are those of the links with it.
pub counted_more : (ports : List ℕ) (ls : List Link) (l : Link) (n : ℕ) → n ≤ length ports → l.a < n → l.b < n → l.a ≢ l.b → ((r : ℕ) → r < n → get_or ports r 0 ≡ ports_of ls r) →
    (r : ℕ) → r < n → get_or (bumped (bumped ports l.a) l.b) r 0 ≡ ports_of (ls ++ l ∷ []) r
counted_more ports ls l n wide a b apart counted r inside =
    let more = ports_of-append ls l r in
    let long : length (bumped ports l.a) ≡ length ports = length-set ports l.a (get_or ports l.a 0 + 1) in
    elim (eqb r l.b) as (λ t. eqb r l.b ≡ t → get_or (bumped (bumped ports l.a) l.b) r 0 ≡ ports_of (ls ++ l ∷ []) r) [
      | true ↦ λ e. (
          let is : r ≡ l.b = eqb-true r l.b e in
          let named : names r l ≡ true = ap (λ (x : ℕ). names x l) is ∙ names_b l in
          let at : get_or (bumped (bumped ports l.a) l.b) r 0 ≡ get_or (bumped ports l.a) l.b 0 + 1 = ap (λ (x : ℕ). get_or (bumped (bumped ports l.a) l.b) x 0) is ∙ bumped_at (bumped ports l.a) l.b (omega arith) in
          let other : get_or (bumped ports l.a) l.b 0 ≡ get_or ports l.b 0 = bumped_other ports l.a l.b (λ q. apart (sym q)) in
          let was : get_or ports l.b 0 ≡ ports_of ls r = counted l.b b ∙ ap (λ (x : ℕ). ports_of ls x) (sym is) in
          let one : cond (names r l) 1 0 ≡ 1 = rw named refl in
          at ∙ ap (λ (n : ℕ). n + 1) (other ∙ was) ∙ sym (one_more _ _ _ more one))
      | false ↦ λ e. (
          let not_b : r ≢ l.b = λ q. (let y : eqb r l.b ≡ true = rw q (self l.b) in cc) in
          let at : get_or (bumped (bumped ports l.a) l.b) r 0 ≡ get_or (bumped ports l.a) r 0 = bumped_other (bumped ports l.a) l.b r not_b in
          elim (eqb r l.a) as (λ t. eqb r l.a ≡ t → get_or (bumped (bumped ports l.a) l.b) r 0 ≡ ports_of (ls ++ l ∷ []) r) [
            | true ↦ λ e. (
                let is : r ≡ l.a = eqb-true r l.a e in
                let named : names r l ≡ true = ap (λ (x : ℕ). names x l) is ∙ names_a l in
                let here : get_or (bumped ports l.a) r 0 ≡ get_or ports l.a 0 + 1 = ap (λ (x : ℕ). get_or (bumped ports l.a) x 0) is ∙ bumped_at ports l.a (omega arith) in
                let was : get_or ports l.a 0 ≡ ports_of ls r = counted l.a a ∙ ap (λ (x : ℕ). ports_of ls x) (sym is) in
                let one : cond (names r l) 1 0 ≡ 1 = rw named refl in
                at ∙ here ∙ ap (λ (n : ℕ). n + 1) was ∙ sym (one_more _ _ _ more one))
            | false ↦ λ e. (
                let not_a : r ≢ l.a = λ q. (let y : eqb r l.a ≡ true = rw q (self l.a) in cc) in
                let named : names r l ≡ false = names_no r l (λ q. not_a (sym q)) (λ q. not_b (sym q)) in
                let here : get_or (bumped ports l.a) r 0 ≡ get_or ports r 0 = bumped_other ports l.a r not_a in
                let was : get_or ports r 0 ≡ ports_of ls r = counted r inside in
                let one : cond (names r l) 1 0 ≡ 0 = rw named refl in
                at ∙ here ∙ was ∙ sym (no_more _ _ _ more one))
          ] refl)
    ] refl

pub none_counted : (ports : List ℕ) (n r : ℕ) → ports ≡ replicate n 0 → r < n → get_or ports r 0 ≡ ports_of [] r
none_counted ports n r is inside = ap (λ (x : List ℕ). get_or x r 0) is ∙ get_or-replicate n r 0 0 inside ∙ sym (ports_of-nil r)
