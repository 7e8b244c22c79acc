-- Too many parts.
use Rattle.std.proofs.Common.{◌≡◌, ◌<◌, ℕ, List, [], ◌∷◌, length, eqb, None, refl, arith}
use Rattle.std.proofs.lemmas.List.Splits.{length-slice_split}
use Rattle.dn_text.specs.Lines.{parts}
use Rattle.dn_case.specs.Shapes.{line_of_fields, address_of, net_of_parts, net_of}

some_part : (separator : ℕ) (text : List ℕ) → 0 < length (parts separator text)
unfolding parts
some_part separator text = omega (arith, length-slice_split (λ byte. eqb byte separator) text)

six : (w a b c d : List ℕ) (rest : List (List ℕ)) → 0 < length rest → None ≡ line_of_fields (w ∷ a ∷ b ∷ c ∷ d ∷ rest)
six w a b c d [] some = absurd (omega arith)
six w a b c d (x ∷ rest) some = refl

five : (a b c d : List ℕ) (rest : List (List ℕ)) → 0 < length rest → None ≡ address_of (a ∷ b ∷ c ∷ d ∷ rest)
five a b c d [] some = absurd (omega arith)
five a b c d (x ∷ rest) some = refl

three : (a b : List ℕ) (rest : List (List ℕ)) → 0 < length rest → None ≡ net_of_parts (a ∷ b ∷ rest)
three a b [] some = absurd (omega arith)
three a b (x ∷ rest) some = refl

pub six_parts : (t0 t1 t2 t3 t4 t5 w a b c d : List ℕ) → parts 32 t0 ≡ w ∷ parts 32 t1 → parts 32 t1 ≡ a ∷ parts 32 t2 → parts 32 t2 ≡ b ∷ parts 32 t3 → parts 32 t3 ≡ c ∷ parts 32 t4 → parts 32 t4 ≡ d ∷ parts 32 t5 → None ≡ line_of_fields (parts 32 t0)
six_parts t0 t1 t2 t3 t4 t5 w a b c d e0 e1 e2 e3 e4 = rw (e0, e1, e2, e3, e4) (six w a b c d (parts 32 t5) (some_part 32 t5))

pub five_parts : (t0 t1 t2 t3 t4 a b c d : List ℕ) → parts 46 t0 ≡ a ∷ parts 46 t1 → parts 46 t1 ≡ b ∷ parts 46 t2 → parts 46 t2 ≡ c ∷ parts 46 t3 → parts 46 t3 ≡ d ∷ parts 46 t4 → None ≡ address_of (parts 46 t0)
five_parts t0 t1 t2 t3 t4 a b c d e0 e1 e2 e3 = rw (e0, e1, e2, e3) (five a b c d (parts 46 t4) (some_part 46 t4))

pub three_parts : (t0 t1 t2 a b : List ℕ) → parts 47 t0 ≡ a ∷ parts 47 t1 → parts 47 t1 ≡ b ∷ parts 47 t2 → None ≡ net_of t0
unfolding net_of
three_parts t0 t1 t2 a b e0 e1 = rw (e0, e1) (three a b (parts 47 t2) (some_part 47 t2))
