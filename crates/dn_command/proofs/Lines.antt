-- A line with too many fields.
use Rattle.std.proofs.Common.{◌≡◌, ◌<◌, ℕ, List, [], ◌∷◌, length, eqb, None, refl, arith}
use Rattle.std.proofs.lemmas.List.Splits.{length-slice_split}
use Rattle.dn_model.specs.declared.router.RouterDef.{RouterDef}
use Rattle.dn_text.specs.Lines.{parts}
use Rattle.dn_command.specs.Commands.{command_of_fields, command_of}

some_part : (separator : ℕ) (text : List ℕ) → 0 < length (parts separator text)
unfolding parts
some_part separator text = omega (arith, length-slice_split (λ byte. eqb byte separator) text)

five : (rs : List RouterDef) (a b c d : List ℕ) (rest : List (List ℕ)) → 0 < length rest → None ≡ command_of_fields rs (a ∷ b ∷ c ∷ d ∷ rest)
five rs a b c d [] some = absurd (omega arith)
five rs a b c d (x ∷ rest) some = refl

pub five_parts : (rs : List RouterDef) (t0 t1 t2 t3 t4 a b c d : List ℕ) → parts 32 t0 ≡ a ∷ parts 32 t1 → parts 32 t1 ≡ b ∷ parts 32 t2 → parts 32 t2 ≡ c ∷ parts 32 t3 → parts 32 t3 ≡ d ∷ parts 32 t4 → None ≡ command_of rs t0
unfolding command_of
five_parts rs t0 t1 t2 t3 t4 a b c d e0 e1 e2 e3 = rw (e0, e1, e2, e3) (five rs a b c d (parts 32 t4) (some_part 32 t4))
