-- The words of a line that tells a route.
use Rattle.std.proofs.Common.{◌≡◌, ◌<◌, ℕ, Bool, true, eqb, List, [], ◌∷◌, length, Option, Some, refl, arith}
use Rattle.std.proofs.lemmas.List.Splits.{length-slice_split}
use Rattle.dn_text.specs.Lines.{parts}
use Rattle.dn_probe.specs.Routes.{is_route, port_of, route_of, route_of_line}

some_part : (separator : ℕ) (text : List ℕ) → 0 < length (parts separator text)
unfolding parts
some_part separator text = omega (arith, length-slice_split (λ byte. eqb byte separator) text)

five : (rip : Bool) (first prefix cost via : List ℕ) (ways : List (List ℕ)) → 0 < length ways → is_route rip first cost via ≡ true
    → Some (record { prefix = prefix; port = port_of ways }) ≡ route_of rip (first ∷ prefix ∷ cost ∷ via ∷ ways)
five rip first prefix cost via [] some is = absurd (omega arith)
five rip first prefix cost via (word ∷ words) some is = rw is refl

pub five_words : (rip : Bool) (t0 t1 t2 t3 ways first prefix cost via : List ℕ) (port : Option ℕ)
    → parts 32 t0 ≡ first ∷ parts 32 t1 → parts 32 t1 ≡ prefix ∷ parts 32 t2 → parts 32 t2 ≡ cost ∷ parts 32 t3 → parts 32 t3 ≡ via ∷ parts 32 ways
    → port ≡ port_of (parts 32 ways) → is_route rip first cost via ≡ true → Some (record { prefix = prefix; port = port }) ≡ route_of_line rip t0
five_words rip t0 t1 t2 t3 ways first prefix cost via port e0 e1 e2 e3 by is =
    rw (by, e0, e1, e2, e3) (five rip first prefix cost via (parts 32 ways) (some_part 32 ways) is)
