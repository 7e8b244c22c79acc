-- What `==` of two tables says: they are equal.
use Rattle.std.proofs.Common.{◌≡◌, ℕ, Bool, true, false, ◌&&◌, refl, ap}
use Rattle.std.specs.Prelude.{Option, Some, None, nat_eq}
use Rattle.std.specs.Option.{option_eq}
use Rattle.std.specs.Bool.{Decides}
use Rattle.std.specs.Cmp.{booleans_Decides}
use Rattle.std.proofs.lemmas.Bool.{both_ways}
use Rattle.std.proofs.lemmas.Bool.Decides.{Decides-eqb}
use Rattle.std.proofs.lemmas.Option.{same_Some}
use Rattle.rip_table.specs.declared.held.Held.{Held}
use Rattle.rip_table.specs.contracts.held.HeldPartialEq.TheImpl as values
use Rattle.dn_net.specs.Networks.{Network}

-- two tests in a row decide both facts
and_decides : {P Q : Type 0} (x y : Bool) → Decides x P → Decides y Q → Decides (x && y) (P × Q)
and_decides true y p q = (λ e. (p.0 refl, q.0 e), λ h. q.1 h.1)
and_decides false y p q = (λ e. absurd cc, λ h. absurd (both_ways false refl (p.1 h.0)))

-- a test decides a fact that says the same
along : {P Q : Type 0} (x : Bool) → (P → Q) → (Q → P) → Decides x P → Decides x Q
along x there back d = (λ e. there (d.0 e), λ h. d.1 (back h))

numbers_in_options : (x y : Option ℕ) → Decides (option_eq nat_eq x y) (x ≡ y)
numbers_in_options None None = (λ _. refl, λ _. refl)
numbers_in_options None (Some b) = (λ e. absurd cc, λ e. absurd cc)
numbers_in_options (Some a) None = (λ e. absurd cc, λ e. absurd cc)
numbers_in_options (Some a) (Some b) =
    let d = Decides-eqb a b in
    (λ e. ap (λ (n : ℕ). Some n) (d.0 e), λ e. d.1 (same_Some a b e))

pub networks_decide : (a b : Network) → Decides (nat_eq a.0 b.0 && nat_eq a.1 b.1) (a ≡ b)
networks_decide a b =
    along _ (λ h. λ i. (h.0 i, h.1 i)) (λ e. (ap (λ (n : Network). n.0) e, ap (λ (n : Network). n.1) e))
    (and_decides _ _ (Decides-eqb a.0 b.0) (Decides-eqb a.1 b.1))

pub values_decide : (a b : Held) → Decides (values.ghosts.eq a b) (a ≡ b)
values_decide a b =
    along _ (λ h. λ i. record { tag = h.0 i; metric = h.1.0 i; via = h.1.1.0 i; time = h.1.1.1.0 i; changed = h.1.1.1.1 i })
    (λ e. (ap (λ (k : Held). k.tag) e, (ap (λ (k : Held). k.metric) e, (ap (λ (k : Held). k.via) e, (ap (λ (k : Held). k.time) e, ap (λ (k : Held). k.changed) e)))))
    (and_decides _ _ (Decides-eqb a.tag b.tag) (and_decides _ _ (Decides-eqb a.metric b.metric) (and_decides _ _ (numbers_in_options a.via b.via)
    (and_decides _ _ (Decides-eqb a.time b.time) (booleans_Decides a.changed b.changed)))))
