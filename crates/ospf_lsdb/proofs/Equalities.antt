-- What `==` of two databases says: they are equal.
use Rattle.std.proofs.Common.{◌≡◌, ℕ, Bool, true, false, ◌&&◌, refl, ap}
use Rattle.std.specs.Prelude.{Option, Some, None, nat_eq}
use Rattle.std.specs.Option.{option_eq}
use Rattle.std.specs.Bool.{Decides}
use Rattle.std.specs.Cmp.{booleans_Decides}
use Rattle.std.specs.Cmp.Lexicographic.{bytes_decides}
use Rattle.std.proofs.lemmas.Bool.{both_ways}
use Rattle.std.proofs.lemmas.Bool.Decides.{Decides-eqb}
use Rattle.std.proofs.lemmas.Option.{same_Some}
use Rattle.ospf_wire.specs.declared.lsa.Lsa.{Lsa}
use Rattle.ospf_wire.specs.declared.lsa.LsaHeader.{LsaHeader}
use Rattle.ospf_wire.specs.contracts.lsa.LsaHeaderPartialEq.TheImpl as headers
use Rattle.ospf_wire.specs.contracts.lsa.LsaPartialEq.TheImpl as lsas
use Rattle.ospf_lsdb.specs.declared.key.LsaKey.{LsaKey}
use Rattle.ospf_lsdb.specs.declared.kept.Kept.{Kept}
use Rattle.ospf_lsdb.specs.contracts.key.LsaKeyPartialEq.TheImpl as keys
use Rattle.ospf_lsdb.specs.contracts.kept.KeptPartialEq.TheImpl as values

-- two tests in a row decide both facts
and_decides : {P Q : Type 0} (x y : Bool) → Decides x P → Decides y Q → Decides (x && y) (P × Q)
and_decides true y p q = (λ e. (p.0 refl, q.0 e), λ h. q.1 h.1)
and_decides false y p q = (λ e. absurd cc, λ h. absurd (both_ways false refl (p.1 h.0)))

-- a test decides a fact that says the same
along : {P Q : Type 0} (x : Bool) → (P → Q) → (Q → P) → Decides x P → Decides x Q
along x there back d = (λ e. there (d.0 e), λ h. d.1 (back h))

numbers_in_options : (x y : Option ℕ) → Decides (option_eq nat_eq x y) (x ≡ y)
numbers_in_options None None = (λ _. refl, λ _. refl)
numbers_in_options None (Some b) = (λ e. absurd cc, λ e. absurd cc)
numbers_in_options (Some a) None = (λ e. absurd cc, λ e. absurd cc)
numbers_in_options (Some a) (Some b) =
    let d = Decides-eqb a b in
    (λ e. ap (λ (n : ℕ). Some n) (d.0 e), λ e. d.1 (same_Some a b e))

pub keys_decide : (a b : LsaKey) → Decides (keys.ghosts.eq a b) (a ≡ b)
keys_decide a b =
    along _ (λ h. λ i. record { kind = h.0 i; id = h.1.0 i; router = h.1.1 i }) (λ e. (ap (λ (k : LsaKey). k.kind) e, (ap (λ (k : LsaKey). k.id) e, ap (λ (k : LsaKey). k.router) e)))
    (and_decides _ _ (Decides-eqb a.kind b.kind) (and_decides _ _ (Decides-eqb a.id b.id) (Decides-eqb a.router b.router)))

headers_decide : (a b : LsaHeader) → Decides (headers.ghosts.eq a b) (a ≡ b)
headers_decide a b =
    along _
    (λ h. λ i. record { age = h.0 i; options = h.1.0 i; kind = h.1.1.0 i; id = h.1.1.1.0 i; router = h.1.1.1.1.0 i; seq = h.1.1.1.1.1.0 i; sum = h.1.1.1.1.1.1.0 i; length = h.1.1.1.1.1.1.1 i })
    (λ e. (
      ap (λ (k : LsaHeader). k.age) e,
      (
        ap (λ (k : LsaHeader). k.options) e,
        (
          ap (λ (k : LsaHeader). k.kind) e,
          (
            ap (λ (k : LsaHeader). k.id) e,
            (ap (λ (k : LsaHeader). k.router) e, (ap (λ (k : LsaHeader). k.seq) e, (ap (λ (k : LsaHeader). k.sum) e, ap (λ (k : LsaHeader). k.length) e))),
          ),
        ),
      ),
    ))
    (and_decides _ _ (Decides-eqb a.age b.age) (and_decides _ _ (Decides-eqb a.options b.options) (and_decides _ _ (Decides-eqb a.kind b.kind) (and_decides _ _ (Decides-eqb a.id b.id)
    (and_decides _ _ (Decides-eqb a.router b.router) (and_decides _ _ (Decides-eqb a.seq b.seq) (and_decides _ _ (Decides-eqb a.sum b.sum) (Decides-eqb a.length b.length))))))))

lsas_decide : (a b : Lsa) → Decides (lsas.ghosts.eq a b) (a ≡ b)
lsas_decide a b =
    along _ (λ h. λ i. record { head = h.0 i; body = h.1 i }) (λ e. (ap (λ (k : Lsa). k.head) e, ap (λ (k : Lsa). k.body) e))
    (and_decides _ _ (headers_decide a.head b.head) (bytes_decides a.body b.body))

pub values_decide : (a b : Kept) → Decides (values.ghosts.eq a b) (a ≡ b)
values_decide a b =
    along _ (λ h. λ i. record { lsa = h.0 i; installed = h.1.0 i; flooded = h.1.1.0 i; sent = h.1.1.1.0 i; foreign = h.1.1.1.1 i })
    (λ e. (ap (λ (k : Kept). k.lsa) e, (ap (λ (k : Kept). k.installed) e, (ap (λ (k : Kept). k.flooded) e, (ap (λ (k : Kept). k.sent) e, ap (λ (k : Kept). k.foreign) e)))))
    (and_decides _ _ (lsas_decide a.lsa b.lsa) (and_decides _ _ (Decides-eqb a.installed b.installed) (and_decides _ _ (booleans_Decides a.flooded b.flooded)
    (and_decides _ _ (numbers_in_options a.sent b.sent) (booleans_Decides a.foreign b.foreign)))))
