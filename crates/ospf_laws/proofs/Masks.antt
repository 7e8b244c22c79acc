-- The mask of the up ports with a Full neighbour has such ports alone.
use Rattle.std.proofs.Common.{◌≡◌, ◌≢◌, ◌⊎◌, inl, inr, ℕ, suc, true, false, ◌&&◌, ◌==◌, ◌+◌, ◌*◌, ◌%◌, ◌^◌, ◌<◌, List, [], ◌∷◌, sym, ap, subst, ◌∙◌, arith}
use Rattle.std.specs.Prelude.{bit_or, nat_lt, slice_index_or}
use Rattle.std.specs.Int.{w16, bit_at}
use Rattle.std.proofs.lemmas.Bool.{cases_Bool}
use Rattle.std.proofs.lemmas.Bool.Decides.{Decides-eqb, nat_tests}
use Rattle.std.proofs.lemmas.Nat.Bits.{bit_at-zero, bit_at_set_other}
use Rattle.std.proofs.Math.Pow.{pow-lt}
use Rattle.dn_guest.specs.Ports.{is_up, with_up}
use Rattle.ospf_router.specs.declared.neighbour.Neighbour.TheVariants.{Down}
use Rattle.ospf_router.specs.declared.interfaces.Port.{Port}
use Rattle.ospf_router.specs.Interfaces.{AtPorts, full_from, full_mask}
use Rattle.ospf_router.specs.Neighbours.{is_full}
use Rattle.ospf_laws.proofs.Choice.{and_true, choose}

-- the neighbour at the port is Full
abbrev pub FullAt : List Port → ℕ → Type 0
FullAt xs p = is_full (slice_index_or xs p (record { cost = 0; neighbour = Down })).neighbour ≡ true

-- the mask has only ports with a Full neighbour
abbrev pub Covers : ℕ → List Port → Type 0
Covers mask xs = (p : ℕ) → is_up mask p ≡ true → FullAt xs p

none_up : (j : ℕ) → is_up 0 j ≡ true → ⊥
none_up j up =
    let one : bit_at 0 j ≡ 1 = (Decides-eqb (bit_at 0 j) 1).0 (and_true (nat_lt j 16) (bit_at 0 j == 1) up).1 in
    omega (arith, one, bit_at-zero j)

pub small_power : (k : ℕ) → k < 16 → 1 * 2 ^ k % 65536 ≡ 2 ^ k
small_power k few =
    let less : 2 ^ k < 65536 = pow-lt few in
    omega (arith, less)

pub lt_by : (j : ℕ) → nat_lt j 16 ≡ true → j < 16
lt_by j t = grind (arith, nat_tests)

-- a port that is up after another was set up was up before
up_before : (mask q j : ℕ) → q ≢ j → is_up (with_up mask q) j ≡ true → is_up mask j ≡ true
up_before mask q j differ =
    choose (λ (m : ℕ). is_up m j ≡ true → is_up mask j ≡ true) (nat_lt q 16) (bit_or mask (2 ^ q)) mask
    (λ t up.
    let few = lt_by q t in
    let same : bit_at (bit_or mask (1 * 2 ^ q % 65536)) j ≡ bit_at mask j = bit_at_set_other w16 mask q few j (λ e. differ (sym e)) in
    let bits : bit_at (bit_or mask (2 ^ q)) j ≡ bit_at mask j = ap (λ (k : ℕ). bit_at (bit_or mask k) j) (sym (small_power q few)) ∙ same in
    ap (λ (b : ℕ). nat_lt j 16 && (b == 1)) (sym bits) ∙ up)
    (λ _ up. up)

-- port j is number p from q on, and has a Full neighbour there
record IsFrom (q : ℕ) (xs : List Port) (j : ℕ) : Type 0 where
  number : ℕ
  place : j ≡ q + number
  full : FullAt xs number

later : (q : ℕ) (x : Port) (xs : List Port) (j : ℕ) → IsFrom (q + 1) xs j → IsFrom q (x ∷ xs) j
later q x xs j is = record { number = suc is.number; place = omega (arith, is.place); full = is.full }

pub first_or : (q j : ℕ) → (q ≡ j) ⊎ (q ≢ j)
first_or q j = elim (cases_Bool (q == j)) [
  | inl t ↦ inl ((Decides-eqb q j).0 t)
  | inr f ↦ inr (λ e. let t : (q == j) ≡ true = (Decides-eqb q j).1 e in let both : true ≡ false = sym t ∙ f in absurd cc)
]

up_from : (q ports : ℕ) (xs : List Port) (j : ℕ) → is_up (full_from q ports xs) j ≡ true → IsFrom q xs j
up_from q ports [] j = λ up. absurd (none_up j up)
up_from q ports (x ∷ xs) j =
    choose (λ (m : ℕ). is_up m j ≡ true → IsFrom q (x ∷ xs) j) (is_up ports q && is_full x.neighbour) (with_up (full_from (q + 1) ports xs) q) (full_from (q + 1) ports xs)
    (λ t up. elim (first_or q j) [
      | inl same ↦ record { number = 0; place = omega (arith, same); full = (and_true (is_up ports q) (is_full x.neighbour) t).1 }
      | inr differ ↦ later q x xs j (up_from (q + 1) ports xs j (up_before (full_from (q + 1) ports xs) q j differ up))
    ])
    (λ _ up. later q x xs j (up_from (q + 1) ports xs j up))

pub covers-full_mask : (ports : ℕ) (a : AtPorts) → Covers (full_mask ports a) a.ports
unfolding full_mask
covers-full_mask ports a = λ p up.
    let is = up_from 0 ports a.ports p up in
    let same : is.number ≡ p = omega (arith, is.place) in
    subst (FullAt a.ports) same is.full
