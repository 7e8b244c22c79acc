use Rattle.std.proofs.Common.{◌≡◌, ◌-◌, ◌*◌, ◌^◌, ◌%◌, ◌<◌, ap, ◌∙◌, inl, inr, arith}
use Rattle.std.specs.Int.{bit_at}
use Rattle.std.proofs.lemmas.Bool.{cases_eq}
use Rattle.std.proofs.Math.Pow.{pow-lt}
use Rattle.std.proofs.Math.Nat.{mod-eq_of_lt}
use Rattle.std.proofs.lemmas.Nat.Bits.{bit_at-pow_same, bit_at-pow_other}
use Rattle.ospf_spf.proofs.ports.port_bit.Goals as goal

pub returns-then-port-le16 : goal.returns-then-port-le16
returns-then-port-le16 c q l =
    let k = c.args.port - 1 in
    let e : 1 * 2 ^ k % 65536 ≡ 2 ^ k = (let m : k < 16 = (let a = c.if-port-le16.true in let b = c.if-port-ge1.true in omega arith) in let lt : 2 ^ k < 2 ^ 16 = pow-lt m in let o : 1 * 2 ^ k ≡ 2 ^ k = omega arith in ap (λ n. n % 65536) o ∙ mod-eq_of_lt lt) in (
      λ h. elim (cases_eq q k) [
        | inl x ↦ omega arith
        | inr ne ↦ absurd (let z = bit_at-pow_other k q ne in let y : bit_at (1 * 2 ^ k % 65536) q ≡ 0 = ap (λ n. bit_at n q) e ∙ z in omega arith)
      ],
      λ h. (let x : q ≡ k = omega arith in ap (λ n. bit_at n q) e ∙ ap (λ i. bit_at (2 ^ k) i) x ∙ bit_at-pow_same k),
    )
