use Rattle.std.proofs.Common.{◌≡◌, ◌==◌, ◌≢◌, ℕ, Bool, true, false, cond, Option, Some, None, refl, sym, ap, ◌∙◌}
use Rattle.std.specs.Int.{w32, leading_ones}
use Rattle.std.proofs.lemmas.Bool.{eq-eqb, eqb-true}
use Rattle.dn_net.specs.Networks.{mask_of}
use Rattle.dn_net.proofs.MaskLaws.{len_is}
use Rattle.dn_net.proofs.networks.mask_len.Goals as goal

chosen : (b : Bool) (x : Option ℕ) → b ≡ true → cond b x None ≡ x
chosen true x e = refl
chosen false x e = absurd cc

refused : (b : Bool) (x : Option ℕ) → b ≢ true → cond b x None ≡ None
refused true x differs = absurd (differs refl)
refused false x differs = refl

pub returns-then-mask_of-mask : goal.returns-then-mask_of-mask
returns-then-mask_of-mask c =
    let m = c.args.mask in
    let len : c.leading_ones-len.result ≡ leading_ones w32 m = c.leading_ones-len.ensures in
    let same : mask_of (leading_ones w32 m) ≡ m = ap mask_of (sym len) ∙ sym c.mask_of.ensures ∙ c.if-mask_of-mask.true in
    ap (λ (x : ℕ). Some x) len ∙ sym (chosen (mask_of (leading_ones w32 m) == m) (Some (leading_ones w32 m)) (eq-eqb (mask_of (leading_ones w32 m)) m same)) ∙ sym (len_is m)

pub returns-else-mask_of-mask : goal.returns-else-mask_of-mask
returns-else-mask_of-mask c =
    let m = c.args.mask in
    let len : c.leading_ones-len.result ≡ leading_ones w32 m = c.leading_ones-len.ensures in
    let other : (mask_of (leading_ones w32 m) == m) ≢ true = λ e. c.if-mask_of-mask.false (c.mask_of.ensures ∙ ap mask_of len ∙ eqb-true (mask_of (leading_ones w32 m)) m e) in
    sym (refused (mask_of (leading_ones w32 m) == m) (Some (leading_ones w32 m)) other) ∙ sym (len_is m)
