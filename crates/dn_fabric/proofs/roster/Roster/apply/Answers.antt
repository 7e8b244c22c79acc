use Rattle.std.proofs.Common.{◌<◌, length, set, refl, sym, ap, ◌∙◌, arith}
use Rattle.std.specs.Prelude.{slice_get}
use Rattle.std.proofs.lemmas.Option.{slice_get_read}
use Rattle.dn_fabric.proofs.Errands.{looked_at}
use Rattle.dn_fabric.proofs.roster.Roster.apply.Goals as goal

pub invariant_of-self : goal.invariant_of-self
invariant_of-self g c =
    let a = c.self.inside in
    let rs = a.routers.items in
    let i = c.from-number.result in
    let inside : i < length rs = (let n = ap length c.self.view_is in let place = c.from-number.ensures ∙ c.router.ensures in omega (arith, n, c.requires.inside, place)) in
    looked_at rs c.as_slice.result.now a.errands.items c.look_again.new.errands.items i c.apply-applied.new.self inside c.self.invariant c.as_slice.ensures.value c.look_again.ensures

pub returns : goal.returns
returns g c =
    let a = c.self.inside in
    let rs = a.routers.items in
    let i = c.from-number.result in
    let inside : i < length rs = (let n = ap length c.self.view_is in let place = c.from-number.ensures ∙ c.router.ensures in omega (arith, n, c.requires.inside, place)) in
    let place = c.from-number.ensures ∙ c.router.ensures in
    let old = c.index_mut.result.now in
    let new = c.apply-applied.new.self in
    let here = slice_get_read rs (length rs) i old refl inside c.index_mut.ensures.value in (
      old,
      new,
      record { from = (λ j. slice_get (sym c.self.view_is j) (sym place j)) ∙ here; to = λ j. set (c.self.view_is j) (place j) new },
      c.apply-applied.ensures.applied,
      c.apply-applied.ensures.err,
    )
