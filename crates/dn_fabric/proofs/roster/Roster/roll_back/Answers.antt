use Rattle.std.proofs.Common.{◌<◌, length, set, refl, sym, ap, ◌∙◌, arith}
use Rattle.std.specs.Prelude.{slice_get}
use Rattle.std.proofs.lemmas.Option.{slice_get_read}
use Rattle.dn_fabric.proofs.Errands.{looked_at}
use Rattle.dn_fabric.proofs.roster.Roster.roll_back.Goals as goal

pub invariant_of-self : goal.invariant_of-self
invariant_of-self g c =
    let a = c.self.inside in
    let rs = a.routers.items in
    let i = c.args.number in
    let inside : i < length rs = (let n = ap length c.self.view_is in omega (arith, n, c.requires.inside)) in
    looked_at rs c.as_slice.result.now a.errands.items c.look_again.new.errands.items i c.roll_back-unsent.new.self inside c.self.invariant c.as_slice.ensures.value c.look_again.ensures

pub returns : goal.returns
returns g c =
    let a = c.self.inside in
    let rs = a.routers.items in
    let i = c.args.number in
    let inside : i < length rs = (let n = ap length c.self.view_is in omega (arith, n, c.requires.inside)) in
    let old = c.index_mut.result.now in
    let new = c.roll_back-unsent.new.self in
    let here = slice_get_read rs (length rs) i old refl inside c.index_mut.ensures.value in (
      old,
      new,
      record { from = ap (λ l. slice_get l i) (sym c.self.view_is) ∙ here; to = ap (λ l. set l i new) c.self.view_is },
      c.roll_back-unsent.ensures.part,
      c.roll_back-unsent.ensures.unsent,
      c.roll_back-unsent.ensures.err,
      c.roll_back-unsent.ensures.own,
    )
