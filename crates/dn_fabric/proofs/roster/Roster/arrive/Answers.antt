use Rattle.std.proofs.Common.{◌≡◌, ◌<◌, length, set, refl, ap, ◌∙◌, arith}
use Rattle.std.specs.Prelude.{slice_get}
use Rattle.std.proofs.lemmas.Option.{slice_get_read}
use Rattle.dn_world.specs.Steps.{arrived}
use Rattle.dn_fabric.proofs.Arrivals.{given, set_same}
use Rattle.dn_fabric.proofs.Calls.{on_ok}
use Rattle.dn_fabric.proofs.Errands.{looked_at, on_err, same_at}
use Rattle.dn_fabric.proofs.roster.Roster.arrive.Goals as goal

pub invariant_of-self : goal.invariant_of-self
invariant_of-self g c =
    let a = c.self.inside in
    let rs = a.routers.items in
    let i = c.args.number in
    let inside : i < length rs = (let n = ap length c.self.view_is in omega (arith, n, c.requires.inside)) in
    looked_at rs c.as_slice.result.now a.errands.items c.look_again.new.errands.items i c.arrive-arrived.new.self inside c.self.invariant c.as_slice.ensures.value c.look_again.ensures

pub returns-clause-ok : goal.returns-clause-ok
returns-clause-ok g c = λ s at.
    let a = c.self.inside in
    let rs = a.routers.items in
    let i = c.args.number in
    let inside : i < length rs = (let n = ap length c.self.view_is in omega (arith, n, c.requires.inside)) in
    let old = c.index_mut.result.now in
    let here = slice_get_read rs (length rs) i old refl inside c.index_mut.ensures.value in
    let same : old ≡ s = same_at rs i old s here (ap (λ l. slice_get l i) c.self.view_is ∙ at) in
    on_ok c.arrive-arrived.result c.arrive-arrived.ensures.ok
    (λ h.
    (λ j. set (c.self.view_is j) i (h j))
    ∙ ap (λ t. set c.args.self.now i (given t (arrived (record { plus = c.args.plus; event = c.args.event }) t.part))) same)

pub returns-clause-err : goal.returns-clause-err
returns-clause-err g c =
    let a = c.self.inside in
    let rs = a.routers.items in
    let i = c.args.number in
    let inside : i < length rs = (let n = ap length c.self.view_is in omega (arith, n, c.requires.inside)) in
    let old = c.index_mut.result.now in
    let here = slice_get_read rs (length rs) i old refl inside c.index_mut.ensures.value in
    on_err c.arrive-arrived.result c.arrive-arrived.ensures.err (λ h. ap (set rs i) h ∙ set_same rs i old here ∙ c.self.view_is)
