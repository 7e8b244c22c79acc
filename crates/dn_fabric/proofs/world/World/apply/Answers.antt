use Rattle.std.proofs.Common.{◌<◌, length, map, sym, ap, ◌∙◌, subst, arith}
use Rattle.dn_fabric.proofs.Calls.{on_err_all}
use Rattle.dn_router.specs.Answers.{HasApplied}
use Rattle.dn_router.specs.Routers.{IsCurrent, handled}
use Rattle.dn_world.specs.declared.step.Step.TheVariants.{Handle}
use Rattle.dn_world.specs.Steps.{after}
use Rattle.dn_fabric.specs.Fabrics.{IsNetworkOf, router_of}
use Rattle.dn_fabric.specs.Holds.{IsWhole}
use Rattle.dn_fabric.proofs.Errands.{read_is}
use Rattle.dn_fabric.proofs.Turns.{Handles, handled_is, live_of, stale_is, world_of}
use Rattle.dn_fabric.proofs.Whole.{err_fact, guests_set, marked_err, marked_ok, ok_fact, ok_value, whole_set}
use Rattle.dn_fabric.proofs.world.World.apply.Goals as goal

pub apply-applied-requires-clause-inside : goal.apply-applied-requires-clause-inside
apply-applied-requires-clause-inside g c κs within =
    let n = ap (λ v. length v.header.routers) c.self.view_is in
    omega (arith, c.requires.inside, c.self.invariant.count, n)

pub apply-applied-requires-clause-own : goal.apply-applied-requires-clause-own
apply-applied-requires-clause-own g c κs within = λ s at. (c.self.invariant.routers c.args.outcome.router s at).number

pub invariant_of-self : goal.invariant_of-self
invariant_of-self g c =
    let a = c.self.inside in
    let rs = a.routers in
    let i = c.args.outcome.router in
    let did = c.apply-applied.ensures in
    let s = did.0 in
    let new = did.1 in
    let is = read_is rs c.args.outcome.router s did.2.from in
    let n = ap (λ v. length v.header.routers) c.self.view_is in
    let l : i < length rs = omega (arith, c.requires.inside, c.self.invariant.count, n) in
    let same = err_fact c.apply-applied.result _ (sym c.marking.ensures.same ∙ c.in_err-events.was) did.4 in
    subst (λ l. IsWhole a.header l a.boundary a.rows.items a.cut c.marking.new.stopped) (sym did.2.to)
    (whole_set a.header rs a.boundary a.rows.items a.cut a.stopped c.marking.new.stopped i s new c.self.invariant l is (record { part = s.part; is = same })
    (λ e. ap (λ v. v.stopped) c.self.view_is ∙ c.requires.running))

pub returns-in_err-events-clause-err : goal.returns-in_err-events-clause-err
returns-in_err-events-clause-err g c =
    let a = c.self.inside in
    let rs = a.routers in
    let did = c.apply-applied.ensures in
    let s = did.0 in
    let new = did.1 in
    let is = read_is rs c.args.outcome.router s did.2.from in
    let was = sym c.marking.ensures.same ∙ c.in_err-events.was in
    let same = err_fact c.apply-applied.result _ was did.4 in
    on_err_all c.from_residual.result
    (record {
      stopped = marked_err c.apply-applied.result _ a.stopped c.marking.new.stopped was c.marking.ensures.mark;
      header = ap (λ v. v.header) c.self.view_is;
      openings = ap (λ l. map (λ r. r.opening.guest) l) did.2.to ∙ guests_set rs c.args.outcome.router s new is (record { part = s.part; is = same }) ∙ ap (λ v. v.openings) c.self.view_is;
    })

pub invariant_of-self-in_err-marking-in-Done : goal.invariant_of-self-in_err-marking-in-Done
invariant_of-self-in_err-marking-in-Done g c =
    let a = c.self.inside in
    let rs = a.routers in
    let i = c.args.outcome.router in
    let did = c.apply-applied.ensures in
    let s = did.0 in
    let new = did.1 in
    let is = read_is rs c.args.outcome.router s did.2.from in
    let n = ap (λ v. length v.header.routers) c.self.view_is in
    let l : i < length rs = omega (arith, c.requires.inside, c.self.invariant.count, n) in
    let was = sym c.marking.ensures.same ∙ c.in_ok-events.was in
    let any = ok_value (λ answer. HasApplied g.G.Guest.meaning s c.args.outcome answer new) c.apply-applied.result c.in_ok-events.field-0 was did.3 in
    let all = subst (λ answer. HasApplied g.G.Guest.meaning s c.args.outcome answer new) c.in-Done.is any in
    subst (λ l. IsWhole a.header l a.boundary a.rows.items a.cut c.marking-in-Done.new.stopped) (sym did.2.to)
    (whole_set a.header rs a.boundary a.rows.items a.cut a.stopped c.marking-in-Done.new.stopped i s new c.self.invariant l is (record { part = handled s.part; is = all.1 })
    (λ e. ap (λ v. v.stopped) c.self.view_is ∙ c.requires.running))

pub returns-in_err-marking-in-Done-clause-err : goal.returns-in_err-marking-in-Done-clause-err
returns-in_err-marking-in-Done-clause-err g c =
    let a = c.self.inside in
    let rs = a.routers in
    let did = c.apply-applied.ensures in
    let s = did.0 in
    let new = did.1 in
    let is = read_is rs c.args.outcome.router s did.2.from in
    let was = sym c.marking.ensures.same ∙ c.in_ok-events.was in
    let any = ok_value (λ answer. HasApplied g.G.Guest.meaning s c.args.outcome answer new) c.apply-applied.result c.in_ok-events.field-0 was did.3 in
    let all = subst (λ answer. HasApplied g.G.Guest.meaning s c.args.outcome answer new) c.in-Done.is any in
    on_err_all c.from_residual-in_err-marking-in-Done.result
    (record {
      stopped = marked_err c.send-sent.result _ c.marking.new.stopped c.marking-in-Done.new.stopped (sym c.marking-in-Done.ensures.same ∙ c.in_err-marking-in-Done.was) c.marking-in-Done.ensures.mark;
      header = ap (λ v. v.header) c.self.view_is;
      openings = ap (λ l. map (λ r. r.opening.guest) l) did.2.to ∙ guests_set rs c.args.outcome.router s new is (record { part = handled s.part; is = all.1 }) ∙ ap (λ v. v.openings) c.self.view_is;
    })

pub invariant_of-self-in-Done : goal.invariant_of-self-in-Done
invariant_of-self-in-Done g c =
    let a = c.self.inside in
    let rs = a.routers in
    let i = c.args.outcome.router in
    let did = c.apply-applied.ensures in
    let s = did.0 in
    let new = did.1 in
    let is = read_is rs c.args.outcome.router s did.2.from in
    let n = ap (λ v. length v.header.routers) c.self.view_is in
    let l : i < length rs = omega (arith, c.requires.inside, c.self.invariant.count, n) in
    let was = sym c.marking.ensures.same ∙ c.in_ok-events.was in
    let any = ok_value (λ answer. HasApplied g.G.Guest.meaning s c.args.outcome answer new) c.apply-applied.result c.in_ok-events.field-0 was did.3 in
    let all = subst (λ answer. HasApplied g.G.Guest.meaning s c.args.outcome answer new) c.in-Done.is any in
    subst (λ l. IsWhole a.header l a.boundary a.rows.items a.cut c.marking-in-Done.new.stopped) (sym did.2.to)
    (whole_set a.header rs a.boundary a.rows.items a.cut a.stopped c.marking-in-Done.new.stopped i s new c.self.invariant l is (record { part = handled s.part; is = all.1 })
    (λ e. ap (λ v. v.stopped) c.self.view_is ∙ c.requires.running))

pub invariant_of-self-in-Stale : goal.invariant_of-self-in-Stale
invariant_of-self-in-Stale g c =
    let a = c.self.inside in
    let rs = a.routers in
    let i = c.args.outcome.router in
    let did = c.apply-applied.ensures in
    let s = did.0 in
    let new = did.1 in
    let is = read_is rs c.args.outcome.router s did.2.from in
    let n = ap (λ v. length v.header.routers) c.self.view_is in
    let l : i < length rs = omega (arith, c.requires.inside, c.self.invariant.count, n) in
    let was = sym c.marking.ensures.same ∙ c.in_ok-events.was in
    let any = ok_value (λ answer. HasApplied g.G.Guest.meaning s c.args.outcome answer new) c.apply-applied.result c.in_ok-events.field-0 was did.3 in
    let all = subst (λ answer. HasApplied g.G.Guest.meaning s c.args.outcome answer new) c.in-Stale.is any in
    subst (λ l. IsWhole a.header l a.boundary a.rows.items a.cut c.marking.new.stopped) (sym did.2.to)
    (whole_set a.header rs a.boundary a.rows.items a.cut a.stopped c.marking.new.stopped i s new c.self.invariant l is (record { part = s.part; is = all.1 })
    (λ e. ap (λ v. v.stopped) c.self.view_is ∙ c.requires.running))

pub returns-in_ok-marking-in-Done-clause-ok : goal.returns-in_ok-marking-in-Done-clause-ok
returns-in_ok-marking-in-Done-clause-ok g c = λ net of.
    let a = c.self.inside in
    let rs = a.routers in
    let i = c.args.outcome.router in
    let did = c.apply-applied.ensures in
    let s = did.0 in
    let new = did.1 in
    let is = read_is rs c.args.outcome.router s did.2.from in
    let n = ap (λ v. length v.header.routers) c.self.view_is in
    let l : i < length rs = omega (arith, c.requires.inside, c.self.invariant.count, n) in
    let was = sym c.marking.ensures.same ∙ c.in_ok-events.was in
    let any = ok_value (λ answer. HasApplied g.G.Guest.meaning s c.args.outcome answer new) c.apply-applied.result c.in_ok-events.field-0 was did.3 in
    let m = g.G.Guest.meaning in
    let all = subst (λ answer. HasApplied m s c.args.outcome answer new) c.in-Done.is any in
    let still = marked_ok c.apply-applied.result _ a.stopped c.marking.new.stopped was c.marking.ensures.mark in
    let sent_was = sym c.marking-in-Done.ensures.same ∙ c.in_ok-marking-in-Done.was in
    let mark = marked_ok c.send-sent.result _ c.marking.new.stopped c.marking-in-Done.new.stopped sent_was c.marking-in-Done.ensures.mark in
    let sent = ok_fact c.send-sent.result _ sent_was c.send-sent.ensures in
    let of_inside = subst (λ v. IsNetworkOf net m v.header v.openings) (sym c.self.view_is) of in
    let tied : Handles net i = record { node = λ es. c.of_a_network.ensures.node net i es; emits = λ es e h. c.of_a_network.ensures.emits net i es e h } in
    let made = handled_is net m a.header rs a.flight a.floor a.closed a.accepted.items a.boundary a.rows.items a.cut a.stopped c.self.invariant of_inside i l s is tied c.args.outcome c.in-Done.events.items new c.send-sent.new.self c.marking-in-Done.new.stopped all.0 all.1 all.2 all.3 sent (mark ∙ still) in (
      subst (λ v. IsCurrent net.guests (router_of net v.world i) c.args.outcome) c.self.view_is made.0,
      ap (λ l. live_of a.header l (world_of l c.send-sent.new.self a.floor a.closed a.accepted.items a.boundary) a.rows.items a.cut c.marking-in-Done.new.stopped) did.2.to
          ∙ made.1 ∙ (λ j. record (c.self.view_is j) { world = after net (c.self.view_is j).world (Handle i) }),
    )

pub returns-in-Stale-clause-ok : goal.returns-in-Stale-clause-ok
returns-in-Stale-clause-ok g c = λ net of.
    let a = c.self.inside in
    let rs = a.routers in
    let i = c.args.outcome.router in
    let did = c.apply-applied.ensures in
    let s = did.0 in
    let new = did.1 in
    let is = read_is rs c.args.outcome.router s did.2.from in
    let n = ap (λ v. length v.header.routers) c.self.view_is in
    let l : i < length rs = omega (arith, c.requires.inside, c.self.invariant.count, n) in
    let was = sym c.marking.ensures.same ∙ c.in_ok-events.was in
    let any = ok_value (λ answer. HasApplied g.G.Guest.meaning s c.args.outcome answer new) c.apply-applied.result c.in_ok-events.field-0 was did.3 in
    let m = g.G.Guest.meaning in
    let all = subst (λ answer. HasApplied m s c.args.outcome answer new) c.in-Stale.is any in
    let still = marked_ok c.apply-applied.result _ a.stopped c.marking.new.stopped was c.marking.ensures.mark in
    let of_inside = subst (λ v. IsNetworkOf net m v.header v.openings) (sym c.self.view_is) of in
    let made = stale_is net m a.header rs a.flight a.floor a.closed a.accepted.items a.boundary a.rows.items a.cut a.stopped c.self.invariant of_inside i l s is c.args.outcome new c.marking.new.stopped all.0 all.1 still in (
      subst (λ v. IsCurrent net.guests (router_of net v.world i) c.args.outcome → ⊥) c.self.view_is made.0,
      ap (λ l. live_of a.header l (world_of l a.flight a.floor a.closed a.accepted.items a.boundary) a.rows.items a.cut c.marking.new.stopped) did.2.to ∙ made.1 ∙ c.self.view_is,
    )
