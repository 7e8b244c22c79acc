use Rattle.std.proofs.Common.{◌≡◌, ◌<◌, length, map, refl, sym, ap, ◌∙◌, subst, arith}
use Rattle.dn_fabric.proofs.Calls.{on_err_all}
use Rattle.dn_router.specs.Routers.{rolled_back, unsent}
use Rattle.dn_world.specs.declared.step.Step.TheVariants.{RollBack}
use Rattle.dn_world.specs.Steps.{after}
use Rattle.dn_world.specs.World.{is_behind, part}
use Rattle.dn_fabric.specs.Fabrics.{IsNetworkOf}
use Rattle.dn_fabric.specs.Holds.{IsWhole}
use Rattle.dn_fabric.proofs.Errands.{read_is, within}
use Rattle.dn_fabric.proofs.Turns.{RollsBack, live_of, rolled_is, world_of}
use Rattle.dn_fabric.proofs.Whole.{err_fact, guests_set, marked_err, marked_ok, ok_fact, ok_value, part_at, through, through_err, whole_set}
use Rattle.dn_fabric.proofs.world.World.roll_back.Goals as goal

pub roll_back-unsent-requires-clause-inside : goal.roll_back-unsent-requires-clause-inside
roll_back-unsent-requires-clause-inside g c κs within =
    let n = ap (λ v. length v.header.routers) c.self.view_is in
    omega (arith, c.from.ensures, c.requires.inside, c.self.invariant.count, n)

pub roll_back-unsent-requires-clause-behind : goal.roll_back-unsent-requires-clause-behind
roll_back-unsent-requires-clause-behind g c κs below = λ s at.
    let a = c.self.inside in
    let rs = a.routers in
    let i = c.from.result in
    let w = world_of rs a.flight a.floor a.closed a.accepted.items a.boundary in
    ap is_behind (part_at w rs i s refl (within rs i s at) (read_is rs i s at))
    ∙ ap (λ j. is_behind (part w j)) c.from.ensures
    ∙ ap (λ v. is_behind (part v.world c.args.router)) c.self.view_is
    ∙ c.requires.behind

pub invariant_of-self : goal.invariant_of-self
invariant_of-self g c =
    let a = c.self.inside in
    let rs = a.routers in
    let i = c.from.result in
    let did = c.roll_back-unsent.ensures in
    let s = did.0 in
    let new = did.1 in
    let at = read_is rs c.from.result s did.2.from in
    let n = ap (λ v. length v.header.routers) c.self.view_is in
    let l : i < length rs = omega (arith, c.from.ensures, c.requires.inside, c.self.invariant.count, n) in
    let lost = err_fact c.roll_back-unsent.result _ (sym c.marking.ensures.same ∙ c.in_err-unsent.was) did.5 in
    subst (λ l. IsWhole a.header l a.boundary a.rows.items a.cut c.marking.new.stopped) (sym did.2.to)
    (whole_set a.header rs a.boundary a.rows.items a.cut a.stopped c.marking.new.stopped i s new c.self.invariant l at lost
    (λ e. ap (λ v. v.stopped) c.self.view_is ∙ c.requires.running))

pub returns-in_err-unsent-clause-err : goal.returns-in_err-unsent-clause-err
returns-in_err-unsent-clause-err g c =
    let a = c.self.inside in
    let rs = a.routers in
    let did = c.roll_back-unsent.ensures in
    let s = did.0 in
    let new = did.1 in
    let at = read_is rs c.from.result s did.2.from in
    let lost = err_fact c.roll_back-unsent.result _ (sym c.marking.ensures.same ∙ c.in_err-unsent.was) did.5 in
    on_err_all c.from_residual.result
    (record {
      stopped = marked_err c.roll_back-unsent.result _ a.stopped c.marking.new.stopped (sym c.marking.ensures.same ∙ c.in_err-unsent.was) c.marking.ensures.mark;
      header = ap (λ v. v.header) c.self.view_is;
      openings = ap (λ l. map (λ r. r.opening.guest) l) did.2.to ∙ guests_set rs c.from.result s new at lost ∙ ap (λ v. v.openings) c.self.view_is;
    })

pub invariant_of-self-2 : goal.invariant_of-self-2
invariant_of-self-2 g c =
    let a = c.self.inside in
    let rs = a.routers in
    let i = c.from.result in
    let did = c.roll_back-unsent.ensures in
    let s = did.0 in
    let new = did.1 in
    let at = read_is rs c.from.result s did.2.from in
    let n = ap (λ v. length v.header.routers) c.self.view_is in
    let l : i < length rs = omega (arith, c.from.ensures, c.requires.inside, c.self.invariant.count, n) in
    let is = ok_fact c.roll_back-unsent.result c.in_ok-unsent.unsent (sym c.marking.ensures.same ∙ c.in_ok-unsent.was) did.3 in
    subst (λ l. IsWhole a.header l a.boundary a.rows.items a.cut c.marking-2.new.stopped) (sym did.2.to)
    (whole_set a.header rs a.boundary a.rows.items a.cut a.stopped c.marking-2.new.stopped i s new c.self.invariant l at (record { part = rolled_back s.part; is = is })
    (λ e. ap (λ v. v.stopped) c.self.view_is ∙ c.requires.running))

pub returns-clause-ok : goal.returns-clause-ok
returns-clause-ok g c = λ net of.
    let a = c.self.inside in
    let m = g.G.Guest.meaning in
    let rs = a.routers in
    let i = c.from.result in
    let did = c.roll_back-unsent.ensures in
    let s = did.0 in
    let new = did.1 in
    let at = read_is rs c.from.result s did.2.from in
    let events = c.in_ok-unsent.unsent in
    let n = ap (λ v. length v.header.routers) c.self.view_is in
    let l : i < length rs = omega (arith, c.from.ensures, c.requires.inside, c.self.invariant.count, n) in
    let was = sym c.marking.ensures.same ∙ c.in_ok-unsent.was in
    let is = ok_fact c.roll_back-unsent.result events was did.3 in
    let out = ok_value (λ es. es.items ≡ unsent m s) c.roll_back-unsent.result events was did.4 in
    let still = marked_ok c.roll_back-unsent.result events a.stopped c.marking.new.stopped was c.marking.ensures.mark in
    let whole = c.self.invariant in
    let of_inside = subst (λ v. IsNetworkOf net m v.header v.openings) (sym c.self.view_is) of in
    let tied : RollsBack net i =
    record {
      node = λ es. c.of_a_network.ensures.node net i es;
      sent = λ node es own. c.of_a_network.ensures.sent net i node es own;
      own = λ p own. c.replays.ensures.own net p i own;
    } in
    through c.send-sent.result c.marking-2.result c.marking.new.stopped c.marking-2.new.stopped c.marking-2.ensures.same c.marking-2.ensures.mark c.send-sent.ensures
    (λ sent mark.
    ap (λ l. live_of a.header l (world_of l c.send-sent.new.self a.floor a.closed a.accepted.items a.boundary) a.rows.items a.cut c.marking-2.new.stopped) did.2.to
    ∙ rolled_is net m a.header rs a.flight a.floor a.closed a.accepted.items a.boundary a.rows.items a.cut a.stopped whole of_inside i l s at tied events.items new c.send-sent.new.self c.marking-2.new.stopped is out did.6 sent (mark ∙ still)
    ∙ (λ j. record (c.self.view_is j) { world = after net (c.self.view_is j).world (RollBack (c.from.ensures j)) }))

pub returns-clause-err : goal.returns-clause-err
returns-clause-err g c =
    let a = c.self.inside in
    let rs = a.routers in
    let did = c.roll_back-unsent.ensures in
    let s = did.0 in
    let new = did.1 in
    let at = read_is rs c.from.result s did.2.from in
    let is = ok_fact c.roll_back-unsent.result c.in_ok-unsent.unsent (sym c.marking.ensures.same ∙ c.in_ok-unsent.was) did.3 in
    through_err c.send-sent.result c.marking-2.result c.marking.new.stopped c.marking-2.new.stopped c.marking-2.ensures.same c.marking-2.ensures.mark
    (λ mark.
    record {
      stopped = mark;
      header = ap (λ v. v.header) c.self.view_is;
      openings = ap (λ l. map (λ r. r.opening.guest) l) did.2.to ∙ guests_set rs c.from.result s new at (record { part = rolled_back s.part; is = is }) ∙ ap (λ v. v.openings) c.self.view_is;
    })
