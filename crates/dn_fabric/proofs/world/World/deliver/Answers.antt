use Rattle.std.proofs.Common.{◌≡◌, ℕ, ◌<◌, ◌≤◌, false, length, sym, ap, ◌∙◌, subst, arith}
use Rattle.std.specs.Prelude.{Some, slice_get, is_ok}
use Rattle.dn_model.specs.declared.key.Key.{Key}
use Rattle.dn_world.specs.Steps.{arrived, deliver}
use Rattle.dn_world.specs.Runs.{IsPast}
use Rattle.dn_fabric.specs.Fabrics.{Live}
use Rattle.dn_fabric.proofs.Arrivals.{before_whole, before_guests, marked, ok_marked, err_marked, seen, delivered_to, vanished, halted}
use Rattle.dn_fabric.proofs.Errands.{there, given_either}
use Rattle.dn_fabric.proofs.world.World.deliver.Goals as goal

abbrev after_deliver : {S : Type 0} → ℕ → Live S → Live S
after_deliver place l = record l { world = deliver l.world place (slice_get l.world.flight place) }

pub returns-then-router-len-clause-ok : goal.returns-then-router-len-clause-ok
returns-then-router-len-clause-ok g c =
    let i = c.self.inside in
    let rs = c.self.inside.routers in
    let k = c.take-packet.result in
    let place = c.args.place in
    let rest = c.take-packet.ensures.rest in
    let past : length rs ≤ k.event.router = (let a = c.if-router-len.true in let b = c.from-router.ensures in let d = c.len.ensures in omega (arith, a, b, d)) in
    (λ j. seen i.header rs (rest j) i.floor i.closed i.accepted.items i.boundary i.rows.items i.cut i.stopped)
    ∙ vanished i.header rs i.flight i.floor i.closed i.accepted.items i.boundary i.rows.items i.cut i.stopped place k past c.take-packet.ensures.packet
    ∙ ap (after_deliver place) c.self.view_is

pub arrive-arrived-requires-clause-own : goal.arrive-arrived-requires-clause-own
arrive-arrived-requires-clause-own g c κs within = λ s at.
    sym ((c.self.invariant.routers c.from-router.result s at).number ∙ c.from-router.ensures)

pub arrive-arrived-requires-clause-past : goal.arrive-arrived-requires-clause-past
arrive-arrived-requires-clause-past g c κs within = λ s at.
    let r = c.from-router.result in
    let live = c.args.self.now in
    let k = c.take-packet.result in
    let place = c.args.place in
    let run : c.self.inside.stopped ≡ false = ap (λ l. l.stopped) c.self.view_is ∙ c.requires.running in
    let bound : s.bound ≡ live.world.boundary = c.self.invariant.bounds run r s at ∙ ap (λ l. l.world.boundary) c.self.view_is in
    let packet : slice_get live.world.flight place ≡ Some k = ap (λ l. slice_get l.world.flight place) (sym c.self.view_is) ∙ c.take-packet.ensures.packet in
    subst (λ (b : Key). IsPast b k.event.key) (sym bound) (c.waiting.ensures.flying live.world.boundary live.world place k c.requires.past packet)

pub invariant_of-self-2 : goal.invariant_of-self-2
invariant_of-self-2 g c =
    let rs = c.self.inside.routers in
    let r = c.from-router.result in
    let inside : r < length rs = (let a = c.if-router-len.false in let d = c.len.ensures in omega (arith, a, d)) in
    let found = there rs r inside in
    let before = given_either rs c.arrive-arrived.new.self r found.0 (arrived c.take-packet.result found.0.part) c.arrive-arrived.result found.1 (c.arrive-arrived.ensures.ok found.0 found.1) c.arrive-arrived.ensures.err in
    before_whole c.self.inside.header rs c.arrive-arrived.new.self c.self.inside.boundary c.self.inside.rows.items c.self.inside.cut c.self.inside.stopped c.marking.new.stopped before
    (marked (is_ok c.arrive-arrived.result) c.self.inside.stopped c.marking.new.stopped c.marking.ensures.mark) c.self.invariant

pub returns-clause-ok : goal.returns-clause-ok
returns-clause-ok g c =
    let i = c.self.inside in
    let rs = c.self.inside.routers in
    let r = c.from-router.result in
    let k = c.take-packet.result in
    let place = c.args.place in
    let rest = c.take-packet.ensures.rest in
    let inside : r < length rs = (let a = c.if-router-len.false in let d = c.len.ensures in omega (arith, a, d)) in
    let found = there rs r inside in
    let s = found.0 in
    let at = found.1 in
    ok_marked c.arrive-arrived.result c.marking.result i.stopped c.marking.new.stopped c.marking.ensures.same c.marking.ensures.mark (c.arrive-arrived.ensures.ok s at)
    (λ m h.
    (λ j. seen i.header (h j) (rest j) i.floor i.closed i.accepted.items i.boundary i.rows.items i.cut (m j))
    ∙ delivered_to i.header rs i.flight i.floor i.closed i.accepted.items i.boundary i.rows.items i.cut i.stopped place r s k c.from-router.ensures c.take-packet.ensures.packet at
    ∙ ap (after_deliver place) c.self.view_is)

pub returns-clause-err : goal.returns-clause-err
returns-clause-err g c =
    let rs = c.self.inside.routers in
    let r = c.from-router.result in
    let inside : r < length rs = (let a = c.if-router-len.false in let d = c.len.ensures in omega (arith, a, d)) in
    let found = there rs r inside in
    let before = given_either rs c.arrive-arrived.new.self r found.0 (arrived c.take-packet.result found.0.part) c.arrive-arrived.result found.1 (c.arrive-arrived.ensures.ok found.0 found.1) c.arrive-arrived.ensures.err in
    err_marked c.arrive-arrived.result c.marking.result c.self.inside.stopped c.marking.new.stopped c.marking.ensures.same c.marking.ensures.mark
    (λ m. halted c.args.self.now _ m (ap (λ l. l.header) c.self.view_is) (before_guests rs c.arrive-arrived.new.self before ∙ ap (λ l. l.openings) c.self.view_is))
