use Rattle.std.proofs.Common.{◌≡◌, suc, ◌+◌, ◌-◌, [], ◌++◌, length, refl, sym, ap, ◌∙◌, subst, arith}
use Rattle.dn_model.specs.Cases.{Recording}
use Rattle.dn_model.specs.Network.{routers}
use Rattle.dn_world.specs.World.{opening}
use Rattle.dn_fabric.specs.Fabrics.{Fabric, HasStepped}
use Rattle.dn_drive.specs.declared.ended.Ended.{Ended}
use Rattle.dn_drive.specs.Allowed.{end_of, rest_after}
use Rattle.dn_drive.specs.Choices.{choices, schedule}
use Rattle.dn_drive.specs.Endings.{StandsAt}
use Rattle.dn_drive.proofs.Ending.{stands_end, cut_run}
use Rattle.dn_drive.proofs.Following.{answer_end, answer_cut}
use Rattle.dn_drive.proofs.Scheduling.{chosen_allowed, drawn_choice, no_turn_left, nothing_left, schedule_first, turn_cut, turn_on}
use Rattle.dn_drive.proofs.Ways.{IsWay, way_begins, allowed_parts, on_on, way_on, driven_first, same_network, network_before, same_twice}
use Rattle.dn_drive.proofs.shaking.shake.Goals as goal

pub loop-turn-init : goal.loop-turn-init
loop-turn-init g c =
    record {
      driven = driven_first g.G.Guest.meaning c.args.fabric.now c.requires.opening c.requires.case.header.some (c.networks.ensures g.G.Guest.meaning c.args.fabric.now.live.header c.args.fabric.now.live.openings c.requires.case.header.some c.requires.opening.one_each)
          (λ net is. c.journal-journal.ensures.reached net is (ap (λ (f : Fabric g.row.G.Denot). f.live.stopped) c.requires.opening.is));
      network = record { header = refl; openings = refl };
      way = λ net is.
          way_begins net c.args.feed.now g.G.Guest.meaning c.args.fabric.now c.requires.opening is c.requires.case
          (c.journal-journal.ensures.reached net is (ap (λ (f : Fabric g.row.G.Denot). f.live.stopped) c.requires.opening.is));
      schedule = λ net is. schedule_first net g.G.Guest.meaning c.args.fabric.now c.args.feed.now c.args.number c.args.steps _ c.requires.opening is (omega arith);
    }

pub returns-then-count-eq0-clause-journal : goal.returns-then-count-eq0-clause-journal
returns-then-count-eq0-clause-journal g c =
    λ net is.
    let i = c.loop-turn in
    let way = i.invariant.way net is in
    let header : net.header ≡ i.fabric.live.header = is.header ∙ sym i.invariant.network.header in
    let all = nothing_left net (schedule net (opening (routers net)) c.args.feed.now c.args.number c.args.steps) i.fabric i.rest.now i.last (c.args.steps - i._turn) (i.invariant.schedule net is) (ap (λ h. length (choices h i.fabric.live.world i.rest.now)) header ∙ sym (c.total-count.ensures i.rest.now) ∙ c.if-count-eq0.true) in
    sym all

pub returns-then-count-eq0-clause-answer : goal.returns-then-count-eq0-clause-answer
returns-then-count-eq0-clause-answer g c =
    λ net is.
    let i = c.loop-turn in
    let way = i.invariant.way net is in
    let header : net.header ≡ i.fabric.live.header = is.header ∙ sym i.invariant.network.header in
    let all = nothing_left net (schedule net (opening (routers net)) c.args.feed.now c.args.number c.args.steps) i.fabric i.rest.now i.last (c.args.steps - i._turn) (i.invariant.schedule net is) (ap (λ h. length (choices h i.fabric.live.world i.rest.now)) header ∙ sym (c.total-count.ensures i.rest.now) ∙ c.if-count-eq0.true) in
    c.end_of.ensures.answer ∙ ap (λ h. end_of h i.fabric.live.world) (sym header) ∙ answer_end net c.args.feed.now i.fabric i.rest.now (schedule net (opening (routers net)) c.args.feed.now c.args.number c.args.steps) way.follows all

pub returns-then-count-eq0-clause-stands : goal.returns-then-count-eq0-clause-stands
returns-then-count-eq0-clause-stands g c =
    λ net is.
    let i = c.loop-turn in
    let way = i.invariant.way net is in
    let header : net.header ≡ i.fabric.live.header = is.header ∙ sym i.invariant.network.header in
    let running = i.invariant.driven.running in
    let same : end_of net.header i.fabric.live.world ≡ c.end_of.result = sym (c.end_of.ensures.answer ∙ ap (λ h. end_of h i.fabric.live.world) (sym header)) in
    subst (λ (e : Ended). StandsAt net c.args.feed.now e i.fabric) same
    (stands_end net c.args.feed.now i.fabric i.rest.now way.on running way.uncut (c.end_of.ensures.at_rest net (same_network net g.G.Guest.meaning c.args.fabric.now i.fabric i.invariant.network is) running)
    (λ e. c.end_of.ensures.committed net header way.on.reached.past (sym same ∙ e)))

pub returns-clause-journal : goal.returns-clause-journal
returns-clause-journal g c =
    λ net is.
    let i = c.loop-turn in
    let way = i.invariant.way net is in
    let header : net.header ≡ i.fabric.live.header = is.header ∙ sym i.invariant.network.header in
    let all = no_turn_left net (schedule net (opening (routers net)) c.args.feed.now c.args.number c.args.steps) i.fabric i.rest.now i.last (c.args.steps - i._turn) (i.invariant.schedule net is) (omega (arith, c.loop-turn-test.false)) in
    sym all

pub returns-clause-answer : goal.returns-clause-answer
returns-clause-answer g c =
    λ net is.
    let i = c.loop-turn in
    let way = i.invariant.way net is in
    let header : net.header ≡ i.fabric.live.header = is.header ∙ sym i.invariant.network.header in
    let all = no_turn_left net (schedule net (opening (routers net)) c.args.feed.now c.args.number c.args.steps) i.fabric i.rest.now i.last (c.args.steps - i._turn) (i.invariant.schedule net is) (omega (arith, c.loop-turn-test.false)) in
    c.end_of-2.ensures.answer ∙ ap (λ h. end_of h i.fabric.live.world) (sym header) ∙ answer_end net c.args.feed.now i.fabric i.rest.now (schedule net (opening (routers net)) c.args.feed.now c.args.number c.args.steps) way.follows all

pub returns-clause-stands : goal.returns-clause-stands
returns-clause-stands g c =
    λ net is.
    let i = c.loop-turn in
    let way = i.invariant.way net is in
    let header : net.header ≡ i.fabric.live.header = is.header ∙ sym i.invariant.network.header in
    let running = i.invariant.driven.running in
    let same : end_of net.header i.fabric.live.world ≡ c.end_of-2.result = sym (c.end_of-2.ensures.answer ∙ ap (λ h. end_of h i.fabric.live.world) (sym header)) in
    subst (λ (e : Ended). StandsAt net c.args.feed.now e i.fabric) same
    (stands_end net c.args.feed.now i.fabric i.rest.now way.on running way.uncut (c.end_of-2.ensures.at_rest net (same_network net g.G.Guest.meaning c.args.fabric.now i.fabric i.invariant.network is) running)
    (λ e. c.end_of-2.ensures.committed net header way.on.reached.past (sym same ∙ e)))

pub choice-requires-clause-counts : goal.choice-requires-clause-counts
choice-requires-clause-counts g c κs within = c.of-counts.ensures c.loop-turn.rest.now

pub take_step-requires-clause-enabled : goal.take_step-requires-clause-enabled
take_step-requires-clause-enabled g c κs within =
    λ net is.
    let i = c.loop-turn in
    let first = network_before net g.G.Guest.meaning c.args.fabric.now i.fabric i.invariant.network is in
    let way = i.invariant.way net first in
    let yes = chosen_allowed net (λ x y h. c.order_of_events.ensures.inputs_apart x y h) i.fabric.live.header i.fabric.live.world i.rest.now c.args.feed.now c.place_of.result c.in_ok-step.step is.header i.invariant.driven.parts way.on.goes c.in_ok-step.ensures in
    (allowed_parts net c.args.feed.now i.fabric.live.world i.rest.now c.in_ok-step.step yes).0

pub returns-then-is_cut-clause-journal : goal.returns-then-is_cut-clause-journal
returns-then-is_cut-clause-journal g c =
    λ net is.
    let i = c.loop-turn in
    let way = i.invariant.way net is in
    let header : net.header ≡ i.fabric.live.header = is.header ∙ sym i.invariant.network.header in
    let now = c.take_step.new.fabric in
    let s = c.in_ok-step.step in
    let yes = chosen_allowed net (λ x y h. c.order_of_events.ensures.inputs_apart x y h) i.fabric.live.header i.fabric.live.world i.rest.now c.args.feed.now c.place_of.result s header i.invariant.driven.parts way.on.goes c.in_ok-step.ensures in
    let step : HasStepped net i.fabric s now = c.in_ok-take_step.ensures.ok net (same_network net g.G.Guest.meaning c.args.fabric.now i.fabric i.invariant.network is) in
    let at = drawn_choice net.header i.fabric.live.header i.fabric.live.world i.rest.now i.last c.drawn-last.result c.place_of.result c.total-count.result s header c.drawn-last.ensures (c.total-count.ensures i.rest.now) c.place_of.ensures c.in_ok-step.ensures in
    let less : c.args.steps - i._turn ≡ suc (c.args.steps - (i._turn + 1)) = omega (arith, c.loop-turn-test.true) in
    let split = turn_cut net (schedule net (opening (routers net)) c.args.feed.now c.args.number c.args.steps) i.fabric i.rest.now i.last (c.args.steps - i._turn) (i.invariant.schedule net is) now (c.args.steps - (i._turn + 1)) s less at step.is (sym c.is_cut.ensures.cut ∙ c.if-is_cut.true) in
    ap (λ (f : Fabric g.row.G.Denot). f.journal) step.is ∙ sym split

pub returns-then-is_cut-clause-answer : goal.returns-then-is_cut-clause-answer
returns-then-is_cut-clause-answer g c =
    λ net is.
    let i = c.loop-turn in
    let way = i.invariant.way net is in
    let header : net.header ≡ i.fabric.live.header = is.header ∙ sym i.invariant.network.header in
    let now = c.take_step.new.fabric in
    let s = c.in_ok-step.step in
    let yes = chosen_allowed net (λ x y h. c.order_of_events.ensures.inputs_apart x y h) i.fabric.live.header i.fabric.live.world i.rest.now c.args.feed.now c.place_of.result s header i.invariant.driven.parts way.on.goes c.in_ok-step.ensures in
    let step : HasStepped net i.fabric s now = c.in_ok-take_step.ensures.ok net (same_network net g.G.Guest.meaning c.args.fabric.now i.fabric i.invariant.network is) in
    let at = drawn_choice net.header i.fabric.live.header i.fabric.live.world i.rest.now i.last c.drawn-last.result c.place_of.result c.total-count.result s header c.drawn-last.ensures (c.total-count.ensures i.rest.now) c.place_of.ensures c.in_ok-step.ensures in
    let less : c.args.steps - i._turn ≡ suc (c.args.steps - (i._turn + 1)) = omega (arith, c.loop-turn-test.true) in
    let split = turn_cut net (schedule net (opening (routers net)) c.args.feed.now c.args.number c.args.steps) i.fabric i.rest.now i.last (c.args.steps - i._turn) (i.invariant.schedule net is) now (c.args.steps - (i._turn + 1)) s less at step.is (sym c.is_cut.ensures.cut ∙ c.if-is_cut.true) in
    answer_cut net c.args.feed.now i.fabric now i.rest.now (schedule net (opening (routers net)) c.args.feed.now c.args.number c.args.steps) [] s way.follows yes step.is (sym c.is_cut.ensures.cut ∙ c.if-is_cut.true) split

pub returns-then-is_cut-clause-stands : goal.returns-then-is_cut-clause-stands
returns-then-is_cut-clause-stands g c =
    λ net is.
    let i = c.loop-turn in
    let way = i.invariant.way net is in
    let header : net.header ≡ i.fabric.live.header = is.header ∙ sym i.invariant.network.header in
    let now = c.take_step.new.fabric in
    let s = c.in_ok-step.step in
    let yes = chosen_allowed net (λ x y h. c.order_of_events.ensures.inputs_apart x y h) i.fabric.live.header i.fabric.live.world i.rest.now c.args.feed.now c.place_of.result s header i.invariant.driven.parts way.on.goes c.in_ok-step.ensures in
    let step : HasStepped net i.fabric s now = c.in_ok-take_step.ensures.ok net (same_network net g.G.Guest.meaning c.args.fabric.now i.fabric i.invariant.network is) in
    cut_run net c.args.feed.now now _ (on_on net c.args.feed.now (λ x y h. c.order_of_events.ensures.inputs_apart x y h) i.fabric now i.rest.now s way yes step) c.in_ok-take_step.ensures.driven.running (sym c.is_cut.ensures.cut ∙ c.if-is_cut.true)
    (λ legal goes off.
    let case : Recording = record { header = c.args.fabric.now.live.header; feed = c.args.feed.now } in
    (c.cut_runs.ensures.rows net case now.journal c.requires.case is.header legal goes off, c.cut_runs.ensures.cut net case now.journal c.requires.case is.header legal goes off))

pub loop-turn-preserved : goal.loop-turn-preserved
loop-turn-preserved g c =
    record {
      driven = c.in_ok-take_step.ensures.driven;
      network = same_twice c.args.fabric.now c.loop-turn.fabric c.take_step.new.fabric c.loop-turn.invariant.network c.take_step.ensures.network;
      way =
          λ net is.
          let i = c.loop-turn in
          let way = i.invariant.way net is in
          let header : net.header ≡ i.fabric.live.header = is.header ∙ sym i.invariant.network.header in
          let now = c.take_step.new.fabric in
          let s = c.in_ok-step.step in
          let yes = chosen_allowed net (λ x y h. c.order_of_events.ensures.inputs_apart x y h) i.fabric.live.header i.fabric.live.world i.rest.now c.args.feed.now c.place_of.result s header i.invariant.driven.parts way.on.goes c.in_ok-step.ensures in
          let step : HasStepped net i.fabric s now = c.in_ok-take_step.ensures.ok net (same_network net g.G.Guest.meaning c.args.fabric.now i.fabric i.invariant.network is) in
          subst (IsWay net c.args.feed.now now) (sym c.rest_after-rest.ensures) (way_on net c.args.feed.now (λ x y h. c.order_of_events.ensures.inputs_apart x y h) i.fabric now i.rest.now s way yes step (sym c.is_cut.ensures.cut ∙ c.if-is_cut.false));
      schedule =
          λ net is.
          let i = c.loop-turn in
          let way = i.invariant.way net is in
          let header : net.header ≡ i.fabric.live.header = is.header ∙ sym i.invariant.network.header in
          let now = c.take_step.new.fabric in
          let s = c.in_ok-step.step in
          let yes = chosen_allowed net (λ x y h. c.order_of_events.ensures.inputs_apart x y h) i.fabric.live.header i.fabric.live.world i.rest.now c.args.feed.now c.place_of.result s header i.invariant.driven.parts way.on.goes c.in_ok-step.ensures in
          let step : HasStepped net i.fabric s now = c.in_ok-take_step.ensures.ok net (same_network net g.G.Guest.meaning c.args.fabric.now i.fabric i.invariant.network is) in
          let at = drawn_choice net.header i.fabric.live.header i.fabric.live.world i.rest.now i.last c.drawn-last.result c.place_of.result c.total-count.result s header c.drawn-last.ensures (c.total-count.ensures i.rest.now) c.place_of.ensures c.in_ok-step.ensures in
          let less : c.args.steps - i._turn ≡ suc (c.args.steps - (i._turn + 1)) = omega (arith, c.loop-turn-test.true) in
          let on = turn_on net (schedule net (opening (routers net)) c.args.feed.now c.args.number c.args.steps) i.fabric i.rest.now i.last (c.args.steps - i._turn) (i.invariant.schedule net is) now (c.args.steps - (i._turn + 1)) s less at step.is (sym c.is_cut.ensures.cut ∙ c.if-is_cut.false) in
          on
          ∙ ap (λ h. now.journal ++ schedule net now.live.world (rest_after i.rest.now s) h (c.args.steps - (i._turn + 1))) (sym c.drawn-last.ensures)
          ∙ ap (λ xs. now.journal ++ schedule net now.live.world xs c.drawn-last.result (c.args.steps - (i._turn + 1))) (sym c.rest_after-rest.ensures);
    }
