use Rattle.std.proofs.Common.{◌≡◌, suc, ◌+◌, true, false, drop, refl, sym, ap, ◌∙◌, subst, arith}
use Rattle.dn_model.specs.Cases.{Recording}
use Rattle.dn_fabric.specs.Fabrics.{Fabric, HasStepped}
use Rattle.dn_drive.specs.declared.ended.Ended.{Ended}
use Rattle.dn_drive.specs.declared.ended.Ended.TheVariants.{Illegal}
use Rattle.dn_drive.specs.Allowed.{end_of}
use Rattle.dn_drive.specs.Endings.{StandsAt}
use Rattle.dn_drive.proofs.Ending.{stands_end, cut_run}
use Rattle.dn_drive.proofs.Following.{answer_end, front_all, answer_no, front_before, answer_cut, front_to_cut}
use Rattle.dn_drive.proofs.Ways.{IsWay, way_begins, way_allowed, allowed_parts, on_on, way_on, driven_first, same_network, network_before, same_twice, apart, longer, as_long, whole_journal}
use Rattle.dn_drive.proofs.replaying.replay.Goals as goal

pub loop-index-init : goal.loop-index-init
loop-index-init g c =
    record {
      driven = driven_first g.G.Guest.meaning c.args.fabric.now c.requires.opening c.requires.case.header.some (c.networks.ensures g.G.Guest.meaning c.args.fabric.now.live.header c.args.fabric.now.live.openings c.requires.case.header.some c.requires.opening.one_each)
          (λ net is. c.journal-journal.ensures.reached net is (ap (λ (f : Fabric g.row.G.Denot). f.live.stopped) c.requires.opening.is));
      network = record { header = refl; openings = refl };
      way = λ net is.
          way_begins net c.args.feed.now g.G.Guest.meaning c.args.fabric.now c.requires.opening is c.requires.case
          (c.journal-journal.ensures.reached net is (ap (λ (f : Fabric g.row.G.Denot). f.live.stopped) c.requires.opening.is));
      journal = λ net is. ap (λ (f : Fabric g.row.G.Denot). f.journal) c.requires.opening.is;
    }

pub returns-then-not-is_allowed-clause-answer : goal.returns-then-not-is_allowed-clause-answer
returns-then-not-is_allowed-clause-answer g c =
    λ net is.
    let i = c.loop-index in
    let way = i.invariant.way net is in
    let no = way_allowed net c.args.feed.now (λ x y h. c.order_of_events.ensures.inputs_apart x y h) i.fabric.live.header i.fabric i.rest.now c.index-steps-index.result false (is.header ∙ sym i.invariant.network.header) way (sym c.is_allowed.ensures ∙ c.if-not-is_allowed.true) in
    let split = apart c.args.steps.now i.fabric.journal i.index c.index-steps-index.result c.loop-index-test.true c.index-steps-index.is (i.invariant.journal net is) in
    let count = as_long c.args.steps.now i.fabric.journal i.index (omega (arith, c.loop-index-test.true)) (i.invariant.journal net is) in
    ap (λ n. Illegal (n + 1)) (sym count) ∙ answer_no net c.args.feed.now i.fabric i.rest.now c.args.steps.now (drop (suc i.index) c.args.steps.now) c.index-steps-index.result way.follows no split

pub returns-then-not-is_allowed-clause-journal : goal.returns-then-not-is_allowed-clause-journal
returns-then-not-is_allowed-clause-journal g c =
    λ net is.
    let i = c.loop-index in
    let way = i.invariant.way net is in
    let no = way_allowed net c.args.feed.now (λ x y h. c.order_of_events.ensures.inputs_apart x y h) i.fabric.live.header i.fabric i.rest.now c.index-steps-index.result false (is.header ∙ sym i.invariant.network.header) way (sym c.is_allowed.ensures ∙ c.if-not-is_allowed.true) in
    let split = apart c.args.steps.now i.fabric.journal i.index c.index-steps-index.result c.loop-index-test.true c.index-steps-index.is (i.invariant.journal net is) in
    front_before net c.args.feed.now i.fabric i.rest.now c.args.steps.now (drop (suc i.index) c.args.steps.now) c.index-steps-index.result way.follows no split

pub take_step-requires-clause-enabled : goal.take_step-requires-clause-enabled
take_step-requires-clause-enabled g c κs within =
    λ net is.
    let i = c.loop-index in
    let first = network_before net g.G.Guest.meaning c.args.fabric.now i.fabric i.invariant.network is in
    let way = i.invariant.way net first in
    let yes = way_allowed net c.args.feed.now (λ x y h. c.order_of_events.ensures.inputs_apart x y h) i.fabric.live.header i.fabric i.rest.now c.index-steps-index.result true is.header way (sym c.is_allowed.ensures ∙ c.if-not-is_allowed.false) in
    (allowed_parts net c.args.feed.now i.fabric.live.world i.rest.now c.index-steps-index.result yes).0

pub returns-then-is_cut-clause-answer : goal.returns-then-is_cut-clause-answer
returns-then-is_cut-clause-answer g c =
    λ net is.
    let i = c.loop-index in
    let way = i.invariant.way net is in
    let now = c.take_step.new.fabric in
    let yes = way_allowed net c.args.feed.now (λ x y h. c.order_of_events.ensures.inputs_apart x y h) i.fabric.live.header i.fabric i.rest.now c.index-steps-index.result true (is.header ∙ sym i.invariant.network.header) way (sym c.is_allowed.ensures ∙ c.if-not-is_allowed.false) in
    let step : HasStepped net i.fabric c.index-steps-index.result now = c.in_ok-take_step.ensures.ok net (same_network net g.G.Guest.meaning c.args.fabric.now i.fabric i.invariant.network is) in
    let split = apart c.args.steps.now i.fabric.journal i.index c.index-steps-index.result c.loop-index-test.true c.index-steps-index.is (i.invariant.journal net is) in
    answer_cut net c.args.feed.now i.fabric now i.rest.now c.args.steps.now (drop (suc i.index) c.args.steps.now) c.index-steps-index.result way.follows yes step.is (sym c.is_cut.ensures.cut ∙ c.if-is_cut.true) split

pub returns-then-is_cut-clause-journal : goal.returns-then-is_cut-clause-journal
returns-then-is_cut-clause-journal g c =
    λ net is.
    let i = c.loop-index in
    let way = i.invariant.way net is in
    let now = c.take_step.new.fabric in
    let yes = way_allowed net c.args.feed.now (λ x y h. c.order_of_events.ensures.inputs_apart x y h) i.fabric.live.header i.fabric i.rest.now c.index-steps-index.result true (is.header ∙ sym i.invariant.network.header) way (sym c.is_allowed.ensures ∙ c.if-not-is_allowed.false) in
    let step : HasStepped net i.fabric c.index-steps-index.result now = c.in_ok-take_step.ensures.ok net (same_network net g.G.Guest.meaning c.args.fabric.now i.fabric i.invariant.network is) in
    let split = apart c.args.steps.now i.fabric.journal i.index c.index-steps-index.result c.loop-index-test.true c.index-steps-index.is (i.invariant.journal net is) in
    front_to_cut net c.args.feed.now i.fabric now i.rest.now c.args.steps.now (drop (suc i.index) c.args.steps.now) c.index-steps-index.result way.follows yes step.is (sym c.is_cut.ensures.cut ∙ c.if-is_cut.true) split

pub returns-then-is_cut-clause-stands : goal.returns-then-is_cut-clause-stands
returns-then-is_cut-clause-stands g c =
    λ net is.
    let i = c.loop-index in
    let way = i.invariant.way net is in
    let now = c.take_step.new.fabric in
    let yes = way_allowed net c.args.feed.now (λ x y h. c.order_of_events.ensures.inputs_apart x y h) i.fabric.live.header i.fabric i.rest.now c.index-steps-index.result true (is.header ∙ sym i.invariant.network.header) way (sym c.is_allowed.ensures ∙ c.if-not-is_allowed.false) in
    let step : HasStepped net i.fabric c.index-steps-index.result now = c.in_ok-take_step.ensures.ok net (same_network net g.G.Guest.meaning c.args.fabric.now i.fabric i.invariant.network is) in
    cut_run net c.args.feed.now now _ (on_on net c.args.feed.now (λ x y h. c.order_of_events.ensures.inputs_apart x y h) i.fabric now i.rest.now c.index-steps-index.result way yes step) c.in_ok-take_step.ensures.driven.running (sym c.is_cut.ensures.cut ∙ c.if-is_cut.true)
    (λ legal goes off.
    let case : Recording = record { header = c.args.fabric.now.live.header; feed = c.args.feed.now } in
    (c.cut_runs.ensures.rows net case now.journal c.requires.case is.header legal goes off, c.cut_runs.ensures.cut net case now.journal c.requires.case is.header legal goes off))

pub loop-index-preserved : goal.loop-index-preserved
loop-index-preserved g c =
    let i = c.loop-index in
    let now = c.take_step.new.fabric in
    record {
      driven = c.in_ok-take_step.ensures.driven;
      network = same_twice c.args.fabric.now i.fabric now i.invariant.network c.take_step.ensures.network;
      way = λ net is.
          let way = i.invariant.way net is in
          let yes = way_allowed net c.args.feed.now (λ x y h. c.order_of_events.ensures.inputs_apart x y h) i.fabric.live.header i.fabric i.rest.now c.index-steps-index.result true (is.header ∙ sym i.invariant.network.header) way (sym c.is_allowed.ensures ∙ c.if-not-is_allowed.false) in
          let step : HasStepped net i.fabric c.index-steps-index.result now = c.in_ok-take_step.ensures.ok net (same_network net g.G.Guest.meaning c.args.fabric.now i.fabric i.invariant.network is) in
          subst (IsWay net c.args.feed.now now) (sym c.rest_after-rest.ensures) (way_on net c.args.feed.now (λ x y h. c.order_of_events.ensures.inputs_apart x y h) i.fabric now i.rest.now c.index-steps-index.result way yes step (sym c.is_cut.ensures.cut ∙ c.if-is_cut.false));
      journal = λ net is.
          let step : HasStepped net i.fabric c.index-steps-index.result now = c.in_ok-take_step.ensures.ok net (same_network net g.G.Guest.meaning c.args.fabric.now i.fabric i.invariant.network is) in
          longer c.args.steps.now i.fabric.journal now.journal i.index c.index-steps-index.result c.loop-index-test.true c.index-steps-index.is (i.invariant.journal net is) (ap (λ (f : Fabric g.row.G.Denot). f.journal) step.is);
    }

pub returns-clause-answer : goal.returns-clause-answer
returns-clause-answer g c =
    λ net is.
    let i = c.loop-index in
    let way = i.invariant.way net is in
    let all = whole_journal c.args.steps.now i.fabric.journal i.index c.loop-index-test.false (i.invariant.journal net is) in
    c.end_of.ensures.answer ∙ ap (λ h. end_of h i.fabric.live.world) (i.invariant.network.header ∙ sym is.header) ∙ answer_end net c.args.feed.now i.fabric i.rest.now c.args.steps.now way.follows all

pub returns-clause-journal : goal.returns-clause-journal
returns-clause-journal g c =
    λ net is.
    let i = c.loop-index in
    let way = i.invariant.way net is in
    let all = whole_journal c.args.steps.now i.fabric.journal i.index c.loop-index-test.false (i.invariant.journal net is) in
    front_all net c.args.feed.now i.fabric i.rest.now c.args.steps.now way.follows all

pub returns-clause-stands : goal.returns-clause-stands
returns-clause-stands g c =
    λ net is.
    let i = c.loop-index in
    let way = i.invariant.way net is in
    let running = i.invariant.driven.running in
    let same : end_of net.header i.fabric.live.world ≡ c.end_of.result = sym (c.end_of.ensures.answer ∙ ap (λ h. end_of h i.fabric.live.world) (i.invariant.network.header ∙ sym is.header)) in
    subst (λ (e : Ended). StandsAt net c.args.feed.now e i.fabric) same
    (stands_end net c.args.feed.now i.fabric i.rest.now way.on running way.uncut (c.end_of.ensures.at_rest net (same_network net g.G.Guest.meaning c.args.fabric.now i.fabric i.invariant.network is) running)
    (λ e. c.end_of.ensures.committed net (is.header ∙ sym i.invariant.network.header) way.on.reached.past (sym same ∙ e)))
