use Rattle.std.proofs.Common.{[], refl}
use Rattle.dn_model.specs.Cases.{Recording}
use Rattle.dn_world.specs.Runs.{IsPlayable, world}
use Rattle.dn_fabric.proofs.Promised.{goes_on_there, cut_there, quiet_there, rows_final, cut_shown, rows_sent, rest_is}
use Rattle.dn_fabric.proofs.laws.reached_fabrics.Goals as goal

pub returns-clause-last : goal.returns-clause-last
returns-clause-last g c = λ net f feed rules reached fed goes.
    let case : Recording = record { header = net.header; feed = [] } in
    let play : IsPlayable net.header = c.playable_cases.ensures.playable net case (record { header = rules; feed = tt }) refl in
    let there = goes_on_there net f reached feed goes in
    rows_final net f reached feed (c.prefix.ensures.rows net feed f.journal play fed reached.legal there)
    (λ r l. c.prefix.ensures.of_router net feed f.journal r play fed reached.legal there l)
    (λ r l. c.prefix.ensures.state net feed f.journal r play fed reached.legal there l)

pub returns-clause-cut : goal.returns-clause-cut
returns-clause-cut g c = λ net f feed rules reached fed goes cut.
    let case : Recording = record { header = net.header; feed = [] } in
    let play : IsPlayable net.header = c.playable_cases.ensures.playable net case (record { header = rules; feed = tt }) refl in
    c.prefix.ensures.cut net feed f.journal play fed reached.legal (goes_on_there net f reached feed goes) (cut_there net f reached cut)

pub returns-clause-cut_rows : goal.returns-clause-cut_rows
returns-clause-cut_rows g c = λ net f feed rules reached fed goes cut.
    let case : Recording = record { header = net.header; feed = [] } in
    let play : IsPlayable net.header = c.playable_cases.ensures.playable net case (record { header = rules; feed = tt }) refl in
    cut_shown net f reached feed (c.prefix.ensures.cut_rows net feed f.journal play fed reached.legal (goes_on_there net f reached feed goes) (cut_there net f reached cut))

pub returns-clause-sent : goal.returns-clause-sent
returns-clause-sent g c = λ net f rules reached.
    let case : Recording = record { header = net.header; feed = [] } in
    let play : IsPlayable net.header = c.playable_cases.ensures.playable net case (record { header = rules; feed = tt }) refl in
    rows_sent net f reached (λ e message. c.unsent.ensures.sent net f.journal e play reached.legal message)
    (λ e message uncut some. c.unsent.ensures.sent_uncut net f.journal e play reached.legal message uncut some)

pub returns-clause-at_rest : goal.returns-clause-at_rest
returns-clause-at_rest g c = λ net f rules reached quiet.
    let case : Recording = record { header = net.header; feed = [] } in
    let play : IsPlayable net.header = c.playable_cases.ensures.playable net case (record { header = rules; feed = tt }) refl in
    let w = world net f.journal in
    let there = quiet_there net f reached quiet in
    let fed = c.runs.ensures.accepted_case net f.journal play reached.legal in
    let one = c.one_settled_family.ensures in
    rest_is net f reached
    (record {
      voids = λ r l. c.quiet.ensures.voids net f.journal r play reached.legal there l;
      done = λ r l. c.quiet.ensures.done net f.journal r play reached.legal there l;
      rows = λ e. c.quiet.ensures.rows net f.journal play reached.legal there e;
      cut = λ e. c.quiet.ensures.cut net f.journal play reached.legal there e;
      settled = one.lockstep_is net w.accepted play.timed fed;
      settled_below = λ bound. one.lockstep_is_below net w.accepted play.timed fed bound;
      no_other = λ h b. one.no_other_is net w.accepted play.timed fed h b;
      no_other_below = λ bound h b r l. one.no_other_is_below net w.accepted play.timed fed bound h b r l;
    })
    (record {
      settled = λ h k e a. c.same_families.ensures.settled net f.live.world.accepted h k e a;
      settled_below = λ bound h k e a. c.same_families.ensures.settled_below net f.live.world.accepted bound h k e a;
    })

pub returns-clause-ahead : goal.returns-clause-ahead
returns-clause-ahead g c = λ net f reached. c.horizon.ensures.greatest net f.live.world f.live.world.boundary reached.past
