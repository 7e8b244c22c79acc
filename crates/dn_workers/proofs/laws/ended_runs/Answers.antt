use Rattle.std.proofs.Common.{[], refl, sym, ap, ◌∙◌, subst}
use Rattle.dn_model.specs.Cases.{IsHeading, Recording}
use Rattle.dn_model.specs.Settled.{IsTimed}
use Rattle.dn_world.specs.World.{World}
use Rattle.dn_workers.proofs.Ended.{feeder_closed, all_given, all_closed, over_all}
use Rattle.dn_workers.proofs.laws.ended_runs.Goals as goal

pub returns-clause-over : goal.returns-clause-over
returns-clause-over g c = λ meaning net f seat rules is r h done.
    let case : Recording = record { header = net.header; feed = [] } in
    let timed : IsTimed net.header = c.cases_are_timed.ensures.timed net case (record { header = subst IsHeading (sym is.header) rules; feed = tt }) refl in
    let t = c.runs_together.ensures in
    let l = c.lasting.ensures in
    over_all net (t.world net) (t.rest net) (l.closed net) (l.ended net) (λ xs ys. l.cut net xs ys timed) c.logs.ensures.stays c.logs.ensures.stopped meaning f seat is r h done

pub returns-clause-feeder : goal.returns-clause-feeder
returns-clause-feeder g c = λ f given closed before seat h k. (feeder_closed c.logs.ensures.stays c.logs.ensures.stopped f given closed before seat h k).0

pub returns-clause-given : goal.returns-clause-given
returns-clause-given g c = all_given c.logs.ensures.stays c.logs.ensures.stopped c.fed_logs.ensures.steps c.fed_alone.ensures.injects

pub returns-clause-accepted : goal.returns-clause-accepted
returns-clause-accepted g c = λ net f r. ap (λ (w : World). w.accepted) (sym r.world) ∙ c.runs.ensures.accepted net f.journal

pub returns-clause-closed : goal.returns-clause-closed
returns-clause-closed g c = λ net. all_closed c.logs.ensures.stays c.logs.ensures.stopped c.fed_logs.ensures.steps net (c.fed_alone.ensures.closed net) (c.runs.ensures.world net)
