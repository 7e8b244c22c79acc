use Rattle.dn_record.specs.Live.{Live}
use Rattle.dn_record.proofs.Accepting.{accept_keeps, accept_is}
use Rattle.dn_record.proofs.live_log.LiveLog.accept.Goals as goal

pub invariant_of-self-2 : goal.invariant_of-self-2
invariant_of-self-2 g c =
    let f = c.self.inside in
    let v : Live = record { header = f.header; reader = f.lines; given = f.given; last = f.recorder.last; number = f.number; ended = f.ended; spent = f.spent } in
    accept_keeps v c.args.self.now f.recorder.groups c.self.view_is c.self.invariant c.args.router c.args.input c.in_ok-kept.kept c.args.text.now c.requires.read c.in_ok-kept.ensures
    c.requires.open.1 c.requires.last c.stamp-group.new.self c.stamp-group.result c.stamp-group.ensures.after c.stamp-group.ensures.rises c.stamp-group.ensures.inside c.push.new.self c.in_ok-push.ensures.ok

pub returns-clause-accepts : goal.returns-clause-accepts
returns-clause-accepts g c =
    let f = c.self.inside in
    let v : Live = record { header = f.header; reader = f.lines; given = f.given; last = f.recorder.last; number = f.number; ended = f.ended; spent = f.spent } in
    accept_is v c.args.self.now f.recorder.groups c.self.view_is c.self.invariant c.args.router c.args.input c.in_ok-kept.kept c.args.text.now c.requires.read c.in_ok-kept.ensures
    c.stamp-group.new.self c.stamp-group.result c.passed.result c.stamp-group.ensures.stamp c.stamp-group.ensures.after c.push.new.self c.in_ok-push.ensures.ok (g.M.Metronome.beats c.args.beats.now) (g.M.Metronome.beats c.passed.new.self) c.passed.ensures
