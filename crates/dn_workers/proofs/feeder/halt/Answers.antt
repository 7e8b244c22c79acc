use Rattle.std.proofs.Common.{true, ap, ◌∙◌}
use Rattle.dn_world.specs.Logs.{fed, is_stopped}
use Rattle.dn_fabric.specs.Fabrics.{log_in}
use Rattle.dn_workers.proofs.Feeds.{grown_halt, fed_halt, put_back, may_put_grown}
use Rattle.dn_workers.proofs.feeder.halt.Goals as goal

pub put-requires-clause-value : goal.put-requires-clause-value
put-requires-clause-value g c κs within = may_put_grown c.args.seat.now c.args.fabric c.stop.new.self c.requires.taken c.requires.feeds (grown_halt c.args.fabric c.stop.new.self c.stop.ensures)

pub returns-clause-put_back : goal.returns-clause-put_back
returns-clause-put_back g c = put_back c.args.seat.now c.put.new.seat c.args.fabric c.stop.new.self c.requires.taken (grown_halt c.args.fabric c.stop.new.self c.stop.ensures) c.put.ensures.put

pub returns-clause-same_fed : goal.returns-clause-same_fed
returns-clause-same_fed g c = ap (λ s. fed s.seen) c.put.ensures.put ∙ (fed_halt c.args.fabric c.stop.new.self c.stop.ensures ∙ c.requires.taken.same_fed c.requires.feeds)

pub returns-clause-stopped : goal.returns-clause-stopped
returns-clause-stopped g c = ap (λ s. is_stopped s.seen) c.put.ensures.put ∙ (ap (λ f. is_stopped (log_in f)) c.stop.ensures ∙ c.logs.ensures.stopped c.args.fabric.journal true)
