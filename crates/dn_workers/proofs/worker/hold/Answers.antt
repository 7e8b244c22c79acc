use Rattle.std.proofs.Common.{◌≡◌, true, rules, ap, ◌∙◌, inl}
use Rattle.dn_world.specs.Logs.{is_stopped}
use Rattle.dn_workers.specs.declared.holding.Found.TheVariants.{Over}
use Rattle.dn_workers.proofs.Going.{gone_self, may_put, worked, done_by}
use Rattle.dn_workers.proofs.worker.hold.Goals as goal

pub put-requires-clause-value : goal.put-requires-clause-value
put-requires-clause-value g c κs within = may_put c.args.seat.now c.args.fabric c.args.fabric c.requires.taken (gone_self c.args.fabric)

pub returns-then-stopped-clause-worked : goal.returns-then-stopped-clause-worked
returns-then-stopped-clause-worked g c = worked c.args.seat.now c.put.new.seat c.args.fabric c.args.fabric c.requires.taken (gone_self c.args.fabric) c.put.ensures.put

pub returns-then-stopped-clause-over : goal.returns-then-stopped-clause-over
returns-then-stopped-clause-over g c =
    let stopped : c.args.fabric.live.stopped ≡ true = search rules in
    λ _. inl (ap (λ s. is_stopped s.seen) c.put.ensures.put ∙ (c.logs.ensures.stopped c.args.fabric.journal c.args.fabric.live.stopped ∙ stopped))

pub returns-clause-worked : goal.returns-clause-worked
returns-clause-worked g c = worked c.args.seat.now c.put-2.new.seat c.args.fabric c.go_on-found.new.fabric c.requires.taken c.go_on-found.ensures.gone_on c.put-2.ensures.put

pub returns-clause-over : goal.returns-clause-over
returns-clause-over g c = done_by g.G.Guest.meaning c.args.seat.now c.put-2.new.seat c.args.fabric c.go_on-found.new.fabric c.go_on-found.result (λ found. found ≡ Over) c.requires.taken c.go_on-found.ensures.gone_on c.put-2.ensures.put c.go_on-found.ensures.running c.journal.ensures.reached c.go_on-found.ensures.over
