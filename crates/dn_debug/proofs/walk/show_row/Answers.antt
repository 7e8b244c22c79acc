use Rattle.dn_debug.specs.Courses.{show_after}
use Rattle.dn_debug.proofs.Watchers.{nothing_shown}
use Rattle.dn_debug.proofs.walk.show_row.Goals as goal

pub returns-then-is_idle : goal.returns-then-is_idle
returns-then-is_idle g c =
    λ net feed same so inside.
    nothing_shown g.P.Probe.watcher c.args.row.now (show_after net feed c.args.engine.now.place c.args.row.now.router) c.args.watching.now (c.is_idle.ensures.0 c.if-is_idle.true)
