use Rattle.std.proofs.Common.{ℕ, ◌++◌, sym, ap, ◌∙◌}
use Rattle.std.specs.Prelude.{nat_lt}
use Rattle.dn_model.specs.Cases.{Heading}
use Rattle.dn_trace.specs.Rows.{row_lines}
use Rattle.dn_debug.specs.Watching.{watched}
use Rattle.dn_debug.specs.Lines.{stop_line}
use Rattle.dn_debug.specs.Steps.{last_if}
use Rattle.dn_debug.proofs.Written.{has_run}
use Rattle.dn_debug.proofs.running.advance.Goals as goal

pub returns-clause-gone : goal.returns-clause-gone
returns-clause-gone g c =
    λ net feed same is.
    let engine = c.go.new.walk.engine in
    let defs = c.args.routers.now in
    has_run net feed c.args.walk.now.breaks.items c.args.extent c.args.walk.now.engine.place (watched g.P.Probe.watcher c.args.walk.now.watching) engine (watched g.P.Probe.watcher c.go.new.walk.watching) c.go.new.walk.latest c.in_ok-reason.reason defs c.args.out.now c.go.new.out c.push_last.new.out c.push_stop.new.out
    (ap (λ (h : Heading). h.routers) (sym is.stands.header) ∙ c.requires)
    (c.in_ok-reason.ensures.gone net feed same is)
    (c.in_ok-push_last.ensures ∙ ap (λ (n : ℕ). c.go.new.out ++ row_lines defs (last_if c.args.extent.each (nat_lt n engine.place) engine.last)) c.place-before.ensures.place)
    (c.in_ok-push_stop.ensures ∙ ap (λ (n : ℕ). c.push_last.new.out ++ stop_line n c.in_ok-reason.reason) c.place.ensures.place)
