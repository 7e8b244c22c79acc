use Rattle.std.proofs.Common.{false, not, sym, ap, ◌∙◌}
use Rattle.std.specs.Prelude.{slice_get}
use Rattle.dn_router.proofs.Marks.{some_waits, ready_is, behind_unready}
use Rattle.dn_router.proofs.router.Router.ready.Goals as goal

pub returns-then-not-behind : goal.returns-then-not-behind
returns-then-not-behind g c =
    let p = c.args.self.now.part in
    let first = c.least.ensures ∙ ap (λ s. slice_get s.part.todo 0) c.self.view_is in
    ready_is p false c.is_some.result (sym c.if-not-behind.true ∙ c.behind.ensures) (c.is_some.ensures ∙ some_waits p.todo c.least.result first)

pub returns-else-not-behind : goal.returns-else-not-behind
returns-else-not-behind g c =
    ap not c.if-not-behind.false ∙ behind_unready c.args.self.now.part (sym c.behind.ensures ∙ c.if-not-behind.false)
