use Rattle.std.proofs.Common.{ap, ◌∙◌}
use Rattle.std.specs.Prelude.{slice_get}
use Rattle.dn_queue.proofs.Todos.{least_read}
use Rattle.dn_queue.proofs.todo.Todo.least.Goals as goal

pub returns : goal.returns
returns c =
    least_read c.self.inside.first.keys c.self.inside.again c.first.result c.self.invariant c.first.ensures.variant c.first.ensures.first
    ∙ ap (λ l. slice_get l 0) c.self.view_is
