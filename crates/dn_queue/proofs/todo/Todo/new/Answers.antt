use Rattle.std.proofs.Common.{◌++◌}
use Rattle.dn_model.specs.Order.{sorted}
use Rattle.dn_queue.proofs.todo.Todo.new.Goals as goal

pub returns : goal.returns
unfolding sorted
returns c = (λ i. sorted (c.new.ensures.empty i ++ c.new-2.ensures i))
