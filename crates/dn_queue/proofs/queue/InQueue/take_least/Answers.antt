use Rattle.std.proofs.Common.{sym, ap, subst}
use Rattle.dn_world.specs.Runs.{IsTidy}
use Rattle.dn_queue.proofs.Queues.{waits, least_gone}
use Rattle.dn_queue.proofs.queue.InQueue.take_least.Goals as goal

pub invariant_of-self : goal.invariant_of-self
invariant_of-self c =
    subst IsTidy (ap (λ l. waits l c.self.inside.voids) (sym c.take_least.ensures.rest)) (least_gone (waits c.self.inside.todo c.self.inside.voids) c.self.invariant)
