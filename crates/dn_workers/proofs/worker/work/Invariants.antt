use Rattle.dn_workers.specs.Work.{HasWorked}
use Rattle.dn_workers.proofs.worker.work.Given as goal

abbrev pub invariant-loop : goal.invariant-loop
invariant-loop g l = HasWorked l.fn.seat l.seat
