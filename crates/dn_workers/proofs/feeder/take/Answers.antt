use Rattle.dn_workers.proofs.Going.{taken}
use Rattle.dn_workers.proofs.feeder.take.Goals as goal

pub returns-in-Some-try_take-clause-taken : goal.returns-in-Some-try_take-clause-taken
returns-in-Some-try_take-clause-taken g c = let t = c.in-Some-try_take.ensures in taken c.loop.seat c.try_take.new.seat c.in-Some-try_take.fabric t.some t.header t.seen t.fed
