use Rattle.dn_lists.proofs.Lists.{all_append}
use Rattle.dn_world.specs.World.{part}
use Rattle.dn_world.specs.Runs.{IsPast}
use Rattle.dn_world.proofs.Parts.{all_of_get}
use Rattle.dn_world.proofs.Past.{from_waiting, waits_at}
use Rattle.dn_world.proofs.laws.waiting.Goals as goal

pub returns-clause-at : goal.returns-clause-at
returns-clause-at c = λ bound w r a.
    let here = waits_at (λ e. IsPast bound e.key) w r (from_waiting (λ e. IsPast bound e.key) w a) in
    all_append (λ e. IsPast bound e.key) (part w r).todo (part w r).voids here.0 here.1

pub returns-clause-flying : goal.returns-clause-flying
returns-clause-flying c = λ bound w place packet a h.
    all_of_get (λ p. IsPast bound p.event.key) w.flight place packet h (from_waiting (λ e. IsPast bound e.key) w a).1
