use Rattle.std.proofs.Common.{sym}
use Rattle.std.proofs.lemmas.Bool.{false≢true}
use Rattle.dn_fabric.proofs.world.World.stop.Goals as goal

pub invariant_of-self : goal.invariant_of-self
invariant_of-self g c =
    let w = c.self.invariant in record {
      rules = w.rules;
      count = w.count;
      routers = w.routers;
      bounds = λ run r router at. absurd (false≢true (sym run));
      few = w.few;
      full = w.full;
    }
