use Rattle.dn_guest.proofs.FloodLaws.{same_keys}
use Rattle.dn_guest.proofs.body_set.same_bodies.Goals as goal

pub returns : goal.returns
returns c = same_keys c.args.bodies.now.keys c.args.others.now.keys c.eq.result c.eq.ensures
