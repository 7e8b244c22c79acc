use Rattle.dn_model.specs.Network.{routers}
use Rattle.dn_world.specs.World.{opening}
use Rattle.dn_world.proofs.Feed.{fed_legal, fed_continues}
use Rattle.dn_world.proofs.laws.fed_runs.Goals as goal

pub returns-clause-legal : goal.returns-clause-legal
returns-clause-legal g c = λ net feed rest steps f. fed_legal net (opening (routers net)) feed rest steps f

pub returns-clause-continues : goal.returns-clause-continues
returns-clause-continues g c = λ net feed rest steps d f. fed_continues net feed rest steps d f
