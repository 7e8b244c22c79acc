use Rattle.dn_model.specs.Network.{routers}
use Rattle.dn_world.specs.World.{opening}
use Rattle.dn_world.proofs.Together.{run_both, legal_both, legal_rest, front_legal}
use Rattle.dn_world.proofs.laws.runs_together.Goals as goal

pub returns-clause-world : goal.returns-clause-world
returns-clause-world g c = λ net xs ys. run_both net (opening (routers net)) xs ys

pub returns-clause-legal : goal.returns-clause-legal
returns-clause-legal g c = λ net xs ys l m. legal_both net (opening (routers net)) xs ys l m

pub returns-clause-rest : goal.returns-clause-rest
returns-clause-rest g c = λ net xs ys l. legal_rest net xs ys l

pub returns-clause-front : goal.returns-clause-front
returns-clause-front g c = λ net xs ys p l. front_legal net xs ys p l
