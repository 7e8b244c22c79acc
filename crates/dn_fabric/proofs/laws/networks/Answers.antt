use Rattle.dn_fabric.proofs.Nets.{some_network}
use Rattle.dn_fabric.proofs.laws.networks.Goals as goal

pub returns : goal.returns
returns g c = λ guests header openings some count. some_network guests header openings some count
