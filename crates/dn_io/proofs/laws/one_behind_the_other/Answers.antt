use Rattle.dn_io.proofs.StreamLaws.{behind-behind}
use Rattle.dn_io.proofs.laws.one_behind_the_other.Goals as goal

pub returns : goal.returns
returns c = behind-behind
