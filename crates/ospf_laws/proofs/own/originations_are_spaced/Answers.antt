use Rattle.ospf_laws.proofs.OwnLsa.{spaced-step}
use Rattle.ospf_laws.proofs.own.originations_are_spaced.Goals as goal

pub returns : goal.returns
returns c = spaced-step
