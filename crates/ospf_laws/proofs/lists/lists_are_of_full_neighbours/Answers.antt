use Rattle.std.proofs.Common.{sym, subst}
use Rattle.ospf_router.specs.State.{OspfState}
use Rattle.ospf_laws.specs.Lists.{AreOfFull}
use Rattle.ospf_laws.proofs.FullRouters.{run_of_full}
use Rattle.ospf_laws.proofs.lists.lists_are_of_full_neighbours.Goals as goal

pub returns : goal.returns
returns c = λ s is. subst (λ (t : OspfState). AreOfFull t.interfaces) (sym is.reached) (run_of_full is.number is.costs is.prefixes is.steps)
