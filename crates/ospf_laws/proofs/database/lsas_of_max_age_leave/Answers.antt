use Rattle.std.proofs.Common.{sym, subst}
use Rattle.ospf_router.specs.State.{opening}
use Rattle.ospf_laws.specs.Left.{HasOnlyListedOfMaxAge}
use Rattle.ospf_laws.proofs.Removal.{left-opening, left-run}
use Rattle.ospf_laws.proofs.database.lsas_of_max_age_leave.Goals as goal

pub returns : goal.returns
returns c = λ s is.
    subst HasOnlyListedOfMaxAge (sym is.reached)
    (left-run c.sound_parts.ensures.handled c.sound_states.ensures.step (opening is.number is.costs is.prefixes) is.steps is.inputs
    (c.sound_states.ensures.opening is.number is.costs is.prefixes is.few) (left-opening is.number is.costs is.prefixes))
