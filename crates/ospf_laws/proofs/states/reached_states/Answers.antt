use Rattle.std.proofs.Common.{sym, subst}
use Rattle.ospf_router.specs.Sound.{IsSoundState}
use Rattle.ospf_laws.proofs.Runs.{opening_reached, step_reached}
use Rattle.ospf_laws.proofs.states.reached_states.Goals as goal

pub returns-clause-opening : goal.returns-clause-opening
returns-clause-opening c = opening_reached

pub returns-clause-step : goal.returns-clause-step
returns-clause-step c = step_reached

pub returns-clause-sound : goal.returns-clause-sound
returns-clause-sound c = λ s is. subst IsSoundState (sym is.reached) (c.sound_states.ensures.run is.number is.costs is.prefixes is.steps is.few is.inputs)
