use Rattle.ospf_router.proofs.Steps.{sound-opening, sound-run, sound-step}
use Rattle.ospf_router.proofs.laws.sound_states.Goals as goal

pub returns-clause-opening : goal.returns-clause-opening
returns-clause-opening c = sound-opening

pub returns-clause-step : goal.returns-clause-step
returns-clause-step c = sound-step

pub returns-clause-run : goal.returns-clause-run
returns-clause-run c = sound-run
