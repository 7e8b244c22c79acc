use Rattle.ospf_router.proofs.Routers.{sound-flood_lsa, sound-send_lsas, sound-receive_lsa}
use Rattle.ospf_router.proofs.Steps.{sound-handled}
use Rattle.ospf_router.proofs.laws.sound_parts.Goals as goal

pub returns-clause-handled : goal.returns-clause-handled
returns-clause-handled c = λ r ports input bytes here sound. sound-handled ports input r bytes here sound

pub returns-clause-flooded : goal.returns-clause-flooded
returns-clause-flooded c = λ r mask key has sound. sound-flood_lsa mask key r has sound

pub returns-clause-send_lsas : goal.returns-clause-send_lsas
returns-clause-send_lsas c = λ r port keys all sound. sound-send_lsas port keys r all sound

pub returns-clause-received : goal.returns-clause-received
returns-clause-received c = λ t full port l sendable sound. sound-receive_lsa full port t l sendable sound
