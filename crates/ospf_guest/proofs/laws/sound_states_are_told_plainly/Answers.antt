use Rattle.ospf_guest.proofs.Plain.{sound_count, sound_lists, sound_lsas, sound_ports, sound_routes}
use Rattle.ospf_guest.proofs.laws.sound_states_are_told_plainly.Goals as goal

pub returns-clause-ports : goal.returns-clause-ports
returns-clause-ports c = sound_ports

pub returns-clause-lists : goal.returns-clause-lists
returns-clause-lists c = sound_lists

pub returns-clause-lsas : goal.returns-clause-lsas
returns-clause-lsas c = sound_lsas

pub returns-clause-count : goal.returns-clause-count
returns-clause-count c = sound_count

pub returns-clause-routes : goal.returns-clause-routes
returns-clause-routes c = sound_routes
