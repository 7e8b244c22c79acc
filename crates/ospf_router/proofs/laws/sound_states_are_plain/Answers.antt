use Rattle.ospf_router.proofs.Plain.{few_lsas, sendable_copy, sendable_lsas, short_lists}
use Rattle.ospf_router.proofs.laws.sound_states_are_plain.Goals as goal

pub returns-clause-copies : goal.returns-clause-copies
returns-clause-copies c = sendable_copy

pub returns-clause-received : goal.returns-clause-received
returns-clause-received c = sendable_lsas

pub returns-clause-few : goal.returns-clause-few
returns-clause-few c = few_lsas

pub returns-clause-lists : goal.returns-clause-lists
returns-clause-lists c = short_lists
