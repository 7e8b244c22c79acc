use Rattle.ospf_laws.proofs.OwnLsa.{current-step}
use Rattle.ospf_laws.proofs.own.own_lsa_is_current.Goals as goal

pub returns : goal.returns
returns c = λ s ports input is bytes here. current-step c.sound_parts.ensures.handled s ports input bytes (c.reached_states.ensures.sound s is) here
