use Rattle.ospf_guest.proofs.Plain.{sound_image}
use Rattle.ospf_guest.proofs.laws.sound_states_have_the_plain_image.Goals as goal

pub returns : goal.returns
returns c = sound_image
