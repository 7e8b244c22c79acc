use Rattle.rip_guest.proofs.Plain.{told_plainly}
use Rattle.rip_guest.proofs.laws.sound_states_are_told_plainly.Goals as goal

pub returns : goal.returns
returns c = told_plainly
