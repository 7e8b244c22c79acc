use Rattle.rip_laws.proofs.Poisoned.{Laws, poisoned}
use Rattle.rip_laws.proofs.sent.updates_have_split_horizon.Goals as goal

laws : goal.After-written_messages_are_read → Laws
laws c = record {
  read = c.written_messages_are_read.ensures.read;
  held = c.sound_tables.ensures.held;
  tick = c.sound_tables.ensures.tick;
  handled = c.sound_states.ensures.handled;
}

pub returns : goal.returns
returns c = λ s ports input is bytes single. poisoned (laws c) s ports input bytes single (c.reached_states.ensures.sound s is)
