use Rattle.rip_wire.specs.Reading.{entry_at}
use Rattle.rip_wire.proofs.entry.read_entry.Goals as goal

pub returns : goal.returns
unfolding entry_at
returns c = cc
