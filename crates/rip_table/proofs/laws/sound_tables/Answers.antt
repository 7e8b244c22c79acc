use Rattle.rip_table.proofs.Sound.{sound_connect, sound_empty, sound_held, sound_lose, sound_lose_port, sound_response, sound_settle, sound_tick}
use Rattle.rip_table.proofs.laws.sound_tables.Goals as goal

pub returns-clause-new : goal.returns-clause-new
returns-clause-new c = sound_empty

pub returns-clause-response : goal.returns-clause-response
returns-clause-response c = sound_response

pub returns-clause-connect : goal.returns-clause-connect
returns-clause-connect c = sound_connect

pub returns-clause-lose : goal.returns-clause-lose
returns-clause-lose c = sound_lose

pub returns-clause-lose_port : goal.returns-clause-lose_port
returns-clause-lose_port c = sound_lose_port

pub returns-clause-tick : goal.returns-clause-tick
returns-clause-tick c = sound_tick

pub returns-clause-settle : goal.returns-clause-settle
returns-clause-settle c = sound_settle

pub returns-clause-held : goal.returns-clause-held
returns-clause-held c = sound_held
