use Rattle.rip_table.proofs.RouteLaws.{held_here, put_elsewhere}
use Rattle.rip_table.proofs.laws.a_change_is_at_one_network.Goals as goal

pub returns-clause-here : goal.returns-clause-here
returns-clause-here c = λ routes n h. held_here n h routes

pub returns-clause-elsewhere : goal.returns-clause-elsewhere
returns-clause-elsewhere c = put_elsewhere
