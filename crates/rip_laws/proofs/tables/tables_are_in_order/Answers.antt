use Rattle.rip_laws.proofs.Lookups.{entries_are_held}
use Rattle.rip_laws.proofs.tables.tables_are_in_order.Goals as goal

pub returns-clause-ascending : goal.returns-clause-ascending
returns-clause-ascending c = λ s is. (c.reached_states.ensures.sound s is).routes.rising

pub returns-clause-entries : goal.returns-clause-entries
returns-clause-entries c = λ s is. entries_are_held s.routes (c.reached_states.ensures.sound s is).routes.rising
