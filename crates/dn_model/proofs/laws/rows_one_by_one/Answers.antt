use Rattle.dn_model.proofs.Rows.{next_row, last_row}
use Rattle.dn_model.proofs.Steps.{so_far_start, so_far_moved, so_far_step}
use Rattle.dn_model.proofs.laws.rows_one_by_one.Goals as goal

pub returns-clause-first : goal.returns-clause-first
returns-clause-first g c = λ net feed. so_far_start net feed

pub returns-clause-in_any_order : goal.returns-clause-in_any_order
returns-clause-in_any_order g c = λ net feed done waiting other so moves. so_far_moved net feed done waiting other so moves

pub returns-clause-onward : goal.returns-clause-onward
returns-clause-onward g c = λ net feed timed wired fed done waiting rest e so moves least. so_far_step net feed timed wired fed done waiting rest e so moves least

pub returns-clause-next : goal.returns-clause-next
returns-clause-next g c = λ net feed timed fed done waiting rest e so moves least. next_row net feed timed fed done waiting rest e so moves least

pub returns-clause-last : goal.returns-clause-last
returns-clause-last g c = λ net feed timed fed done so. last_row net feed timed fed done so
