use Rattle.dn_model.proofs.Rows.{rows_settled_below, rows_below_front}
use Rattle.dn_model.proofs.laws.rows_below_a_key.Goals as goal

pub returns-clause-same : goal.returns-clause-same
returns-clause-same g c = λ net feed timed fed bound f s. rows_settled_below net feed timed fed bound f s

pub returns-clause-front : goal.returns-clause-front
returns-clause-front g c = λ net feed timed fed bound. rows_below_front net feed timed fed bound
