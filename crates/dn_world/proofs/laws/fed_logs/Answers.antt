use Rattle.dn_world.proofs.LogLists.{fed-append, fed_prefix, fed_between, fed-stop, fed_log}
use Rattle.dn_world.proofs.laws.fed_logs.Goals as goal

pub returns-clause-append : goal.returns-clause-append
returns-clause-append c = λ xs ys. fed-append xs ys

pub returns-clause-front : goal.returns-clause-front
returns-clause-front c = λ xs ys p. fed_prefix xs ys p

pub returns-clause-between : goal.returns-clause-between
returns-clause-between c = λ xs ys zs p q e. fed_between xs ys zs p q e

pub returns-clause-stop : goal.returns-clause-stop
returns-clause-stop c = λ xs. fed-stop xs

pub returns-clause-steps : goal.returns-clause-steps
returns-clause-steps c = λ steps stopped. fed_log steps stopped
