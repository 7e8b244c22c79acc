use Rattle.std.proofs.Common.{false, refl}
use Rattle.dn_world.proofs.LogLists.{stopped_is_last, stop_stays, no_stop_within, stopped_log, log-push, log-stop}
use Rattle.dn_world.proofs.laws.logs.Goals as goal

pub returns-clause-last : goal.returns-clause-last
returns-clause-last c = λ xs ys l p s. stopped_is_last xs ys l p s

pub returns-clause-stays : goal.returns-clause-stays
returns-clause-stays c = λ xs ys l p s. stop_stays xs ys l p s

pub returns-clause-within : goal.returns-clause-within
returns-clause-within c = λ log place l e. no_stop_within log place l e

pub returns-clause-stopped : goal.returns-clause-stopped
returns-clause-stopped c = λ steps stopped. stopped_log steps stopped

pub returns-clause-did : goal.returns-clause-did
returns-clause-did c = λ steps s. log-push steps false s refl

pub returns-clause-stop : goal.returns-clause-stop
returns-clause-stop c = λ steps. log-stop steps false refl
