use Rattle.dn_world.proofs.Balance.{counted}
use Rattle.dn_world.proofs.Growth.{rows_grow, rows_stay, committed_grow, cut_stays, ended_stays}
use Rattle.dn_world.proofs.laws.growth.Goals as goal

pub returns-clause-grow : goal.returns-clause-grow
returns-clause-grow g c = λ net w s h b p. rows_grow net w s h (counted net w b) p

pub returns-clause-stay : goal.returns-clause-stay
returns-clause-stay g c = λ net w s h b p e. rows_stay net w s h (counted net w b) p e

pub returns-clause-committed : goal.returns-clause-committed
returns-clause-committed g c = λ net w s h b p. committed_grow net w s h (counted net w b) p

pub returns-clause-cut : goal.returns-clause-cut
returns-clause-cut g c = λ net w s h b p k. cut_stays net w s h (counted net w b) p k

pub returns-clause-ended : goal.returns-clause-ended
returns-clause-ended g c = λ net w s q e h. ended_stays net w s q e h
