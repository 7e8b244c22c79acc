use Rattle.dn_world.proofs.Together.{closed_stays, ended_same, rows_for_ever, cut_for_ever}
use Rattle.dn_world.proofs.laws.lasting.Goals as goal

pub returns-clause-closed : goal.returns-clause-closed
returns-clause-closed g c = λ net w steps h. closed_stays net w steps h

pub returns-clause-ended : goal.returns-clause-ended
returns-clause-ended g c = λ net w steps q b l. ended_same net w steps q b l

pub returns-clause-rows : goal.returns-clause-rows
returns-clause-rows g c = λ net xs ys t l. rows_for_ever net t xs ys l

pub returns-clause-cut : goal.returns-clause-cut
returns-clause-cut g c = λ net xs ys t l k. cut_for_ever net t xs ys l k
