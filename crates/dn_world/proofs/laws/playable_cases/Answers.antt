use Rattle.std.proofs.Common.{sym, subst}
use Rattle.dn_world.specs.Runs.{IsPlayable}
use Rattle.dn_world.proofs.Cases.{playable_from, dont_fall_from}
use Rattle.dn_world.proofs.laws.playable_cases.Goals as goal

pub returns-clause-playable : goal.returns-clause-playable
returns-clause-playable g c = λ net case is same. subst IsPlayable (sym same) (playable_from case.header is.header)

pub returns-clause-dont_fall : goal.returns-clause-dont_fall
returns-clause-dont_fall g c = λ case is. dont_fall_from case.header 0 case.feed is.feed
