use Rattle.std.proofs.Common.{◌<◌, length, sym, subst}
use Rattle.std.specs.List.{AllByRecursion}
use Rattle.dn_model.specs.Cases.{Heading}
use Rattle.dn_model.specs.Network.{routers}
use Rattle.dn_model.specs.Settled.{IsTimed, IsFeedOf}
use Rattle.dn_model.proofs.Ports.{timed_from, wired_from, fed_from}
use Rattle.dn_model.proofs.laws.cases_are_timed.Goals as goal

pub returns-clause-timed : goal.returns-clause-timed
returns-clause-timed g c = λ net case is same. subst IsTimed (sym same) (timed_from case.header is.header)

pub returns-clause-fed : goal.returns-clause-fed
returns-clause-fed g c = λ net case is same. let P : Heading → Type 0 = λ h. IsFeedOf h case.feed in subst P (sym same) (fed_from case.header 0 case.feed is.feed)

pub returns-clause-wired : goal.returns-clause-wired
unfolding routers
returns-clause-wired g c = λ net case is same. let P : Heading → Type 0 = λ h. AllByRecursion (λ l. (l.a < length h.routers) × (l.b < length h.routers)) h.links in subst P (sym same) (wired_from case.header is.header)
