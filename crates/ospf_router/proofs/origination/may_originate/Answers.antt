use Rattle.ospf_router.proofs.origination.may_originate.Goals as goal

pub returns-in-Some : goal.returns-in-Some
returns-in-Some c = cc
