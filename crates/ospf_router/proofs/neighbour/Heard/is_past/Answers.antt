use Rattle.ospf_router.proofs.neighbour.Heard.is_past.Goals as goal

pub returns : goal.returns
returns c = cc
