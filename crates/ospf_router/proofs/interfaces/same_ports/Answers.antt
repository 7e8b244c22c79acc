use Rattle.std.proofs.lemmas.Slice.Eq.{slice_eq-Decides}
use Rattle.ospf_router.proofs.Equalities.{ports_decide}
use Rattle.ospf_router.proofs.interfaces.same_ports.Goals as goal

pub returns : goal.returns
returns c = slice_eq-Decides ports_decide c.args.ports.now c.args.others.now c.eq.result c.eq.ensures
