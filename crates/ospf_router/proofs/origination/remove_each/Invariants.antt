use Rattle.std.proofs.Common.{◌≡◌, take}
use Rattle.std.specs.Prelude.{fold}
use Rattle.ospf_router.specs.Origination.{remove_max_age_lsa}
use Rattle.ospf_router.proofs.origination.remove_each.Given as goal

abbrev pub invariant-loop-key : goal.invariant-loop-key
invariant-loop-key l = l.db ≡ fold (remove_max_age_lsa l.interfaces) l.fn.db (take l.key-index l.keys)
