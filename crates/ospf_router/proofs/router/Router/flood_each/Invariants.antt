use Rattle.std.proofs.Common.{◌≡◌, take}
use Rattle.std.specs.Prelude.{fold}
use Rattle.ospf_router.specs.Flooding.{flood_next_lsa}
use Rattle.ospf_router.proofs.router.Router.flood_each.Given as goal

abbrev pub invariant-loop-key : goal.invariant-loop-key
invariant-loop-key l = l.self ≡ fold (flood_next_lsa l.mask) l.fn.self (take l.key-index l.keys)
