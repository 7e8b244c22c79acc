use Rattle.std.proofs.Common.{◌≡◌, map, take}
use Rattle.guest_any.proofs.making.costs_of.Given as goal

abbrev pub invariant-loop-end : goal.invariant-loop-end
invariant-loop-end l = l.costs.items ≡ map (λ e. e.cost) (take l.end-index l.ends)
