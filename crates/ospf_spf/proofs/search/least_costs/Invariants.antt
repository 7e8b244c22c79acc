use Rattle.std.proofs.Common.{◌≡◌, ◌-◌, length}
use Rattle.ospf_spf.specs.Search.{label, flag, IsExact, inside, IsSearch, marked}
use Rattle.ospf_spf.proofs.search.least_costs.Given as goal

abbrev pub invariant-loop-cost : goal.invariant-loop-cost
invariant-loop-cost l = record {
  best_len : length l.best.items ≡ length l.hops;
  done_len : length l.done.items ≡ length l.hops;
  search : IsSearch l.hops l.root (label l.best.items) (flag l.done.items) l.order.items (marked l.done.items) (length l.hops);
  exact : IsExact (label l.best.items) (flag l.done.items) (inside l.todo);
}

abbrev pub decreases-loop-cost : goal.decreases-loop-cost
decreases-loop-cost l = length l.hops - marked l.done.items
