use Rattle.std.proofs.Common.{take}
use Rattle.ospf_spf.specs.Search.{label, flag, IsExact, inside, Relaxed, AreSettled}
use Rattle.ospf_spf.proofs.search.relax.Given as goal

abbrev pub invariant-loop-hop : goal.invariant-loop-hop
invariant-loop-hop l = record {
  relaxed : Relaxed (take l.hop-index l.row) l.cost (label l.fn.best) (label l.best);
  exact : IsExact (label l.best) (flag l.done) (inside l.todo);
  settled : AreSettled (label l.best) (flag l.done) l.cost;
}
