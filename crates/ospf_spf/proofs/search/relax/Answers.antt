use Rattle.std.proofs.Common.{◌≡◌, ℕ, ◌+◌, ◌<◌, ◌≢◌, List, Some, None, take, length, get_or, set, get_or-set_same, get_or-set_other, sym, ap, ◌∙◌, subst, arith}
use Rattle.std.proofs.lemmas.List.{take_more}
use Rattle.ospf_spf.specs.declared.graph.Hop.{Hop}
use Rattle.ospf_spf.specs.Search.{label, flag, lesser_cost, Relaxed}
use Rattle.ospf_spf.proofs.Relaxing.{relaxed_push, settled_still}
use Rattle.ospf_spf.proofs.search.relax.Goals as goal

pub loop-hop-preserved : goal.loop-hop-preserved
loop-hop-preserved c =
    let d : Hop = record { to = 0; port = 0; metric = 0 } in
    let rs = c.args.row.now in
    let i = c.loop-hop.hop-index in
    let h = get_or rs i d in
    let m = c.loop-hop.best in
    let n = c.lower_cost.new.best in
    let lt : h.to < length m = (let x = c.requires.row i d c.loop-hop-test.true in let y = c.loop-hop.auto.best in omega arith) in
    let b : n ≡ set m h.to (Some (lesser_cost (label m h.to) (c.args.cost + h.metric))) = c.in_ok-lower_cost.ensures.best ∙ ap (λ k. set m h.to (Some (lesser_cost (label m h.to) (c.args.cost + k)))) c.from.ensures in
    let nt : label n h.to ≡ Some (lesser_cost (label m h.to) (c.args.cost + h.metric)) = ap (λ xs. label xs h.to) b ∙ get_or-set_same m h.to (Some (lesser_cost (label m h.to) (c.args.cost + h.metric))) None lt in
    let ns : (v : ℕ) → v ≢ h.to → label n v ≡ label m v = λ v ne. ap (λ xs. label xs v) b ∙ get_or-set_other m h.to v (Some (lesser_cost (label m h.to) (c.args.cost + h.metric))) None ne in
    record {
      relaxed =
          subst (λ (ys : List Hop). Relaxed ys c.args.cost (label c.args.best.now) (label n)) (sym (take_more rs i d c.loop-hop-test.true))
          (relaxed_push (take i rs) h c.args.cost (label c.args.best.now) (label m) (label n) c.loop-hop.invariant.relaxed nt ns);
      exact = c.in_ok-lower_cost.ensures.exact;
      settled = settled_still (label m) (label n) (flag c.args.done.now) h.to (c.args.cost + h.metric) c.args.cost c.loop-hop.invariant.settled nt ns;
    }
