-- What is known as a vertex is settled, of the lists.
use Rattle.std.proofs.Common.{◌≡◌, ℕ, ◌<◌, Bool, true, false, Option, List, arith, length, set, get_or-set_same, get_or-set_other}
use Rattle.std.specs.Global.{Vec}
use Rattle.std.specs.Ordering.{is_gt}
use Rattle.std.specs.BTreeSet.{BTreeSet, contains}
use Rattle.ospf_spf.specs.declared.graph.Hop.{Hop}
use Rattle.ospf_spf.specs.Search.{label, flag, marked, inside, pair_cmp, IsExact, IsSearch, AreHops}
use Rattle.ospf_spf.proofs.Frontier.{least_cost}
use Rattle.ospf_spf.proofs.Settling.{IsTurn}
use Rattle.ospf_spf.proofs.Starting.{label_in, marked_lt}

pub turn_of : (H : List (Vec Hop)) (root : ℕ) (best : List (Option ℕ)) (done : List Bool) (todo : BTreeSet (ℕ × ℕ)) (order : List ℕ) (v cost : ℕ) → length best ≡ length H → length done ≡ length H → AreHops H (length H) → IsSearch H root (label best) (flag done) order (marked done) (length H) → IsExact (label best) (flag done) (inside todo) → inside todo cost v ≡ true → ((q : ℕ × ℕ) → contains pair_cmp todo q ≡ true → is_gt (pair_cmp (cost, v) q) ≡ false) → IsTurn H root (label best) (flag done) (flag (set done v true)) (inside todo) order (marked done) (length H) v cost
turn_of H root best done todo order v cost a b hops search exact here least =
    let off = exact.todo cost v here in
    let l = label_in best v cost (exact.cost cost v here) in
    let dl : v < length done = omega arith in
    let room = marked_lt done v dl off in
    record {
      search = search;
      exact = exact;
      here = here;
      least = λ d w h. least_cost cost v d w (least (d, w) h);
      now = get_or-set_same done v true false dl;
      others = λ w ne. get_or-set_other done v w true false ne;
      room = omega arith;
      hops = hops;
    }
