use Rattle.std.proofs.Common.{◌≡◌, ℕ, ◌+◌, ◌-◌, ◌<◌, ◌≢◌, Bool, true, false, Option, Some, None, List, [], ◌∷◌, ◌++◌, refl, sym, ap, ◌∙◌, subst, inl, inr, arith, length, length-set, rules, take, get_or, set, drop, replicate, get_or-set_same, get_or-set_other}
use Rattle.std.proofs.lemmas.List.{length-replicate}
use Rattle.std.specs.Global.{Vec}
use Rattle.std.specs.List.{Contains}
use Rattle.std.proofs.lemmas.Bool.{cases_Bool, both_ways}
use Rattle.std.proofs.lemmas.List.Elements.{Contains-get_or}
use Rattle.ospf_spf.specs.declared.graph.Hop.{Hop}
use Rattle.ospf_spf.specs.Search.{row, label, flag, marked, inside, IsExact, IsSearch, Relaxed}
use Rattle.ospf_spf.proofs.Frontier.{exact_new, exact_none, exact_popped, some_inside}
use Rattle.ospf_spf.proofs.Settling.{settled_by, fits, step, found}
use Rattle.ospf_spf.proofs.Turning.{turn_of}
use Rattle.ospf_spf.proofs.Starting.{label_in, label_none, flag_none, marked_none, marked_lt, marked_set, row_is, written, start}
use Rattle.ospf_spf.proofs.search.least_costs.Goals as goal

pub loop-cost-init : goal.loop-cost-init
loop-cost-init c =
    let n = length c.args.hops.now in
    let b : c.in_ok-best.best.items ≡ replicate n None = c.in_ok-best.ensures.items_if_clones_equal (λ y h. search rules) in
    let d : c.in_ok-done.done.items ≡ replicate n false = c.in_ok-done.ensures.items_if_clones_equal (λ y h. h) in
    let xs = set c.in_ok-best.best.items c.args.root (Some 0) in
    let bl : length c.in_ok-best.best.items ≡ n = ap length b ∙ length-replicate n None in
    let dl : length c.in_ok-done.done.items ≡ n = ap length d ∙ length-replicate n false in
    let none : (v : ℕ) → label c.in_ok-best.best.items v ≡ None = λ v. ap (λ ys. label ys v) b ∙ label_none n v in
    let down : (v : ℕ) → flag c.in_ok-done.done.items v ≡ false = λ v. ap (λ ys. flag ys v) d ∙ flag_none n v in
    let rl : c.args.root < length c.in_ok-best.best.items = (let r = c.requires.root in omega arith) in
    let lr : label xs c.args.root ≡ Some 0 = get_or-set_same c.in_ok-best.best.items c.args.root (Some 0) None rl in
    let ls : (v : ℕ) → v ≢ c.args.root → label xs v ≡ label c.in_ok-best.best.items v = λ v ne. get_or-set_other c.in_ok-best.best.items c.args.root v (Some 0) None ne in
    let m : marked c.in_ok-done.done.items ≡ 0 = ap marked d ∙ marked_none n in
    record {
      best_len = length-set c.in_ok-best.best.items c.args.root (Some 0) ∙ bl;
      done_len = dl;
      search =
          subst (λ (k : ℕ). IsSearch c.args.hops.now c.args.root (label xs) (flag c.in_ok-done.done.items) c.new-order.result.items k n) (sym m)
          (subst (λ (os : List ℕ). IsSearch c.args.hops.now c.args.root (label xs) (flag c.in_ok-done.done.items) os 0 n) (sym c.new-order.ensures.items)
          (start c.args.hops.now c.args.root n (label xs) (flag c.in_ok-done.done.items) lr (λ v ne. ls v ne ∙ none v) down));
      exact =
          exact_new (label c.in_ok-best.best.items) (label xs) (flag c.in_ok-done.done.items) c.new-todo.result c.insert.new.self c.args.root 0
          (exact_none (label c.in_ok-best.best.items) (flag c.in_ok-done.done.items) c.new-todo.result c.new-todo.ensures.empty none)
          (down c.args.root) (none c.args.root) lr ls c.in_ok-insert.ensures.updates;
    }

pub index_mut-requires-in-Some : goal.index_mut-requires-in-Some
index_mut-requires-in-Some c =
    let i = c.loop-cost.invariant in
    let l = label_in c.loop-cost.best.items c.in-Some.vertex c.in-Some.cost (i.exact.cost c.in-Some.cost c.in-Some.vertex c.in-Some.ensures.member) in
    let k = c.loop-cost.done.ok.0 in
    let a = i.best_len in
    let b = i.done_len in
    omega arith

pub offset_bounds-hops-vertex : goal.offset_bounds-hops-vertex
offset_bounds-hops-vertex c =
    let i = c.loop-cost.invariant in
    let l = label_in c.loop-cost.best.items c.in-Some.vertex c.in-Some.cost (i.exact.cost c.in-Some.cost c.in-Some.vertex c.in-Some.ensures.member) in
    let a = i.best_len in
    let b = c.requires.size in
    omega arith

pub bounds-hops-vertex : goal.bounds-hops-vertex
bounds-hops-vertex c =
    let i = c.loop-cost.invariant in
    let l = label_in c.loop-cost.best.items c.in-Some.vertex c.in-Some.cost (i.exact.cost c.in-Some.cost c.in-Some.vertex c.in-Some.ensures.member) in
    let a = i.best_len in
    omega arith

pub relax-requires-clause-cost : goal.relax-requires-clause-cost
relax-requires-clause-cost c = let f = fits _ _ _ _ _ _ _ _ _ _ _ (turn_of c.args.hops.now c.args.root c.loop-cost.best.items c.loop-cost.done.items c.loop-cost.todo c.loop-cost.order.items c.in-Some.vertex c.in-Some.cost c.loop-cost.invariant.best_len c.loop-cost.invariant.done_len c.requires.hops c.loop-cost.invariant.search c.loop-cost.invariant.exact c.in-Some.ensures.member c.in-Some.ensures.least) in let z = c.requires.size in omega arith

pub relax-requires-clause-row : goal.relax-requires-clause-row
relax-requires-clause-row c k d l =
    let in_best = label_in c.loop-cost.best.items c.in-Some.vertex c.in-Some.cost (c.loop-cost.invariant.exact.cost c.in-Some.cost c.in-Some.vertex c.in-Some.ensures.member) in
    let same_len = c.loop-cost.invariant.best_len in
    let in_hops : c.in-Some.vertex < length c.args.hops.now = omega arith in
    let e : c.deref.result.now ≡ row c.args.hops.now c.in-Some.vertex = c.deref.ensures.value ∙ ap (λ (v : Vec Hop). v.items) c.index-hops-vertex.is ∙ sym (row_is c.args.hops.now c.in-Some.vertex c.index-hops-vertex.result in_hops) in
    let i : Contains (row c.args.hops.now c.in-Some.vertex) (get_or c.deref.result.now k d) = subst (λ (hs : List Hop). Contains hs (get_or c.deref.result.now k d)) e (Contains-get_or c.deref.result.now k d l) in
    let h = (c.requires.hops c.in-Some.vertex (get_or c.deref.result.now k d) i).0 in
    let a = c.loop-cost.invariant.best_len in
    let b = ap length c.deref_mut.ensures.value in
    omega arith

pub relax-requires-clause-exact : goal.relax-requires-clause-exact
relax-requires-clause-exact c =
    let i = c.loop-cost.invariant in
    let t = (turn_of c.args.hops.now c.args.root c.loop-cost.best.items c.loop-cost.done.items c.loop-cost.todo c.loop-cost.order.items c.in-Some.vertex c.in-Some.cost c.loop-cost.invariant.best_len c.loop-cost.invariant.done_len c.requires.hops c.loop-cost.invariant.search c.loop-cost.invariant.exact c.in-Some.ensures.member c.in-Some.ensures.least) in
    subst (λ (xs : List (Option ℕ)). IsExact (label xs) (flag c.deref-in-Some.result.now) (inside c.pop_first.new.self)) (sym c.deref_mut.ensures.value)
    (subst (λ (bs : List Bool). IsExact (label c.loop-cost.best.items) (flag bs) (inside c.pop_first.new.self)) (sym c.deref-in-Some.ensures.value)
    (exact_popped (label c.loop-cost.best.items) (flag c.loop-cost.done.items) (flag (set c.loop-cost.done.items c.in-Some.vertex true)) c.loop-cost.todo c.pop_first.new.self c.in-Some.vertex c.in-Some.cost i.exact
    (i.exact.cost c.in-Some.cost c.in-Some.vertex c.in-Some.ensures.member) t.now t.others c.in-Some.ensures.updates))

pub relax-requires-clause-settled : goal.relax-requires-clause-settled
relax-requires-clause-settled c v h =
    let p = settled_by _ _ _ _ _ _ _ _ _ _ _ (turn_of c.args.hops.now c.args.root c.loop-cost.best.items c.loop-cost.done.items c.loop-cost.todo c.loop-cost.order.items c.in-Some.vertex c.in-Some.cost c.loop-cost.invariant.best_len c.loop-cost.invariant.done_len c.requires.hops c.loop-cost.invariant.search c.loop-cost.invariant.exact c.in-Some.ensures.member c.in-Some.ensures.least) v (sym (ap (λ (bs : List Bool). flag bs v) c.deref-in-Some.ensures.value) ∙ h) in
    (p.0, ap (λ (xs : List (Option ℕ)). label xs v) c.deref_mut.ensures.value ∙ p.1, p.2)

pub loop-cost-smaller : goal.loop-cost-smaller
loop-cost-smaller c =
    let i = c.loop-cost.invariant in
    let off = i.exact.todo c.in-Some.cost c.in-Some.vertex c.in-Some.ensures.member in
    let l = label_in c.loop-cost.best.items c.in-Some.vertex c.in-Some.cost (i.exact.cost c.in-Some.cost c.in-Some.vertex c.in-Some.ensures.member) in
    let a = i.best_len in
    let b = i.done_len in
    let dl : c.in-Some.vertex < length c.loop-cost.done.items = omega arith in
    let room = marked_lt c.loop-cost.done.items c.in-Some.vertex dl off in
    let more = marked_set c.loop-cost.done.items c.in-Some.vertex dl off in
    let e : length c.args.hops.now - marked (set c.loop-cost.done.items c.in-Some.vertex true) < length c.args.hops.now - marked c.loop-cost.done.items = omega arith in
    e

pub loop-cost-preserved : goal.loop-cost-preserved
loop-cost-preserved c =
    let n = length c.args.hops.now in
    let t = (turn_of c.args.hops.now c.args.root c.loop-cost.best.items c.loop-cost.done.items c.loop-cost.todo c.loop-cost.order.items c.in-Some.vertex c.in-Some.cost c.loop-cost.invariant.best_len c.loop-cost.invariant.done_len c.requires.hops c.loop-cost.invariant.search c.loop-cost.invariant.exact c.in-Some.ensures.member c.in-Some.ensures.least) in
    let i = c.loop-cost.invariant in
    let best = c.loop-cost.best.items in
    let new = c.relax.new.best in
    let done = set c.loop-cost.done.items c.in-Some.vertex true in
    let len : length new ≡ c.loop-cost.best.len = c.relax.auto.best ∙ ap length c.deref_mut.ensures.value ∙ sym c.loop-cost.best.ok.0 in
    let w : take c.loop-cost.best.len (new ++ drop (length new) best) ≡ new = written c.loop-cost.best.len new (drop (length new) best) len in
    let in_best = label_in c.loop-cost.best.items c.in-Some.vertex c.in-Some.cost (c.loop-cost.invariant.exact.cost c.in-Some.cost c.in-Some.vertex c.in-Some.ensures.member) in
    let same_len = c.loop-cost.invariant.best_len in
    let in_hops : c.in-Some.vertex < length c.args.hops.now = omega arith in
    let e : c.deref.result.now ≡ row c.args.hops.now c.in-Some.vertex = c.deref.ensures.value ∙ ap (λ (v : Vec Hop). v.items) c.index-hops-vertex.is ∙ sym (row_is c.args.hops.now c.in-Some.vertex c.index-hops-vertex.result in_hops) in
    let rel : Relaxed (row c.args.hops.now c.in-Some.vertex) c.in-Some.cost (label best) (label new) =
    subst (λ (hs : List Hop). Relaxed hs c.in-Some.cost (label best) (label new)) e
    (subst (λ (xs : List (Option ℕ)). Relaxed c.deref.result.now c.in-Some.cost (label xs) (label new)) c.deref_mut.ensures.value c.in_ok-relax.ensures.relaxed) in
    let off = i.exact.todo c.in-Some.cost c.in-Some.vertex c.in-Some.ensures.member in
    let l = label_in best c.in-Some.vertex c.in-Some.cost (i.exact.cost c.in-Some.cost c.in-Some.vertex c.in-Some.ensures.member) in
    let a = i.best_len in
    let b = i.done_len in
    let dl : c.in-Some.vertex < length c.loop-cost.done.items = omega arith in
    let s : IsSearch c.args.hops.now c.args.root (label new) (flag done) (c.loop-cost.order.items ++ c.in-Some.vertex ∷ []) (marked c.loop-cost.done.items + 1) n = step _ _ _ _ _ _ _ _ _ _ _ t (label new) rel in
    record {
      best_len = ap length w ∙ len ∙ c.loop-cost.best.ok.0 ∙ a;
      done_len = length-set c.loop-cost.done.items c.in-Some.vertex true ∙ b;
      search =
          subst (λ (xs : List (Option ℕ)). IsSearch c.args.hops.now c.args.root (label xs) (flag done) c.push.new.self.items (marked done) n) (sym w)
          (subst (λ (os : List ℕ). IsSearch c.args.hops.now c.args.root (label new) (flag done) os (marked done) n) (sym c.in_ok-push.ensures.items)
          (subst (λ (k : ℕ). IsSearch c.args.hops.now c.args.root (label new) (flag done) (c.loop-cost.order.items ++ c.in-Some.vertex ∷ []) k n) (sym (marked_set c.loop-cost.done.items c.in-Some.vertex dl off)) s));
      exact =
          subst (λ (xs : List (Option ℕ)). IsExact (label xs) (flag done) (inside c.relax.new.todo)) (sym w)
          (subst (λ (bs : List Bool). IsExact (label new) (flag bs) (inside c.relax.new.todo)) c.deref-in-Some.ensures.value c.in_ok-relax.ensures.exact);
    }

pub returns-clause-least : goal.returns-clause-least
returns-clause-least c =
    let i = c.loop-cost.invariant in
    found c.args.hops.now c.args.root (label c.loop-cost.best.items) (flag c.loop-cost.done.items) c.loop-cost.order.items (marked c.loop-cost.done.items) (length c.args.hops.now) i.search
    (λ v d l.
    elim (cases_Bool (flag c.loop-cost.done.items v)) [
      | inl y ↦ y
      | inr y ↦ absurd (let w = i.exact.waits d v y l in let z : false ≡ true = c.in_default.ensures.variant.1 (some_inside c.loop-cost.todo d v w) in both_ways true (sym z) refl)
    ])
