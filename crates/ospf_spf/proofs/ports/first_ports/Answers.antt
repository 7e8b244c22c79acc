use Rattle.std.proofs.Common.{◌≡◌, ℕ, ◌+◌, ◌<◌, List, eqb, Option, Some, None, refl, drop, replicate, length, get_or, sym, ap, ◌∙◌, subst, arith}
use Rattle.std.specs.Global.{Vec}
use Rattle.std.specs.List.{Contains}
use Rattle.std.proofs.lemmas.List.{length-replicate}
use Rattle.std.proofs.lemmas.List.Elements.{Contains-get_or}
use Rattle.ospf_spf.specs.declared.graph.Hop.{Hop}
use Rattle.ospf_spf.specs.Search.{label, row}
use Rattle.ospf_spf.specs.Ports.{ArePassedOn, AreViaFrom}
use Rattle.ospf_spf.proofs.Passing.{via_step, all_via, no_via}
use Rattle.ospf_spf.proofs.Starting.{label_in, row_is, written, at_default, zeros}
use Rattle.ospf_spf.proofs.ports.first_ports.Goals as goal
use Rattle.ospf_spf.proofs.ports.first_ports.Goals.{in-Some, in_default}

pub loop-vertex-init : goal.loop-vertex-init
loop-vertex-init c =
    let d : c.in_ok-masks.masks.items ≡ replicate (length c.args.hops.now) 0 = c.in_ok-masks.ensures.items_if_clones_equal (λ y h. h) in
    record {
      len = ap length d ∙ length-replicate (length c.args.hops.now) 0;
      via = no_via c.args.hops.now c.args.root (label c.args.found.now.best.items) c.args.found.now.order.items (length c.args.hops.now) c.requires.least c.requires.hops c.in_ok-masks.masks.items (λ w. ap (λ ms. get_or ms w 0) d ∙ zeros (length c.args.hops.now) w);
    }

pub index-requires : goal.index-requires
index-requires c =
    let items = c.deref-vertex-items.result.now in
    let order = c.args.found.now.order.items in
    let best = c.args.found.now.best.items in
    let i = c.loop-vertex.vertex-index in
    let u = get_or items i 0 in
    let same = c.deref-vertex-items.ensures.value in
    let iu : u ≡ get_or order i 0 = ap (λ xs. get_or xs i 0) same in
    let il : i < length order = (let t = c.loop-vertex-test.true in let e = ap length same in omega arith) in
    let p = c.requires.least.only u (subst (λ (y : ℕ). Contains order y) (sym iu) (Contains-get_or order i 0 il)) in
    let ub = label_in best u p.0 p.1 in
    let bl = c.requires.len in
    let ml = c.loop-vertex.invariant.len in
    let uh : u < length c.args.hops.now = omega arith in
    let um : u < length c.loop-vertex.masks.items = omega arith in
    let k = c.args.found.now.best.ok.0 in
    omega arith

pub index-ports-requires : goal.index-ports-requires
index-ports-requires c =
    let items = c.deref-vertex-items.result.now in
    let order = c.args.found.now.order.items in
    let best = c.args.found.now.best.items in
    let i = c.loop-vertex.vertex-index in
    let u = get_or items i 0 in
    let same = c.deref-vertex-items.ensures.value in
    let iu : u ≡ get_or order i 0 = ap (λ xs. get_or xs i 0) same in
    let il : i < length order = (let t = c.loop-vertex-test.true in let e = ap length same in omega arith) in
    let p = c.requires.least.only u (subst (λ (y : ℕ). Contains order y) (sym iu) (Contains-get_or order i 0 il)) in
    let ub = label_in best u p.0 p.1 in
    let bl = c.requires.len in
    let ml = c.loop-vertex.invariant.len in
    let uh : u < length c.args.hops.now = omega arith in
    let um : u < length c.loop-vertex.masks.items = omega arith in
    let k = c.loop-vertex.masks.ok.0 in
    omega arith

pub offset_bounds-hops-vertex : goal.offset_bounds-hops-vertex
offset_bounds-hops-vertex c =
    let items = c.deref-vertex-items.result.now in
    let order = c.args.found.now.order.items in
    let best = c.args.found.now.best.items in
    let i = c.loop-vertex.vertex-index in
    let u = get_or items i 0 in
    let same = c.deref-vertex-items.ensures.value in
    let iu : u ≡ get_or order i 0 = ap (λ xs. get_or xs i 0) same in
    let il : i < length order = (let t = c.loop-vertex-test.true in let e = ap length same in omega arith) in
    let p = c.requires.least.only u (subst (λ (y : ℕ). Contains order y) (sym iu) (Contains-get_or order i 0 il)) in
    let ub = label_in best u p.0 p.1 in
    let bl = c.requires.len in
    let ml = c.loop-vertex.invariant.len in
    let uh : u < length c.args.hops.now = omega arith in
    let um : u < length c.loop-vertex.masks.items = omega arith in
    let k = c.requires.size in
    omega arith

pub bounds-hops-vertex : goal.bounds-hops-vertex
bounds-hops-vertex c =
    let items = c.deref-vertex-items.result.now in
    let order = c.args.found.now.order.items in
    let best = c.args.found.now.best.items in
    let i = c.loop-vertex.vertex-index in
    let u = get_or items i 0 in
    let same = c.deref-vertex-items.ensures.value in
    let iu : u ≡ get_or order i 0 = ap (λ xs. get_or xs i 0) same in
    let il : i < length order = (let t = c.loop-vertex-test.true in let e = ap length same in omega arith) in
    let p = c.requires.least.only u (subst (λ (y : ℕ). Contains order y) (sym iu) (Contains-get_or order i 0 il)) in
    let ub = label_in best u p.0 p.1 in
    let bl = c.requires.len in
    let ml = c.loop-vertex.invariant.len in
    let uh : u < length c.args.hops.now = omega arith in
    let um : u < length c.loop-vertex.masks.items = omega arith in
    uh

pub pass_ports_on-requires-clause-cost : goal.pass_ports_on-requires-clause-cost
pass_ports_on-requires-clause-cost c =
    let items = c.deref-vertex-items.result.now in
    let order = c.args.found.now.order.items in
    let best = c.args.found.now.best.items in
    let i = c.loop-vertex.vertex-index in
    let u = get_or items i 0 in
    let same = c.deref-vertex-items.ensures.value in
    let iu : u ≡ get_or order i 0 = ap (λ xs. get_or xs i 0) same in
    let il : i < length order = (let t = c.loop-vertex-test.true in let e = ap length same in omega arith) in
    let p = c.requires.least.only u (subst (λ (y : ℕ). Contains order y) (sym iu) (Contains-get_or order i 0 il)) in
    let ub = label_in best u p.0 p.1 in
    let bl = c.requires.len in
    let ml = c.loop-vertex.invariant.len in
    let uh : u < length c.args.hops.now = omega arith in
    let um : u < length c.loop-vertex.masks.items = omega arith in
    let lab : label best u ≡ Some c.in-Some.cost = at_default best u None c.index.result.now ub ∙ sym c.index.ensures ∙ c.in-Some.is in
    let z = c.requires.least.small u c.in-Some.cost lab in
    let y = c.requires.size in
    omega arith

pub pass_ports_on-requires-clause-row : goal.pass_ports_on-requires-clause-row
pass_ports_on-requires-clause-row c k d l =
    let items = c.deref-vertex-items.result.now in
    let order = c.args.found.now.order.items in
    let best = c.args.found.now.best.items in
    let i = c.loop-vertex.vertex-index in
    let u = get_or items i 0 in
    let same = c.deref-vertex-items.ensures.value in
    let iu : u ≡ get_or order i 0 = ap (λ xs. get_or xs i 0) same in
    let il : i < length order = (let t = c.loop-vertex-test.true in let e = ap length same in omega arith) in
    let p = c.requires.least.only u (subst (λ (y : ℕ). Contains order y) (sym iu) (Contains-get_or order i 0 il)) in
    let ub = label_in best u p.0 p.1 in
    let bl = c.requires.len in
    let ml = c.loop-vertex.invariant.len in
    let uh : u < length c.args.hops.now = omega arith in
    let um : u < length c.loop-vertex.masks.items = omega arith in
    let e : c.deref.result.now ≡ row c.args.hops.now u = c.deref.ensures.value ∙ ap (λ (v : Vec Hop). v.items) c.index-hops-vertex.is ∙ sym (row_is c.args.hops.now u c.index-hops-vertex.result uh) in
    let j : Contains (row c.args.hops.now u) (get_or c.deref.result.now k d) = subst (λ (hs : List Hop). Contains hs (get_or c.deref.result.now k d)) e (Contains-get_or c.deref.result.now k d l) in
    let h = (c.requires.hops u (get_or c.deref.result.now k d) j).0 in
    let b = ap length c.deref_mut.ensures.value in
    omega arith

pub loop-vertex-preserved : goal.loop-vertex-preserved
loop-vertex-preserved c =
    let items = c.deref-vertex-items.result.now in
    let order = c.args.found.now.order.items in
    let best = c.args.found.now.best.items in
    let i = c.loop-vertex.vertex-index in
    let u = get_or items i 0 in
    let same = c.deref-vertex-items.ensures.value in
    let iu : u ≡ get_or order i 0 = ap (λ xs. get_or xs i 0) same in
    let il : i < length order = (let t = c.loop-vertex-test.true in let e = ap length same in omega arith) in
    let p = c.requires.least.only u (subst (λ (y : ℕ). Contains order y) (sym iu) (Contains-get_or order i 0 il)) in
    let ub = label_in best u p.0 p.1 in
    let bl = c.requires.len in
    let ml = c.loop-vertex.invariant.len in
    let uh : u < length c.args.hops.now = omega arith in
    let um : u < length c.loop-vertex.masks.items = omega arith in
    elim c.match-index.branch [
      | in-Some w ↦
          (let cost = w.in-Some.cost in
          let lab : label best u ≡ Some cost = at_default best u None c.index.result.now ub ∙ sym c.index.ensures ∙ w.in-Some.is in
          let pm : w.index-ports.result.now ≡ get_or c.loop-vertex.masks.items u 0 = w.index-ports.ensures ∙ at_default c.loop-vertex.masks.items u w.index-ports.result.now 0 um in
          let e : w.deref.result.now ≡ row c.args.hops.now u = w.deref.ensures.value ∙ ap (λ (v : Vec Hop). v.items) w.index-hops-vertex.is ∙ sym (row_is c.args.hops.now u w.index-hops-vertex.result uh) in
          let be : w.deref-in-Some.result.now ≡ best = w.deref-in-Some.ensures.value in
          let me : w.deref_mut.result.now ≡ c.loop-vertex.masks.items = w.deref_mut.ensures.value in
          let passed : ArePassedOn w.deref.result.now cost (eqb u c.args.root) w.index-ports.result.now (label w.deref-in-Some.result.now) w.deref_mut.result.now w.pass_ports_on.new.masks = w.pass_ports_on.ensures in
          let ms = c.loop-vertex.masks.items in
          let new = w.pass_ports_on.new.masks in
          let len : length new ≡ c.loop-vertex.masks.len = w.pass_ports_on.auto.masks ∙ ap length me ∙ sym c.loop-vertex.masks.ok.0 in
          let now : c.match-index.masks.items ≡ new = ap (λ (v : Vec ℕ). v.items) w.masks-is ∙ written c.loop-vertex.masks.len new (drop (length new) ms) len in
          let L = label best in
          let at_root = eqb u c.args.root in
          let ports = w.index-ports.result.now in
          let p1 : ArePassedOn (row c.args.hops.now u) cost at_root ports (label w.deref-in-Some.result.now) w.deref_mut.result.now new = subst (λ (hs : List Hop). ArePassedOn hs cost at_root ports (label w.deref-in-Some.result.now) w.deref_mut.result.now new) e passed in
          let p2 : ArePassedOn (row c.args.hops.now u) cost at_root ports L w.deref_mut.result.now new = subst (λ (xs : List (Option ℕ)). ArePassedOn (row c.args.hops.now u) cost at_root ports (label xs) w.deref_mut.result.now new) be p1 in
          let p3 : ArePassedOn (row c.args.hops.now u) cost at_root ports L ms new = subst (λ (xs : List ℕ). ArePassedOn (row c.args.hops.now u) cost at_root ports L xs new) me p2 in
          let v = via_step c.args.hops.now c.args.root L order (length c.args.hops.now) c.requires.least c.requires.hops i u cost ports at_root ms new il (sym iu) lab refl pm c.loop-vertex.invariant.via p3 in
          record {
            len = ap length now ∙ len ∙ c.loop-vertex.masks.ok.0 ∙ ml;
            via = subst (λ (xs : List ℕ). AreViaFrom c.args.hops.now c.args.root L order (i + 1) xs) (sym now) v;
          })
      | in_default w ↦ absurd (w.in_default.not-Some p.0 (c.index.ensures ∙ at_default best u c.index.result.now None ub ∙ p.1))
    ]

pub returns-clause-via : goal.returns-clause-via
returns-clause-via c =
    let e : c.loop-vertex.vertex-index ≡ length c.args.found.now.order.items = (let t = c.loop-vertex-test.false in let a = ap length c.deref-vertex-items.ensures.value in let b = c.loop-vertex.auto.vertex-index-end in omega arith) in
    all_via c.args.hops.now c.args.root (label c.args.found.now.best.items) c.args.found.now.order.items (length c.args.hops.now) c.requires.least c.requires.hops c.loop-vertex.masks.items
    (subst (λ (k : ℕ). AreViaFrom c.args.hops.now c.args.root (label c.args.found.now.best.items) c.args.found.now.order.items k c.loop-vertex.masks.items) e c.loop-vertex.invariant.via)
