use Rattle.std.proofs.Common.{◌≡◌, ℕ, ◌+◌, ◌<◌, List, [], ◌∷◌, ◌++◌, Some, take, length, get_or, get_or-set_same, get_or-set_other, sym, ap, ◌∙◌, subst, arith, inl, inr}
use Rattle.std.proofs.lemmas.List.{take_more, take_all}
use Rattle.ospf_spf.specs.declared.graph.Hop.{Hop}
use Rattle.ospf_spf.specs.Search.{label}
use Rattle.ospf_spf.specs.Ports.{ArePassedOn}
use Rattle.std.proofs.Common.{bit_or}
use Rattle.std.specs.Int.{bit_at}
use Rattle.ospf_spf.proofs.Passing.{passed_push, passed_skip, more_bits}
use Rattle.ospf_spf.proofs.ports.pass_ports_on.Goals as goal
use Rattle.ospf_spf.proofs.ports.pass_ports_on.Goals.{in-Some+then-least-cost, in-Some+else-least-cost, in_default}

pub loop-hop-preserved : goal.loop-hop-preserved
loop-hop-preserved c =
    let d : Hop = record { to = 0; port = 0; metric = 0 } in
    let rs = c.args.row.now in
    let i = c.loop-hop.hop-index in
    let h = get_or rs i d in
    let L = label c.args.best.now in
    let p : ArePassedOn (take i rs ++ h ∷ []) c.args.cost c.args.at_root c.args.ports L c.args.masks.now c.match-best-hop.masks =
    elim c.match-best-hop.branch [
      | in-Some+then-least-cost w ↦
          (let m = c.loop-hop.masks in
          let new = bit_or (get_or m h.to 0) w.carried.result in
          let lt : h.to < length m = (let x = c.requires.row i d c.loop-hop-test.true in let y = c.loop-hop.auto.masks in omega arith) in
          let lab : L h.to ≡ Some (c.args.cost + h.metric) = w.in-Some.is ∙ ap (λ k. Some k) (w.if-least-cost.true ∙ ap (λ k. c.args.cost + k) w.from.ensures) in
          let at : get_or c.match-best-hop.masks h.to 0 ≡ new = ap (λ xs. get_or xs h.to 0) w.masks-is ∙ get_or-set_same m h.to new 0 lt in
          passed_push (take i rs) h c.args.cost c.args.at_root c.args.ports L c.args.masks.now m c.match-best-hop.masks c.loop-hop.invariant lab
          (λ q l.
          let b = more_bits (get_or m h.to 0) w.carried.result q in
          let e = w.carried.ensures q l in (
            λ x. elim (b.0 (sym (ap (λ k. bit_at k q) at) ∙ x)) [ inl y ↦ inl y | inr y ↦ inr (e.0 y) ],
            λ t. ap (λ k. bit_at k q) at ∙ b.1 (elim t [ inl y ↦ inl y | inr y ↦ inr (e.1 y) ]),
          ))
          (λ v ne. ap (λ xs. get_or xs v 0) w.masks-is ∙ get_or-set_other m h.to v new 0 ne))
      | in-Some+else-least-cost w ↦
          subst (λ (ms : List ℕ). ArePassedOn (take i rs ++ h ∷ []) c.args.cost c.args.at_root c.args.ports L c.args.masks.now ms) (sym w.masks-is)
          (passed_skip (take i rs) h c.args.cost c.args.at_root c.args.ports L c.args.masks.now c.loop-hop.masks c.loop-hop.invariant
          (λ k. w.if-least-cost.false (let z : Some w.in-Some.least ≡ Some (c.args.cost + h.metric) = sym w.in-Some.is ∙ k in let y : w.in-Some.least ≡ c.args.cost + h.metric = cc in y ∙ ap (λ j. c.args.cost + j) (sym w.from.ensures))))
      | in_default w ↦
          subst (λ (ms : List ℕ). ArePassedOn (take i rs ++ h ∷ []) c.args.cost c.args.at_root c.args.ports L c.args.masks.now ms) (sym w.masks-is)
          (passed_skip (take i rs) h c.args.cost c.args.at_root c.args.ports L c.args.masks.now c.loop-hop.masks c.loop-hop.invariant (w.in_default.not-Some (c.args.cost + h.metric)))
    ] in
    subst (λ (ys : List Hop). ArePassedOn ys c.args.cost c.args.at_root c.args.ports L c.args.masks.now c.match-best-hop.masks) (sym (take_more rs i d c.loop-hop-test.true)) p

pub returns : goal.returns
returns c =
    subst (λ (ys : List Hop). ArePassedOn ys c.args.cost c.args.at_root c.args.ports (label c.args.best.now) c.args.masks.now c.loop-hop.masks) (take_all c.loop-hop.hop-index c.args.row.now c.loop-hop-test.false) c.loop-hop.invariant
