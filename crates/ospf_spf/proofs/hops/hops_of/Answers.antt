use Rattle.std.proofs.Common.{ℕ, ◌+◌, ◌≤◌, take, List, [], ◌∷◌, ◌++◌, sym, ap, ◌∙◌, subst}
use Rattle.std.specs.Global.{Vec}
use Rattle.std.specs.List.{All}
use Rattle.std.proofs.lemmas.List.{take_more}
use Rattle.ospf_spf.specs.declared.graph.Vertex.{Vertex}
use Rattle.ospf_wire.specs.declared.router_lsa.RouterLink.{RouterLink}
use Rattle.ospf_spf.specs.declared.graph.Hop.{Hop}
use Rattle.ospf_spf.specs.Hops.{AreRow, AreRows, AreRising, ids_of}
use Rattle.ospf_spf.proofs.Hopping.{rising_ids, zip_push}
use Rattle.ospf_spf.proofs.hops.hops_of.Goals as goal

pub hops_from-requires : goal.hops_from-requires
hops_from-requires c =
    subst (λ (xs : List ℕ). AreRising xs) (sym c.in_ok-ids.ensures ∙ sym c.deref.ensures.value) (rising_ids c.args.graph.now (c.vertex-item.result) c.requires)

pub loop-vertex-preserved : goal.loop-vertex-preserved
loop-vertex-preserved c =
    let g = c.args.graph.now in
    let s = c.in_ok-ways.ways in
    let v = c.vertex-item.result in
    let i = c.loop-vertex.vertex-index in
    let r = c.in_ok-row.row in
    let R : Vertex → Vec Hop → Type 0 = λ v r. AreRow v.id (ids_of g) s v.links r.items × All (λ (h : Hop). h.metric ≤ 65535) r.items in
    let a : AreRow v.id (ids_of g) s v.links r.items =
    subst (λ (ls : List RouterLink). AreRow v.id (ids_of g) s ls r.items) c.as_slice.ensures
    (subst (λ (xs : List ℕ). AreRow v.id xs s c.as_slice.result.now r.items) (c.deref.ensures.value ∙ c.in_ok-ids.ensures) c.in_ok-row.ensures.row) in
    let e : AreRows (ids_of g) s (take (i + 1) g) (c.loop-vertex.rows.items ++ r ∷ []) = subst (λ (vs : List Vertex). AreRows (ids_of g) s vs (c.loop-vertex.rows.items ++ r ∷ [])) (ap (λ (w : Vertex). take i g ++ w ∷ []) c.vertex-item.is ∙ sym (take_more g i v c.loop-vertex-test.true)) (zip_push R (take i g) c.loop-vertex.rows.items v r c.loop-vertex.invariant (a, c.in_ok-row.ensures.small)) in
    subst (λ (rs : List (Vec Hop)). AreRows (ids_of g) s (take (i + 1) g) rs) (sym c.in_ok-push.ensures.items) e
