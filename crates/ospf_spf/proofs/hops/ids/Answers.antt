use Rattle.std.proofs.Common.{take, [], ◌∷◌, ◌++◌, sym, ap, ◌∙◌}
use Rattle.std.proofs.lemmas.List.{take_more}
use Rattle.ospf_spf.specs.declared.graph.Vertex.{Vertex}
use Rattle.ospf_spf.specs.Hops.{ids_of}
use Rattle.ospf_spf.proofs.Hopping.{ids_push}
use Rattle.ospf_spf.proofs.hops.ids.Goals as goal

pub loop-vertex-preserved : goal.loop-vertex-preserved
loop-vertex-preserved c =
    let v = c.vertex-item.result in
    let i = c.loop-vertex.vertex-index in
    let g = c.args.graph.now in
    let a = c.vertex-item.is in
    c.in_ok-push.ensures.items ∙ ap (λ xs. xs ++ v.id ∷ []) c.loop-vertex.invariant ∙ sym (ids_push (take i g) v) ∙ ap (λ (w : Vertex). ids_of (take i g ++ w ∷ [])) a ∙ ap ids_of (sym (take_more g i v c.loop-vertex-test.true))
