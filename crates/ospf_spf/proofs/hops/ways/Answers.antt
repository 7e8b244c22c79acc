use Rattle.std.proofs.Common.{take, List, [], ◌∷◌, ◌++◌, sym, ap, ◌∙◌, subst}
use Rattle.std.proofs.lemmas.List.{take_more, take_all}
use Rattle.ospf_spf.specs.declared.graph.Vertex.{Vertex}
use Rattle.ospf_wire.specs.declared.router_lsa.RouterLink.{RouterLink}
use Rattle.ospf_spf.specs.Hops.{AreWays, IsMarked}
use Rattle.ospf_spf.proofs.Hopping.{ways_push}
use Rattle.ospf_spf.proofs.hops.ways.Goals as goal

pub loop-vertex-preserved : goal.loop-vertex-preserved
loop-vertex-preserved c =
    let v = c.vertex-item.result in
    let i = c.loop-vertex.vertex-index in
    let g = c.args.graph.now in
    let m : IsMarked v.id v.links c.loop-vertex.ways c.mark.new.ways = subst (λ (ls : List RouterLink). IsMarked v.id ls c.loop-vertex.ways c.mark.new.ways) c.as_slice.ensures c.in_ok-mark.ensures in
    subst (λ (vs : List Vertex). AreWays vs c.mark.new.ways) (ap (λ (w : Vertex). take i g ++ w ∷ []) c.vertex-item.is ∙ sym (take_more g i v c.loop-vertex-test.true))
    (ways_push (take i g) v c.loop-vertex.ways c.mark.new.ways c.loop-vertex.invariant m)

pub returns : goal.returns
returns c = subst (λ (vs : List Vertex). AreWays vs c.loop-vertex.ways) (take_all c.loop-vertex.vertex-index c.args.graph.now c.loop-vertex-test.false) c.loop-vertex.invariant
