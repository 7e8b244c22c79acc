use Rattle.std.proofs.Common.{slice_set, ap, sym, ◌∙◌, arith}
use Rattle.std.proofs.lemmas.List.Edits.{map_over_more}
use Rattle.ospf_flood.specs.Retransmission.{OnPort, without_lsa}
use Rattle.ospf_flood.proofs.retransmission.take_each.Goals as goal

pub loop-list-preserved : goal.loop-list-preserved
loop-list-preserved c =
    let items = c.loop-list.list-items in
    let i = c.loop-list.list-index in
    let key = c.args.key.now in
    ap (λ (x : OnPort). slice_set items i x) c.take.ensures ∙ ap (λ (x : OnPort). slice_set items i (without_lsa key x)) (sym c.list-item.is)
    ∙ map_over_more (without_lsa key) c.args.lists.now items i c.list-item.result (omega arith) c.loop-list.invariant c.list-item.is
