use Rattle.std.proofs.Common.{◌≡◌, ◌≤◌, take, List, [], ◌∷◌, ◌++◌, get_or, sym, ap, ◌∙◌, subst}
use Rattle.std.specs.List.{All}
use Rattle.std.specs.Global.{Vec}
use Rattle.std.proofs.lemmas.List.{take_more, take_all}
use Rattle.std.proofs.lemmas.List.Elements.{All-push}
use Rattle.ospf_wire.specs.declared.router_lsa.RouterLink.{RouterLink}
use Rattle.ospf_spf.specs.declared.graph.Hop.{Hop}
use Rattle.ospf_spf.specs.Hops.{AreRow}
use Rattle.ospf_spf.proofs.Hopping.{row_push, row_skip}
use Rattle.ospf_spf.proofs.hops.hops_from.Goals as goal
use Rattle.ospf_spf.proofs.hops.hops_from.Goals.{in-Some+in_ok-push, in_default}

pub loop-link-preserved : goal.loop-link-preserved
loop-link-preserved c =
    let d : RouterLink = record { id = 0; «data» = 0; kind = 0; metric = 0 } in
    let ls = c.args.links.now in
    let i = c.loop-link.link-index in
    let l = get_or ls i d in
    let more = take_more ls i d c.loop-link-test.true in
    elim c.match-hop_of.branch [
      | in-Some+in_ok-push w ↦
          (let e : c.match-hop_of.hops.items ≡ c.loop-link.hops.items ++ w.in-Some.hop ∷ [] = ap (λ (v : Vec Hop). v.items) w.hops-is ∙ w.in_ok-push.ensures.items in
          record {
            row =
                subst (λ (ms : List RouterLink). AreRow c.args.from c.args.ids.now c.args.ways.now ms c.match-hop_of.hops.items) (sym more)
                (subst (λ (hs : List Hop). AreRow c.args.from c.args.ids.now c.args.ways.now (take i ls ++ l ∷ []) hs) (sym e)
                (row_push c.args.from c.args.ids.now c.args.ways.now (take i ls) l c.loop-link.hops.items w.in-Some.hop c.requires c.loop-link.invariant.row w.in-Some.ensures.0));
            small = subst (λ (hs : List Hop). All (λ (h : Hop). h.metric ≤ 65535) hs) (sym e) (All-push (λ (h : Hop). h.metric ≤ 65535) c.loop-link.hops.items w.in-Some.hop c.loop-link.invariant.small w.in-Some.ensures.1);
          })
      | in_default w ↦
          (let e : c.match-hop_of.hops.items ≡ c.loop-link.hops.items = ap (λ (v : Vec Hop). v.items) w.hops-is in
          record {
            row =
                subst (λ (ms : List RouterLink). AreRow c.args.from c.args.ids.now c.args.ways.now ms c.match-hop_of.hops.items) (sym more)
                (subst (λ (hs : List Hop). AreRow c.args.from c.args.ids.now c.args.ways.now (take i ls ++ l ∷ []) hs) (sym e)
                (row_skip c.args.from c.args.ids.now c.args.ways.now (take i ls) l c.loop-link.hops.items c.loop-link.invariant.row w.in_default.ensures));
            small = subst (λ (hs : List Hop). All (λ (h : Hop). h.metric ≤ 65535) hs) (sym e) c.loop-link.invariant.small;
          })
    ]

pub returns-clause-row : goal.returns-clause-row
returns-clause-row c = subst (λ (ls : List RouterLink). AreRow c.args.from c.args.ids.now c.args.ways.now ls c.loop-link.hops.items) (take_all c.loop-link.link-index c.args.links.now c.loop-link-test.false) c.loop-link.invariant.row
