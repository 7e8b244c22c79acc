use Rattle.std.proofs.Common.{◌≡◌, ◌^◌, List, ap, ◌∙◌, subst}
use Rattle.std.specs.List.{All}
use Rattle.ospf_spf.specs.declared.graph.Vertex.{Vertex}
use Rattle.ospf_spf.specs.declared.route.Route.{Route}
use Rattle.ospf_spf.specs.Graph.{graph_of}
use Rattle.ospf_spf.specs.Table.{IsWide, table_of}
use Rattle.ospf_spf.proofs.Tabling.{table_is}
use Rattle.ospf_spf.proofs.table.routes.Goals as goal

pub returns-clause-table : goal.returns-clause-table
returns-clause-table c =
    let rs = c.in_ok-table.table.items in
    let g = c.deref.result.now in
    let same : g ≡ graph_of c.args.now c.args.db.now = c.deref.ensures.value ∙ c.in_ok-graph.ensures.graph in
    let wide : All (IsWide (2 ^ 32) (2 ^ 32)) rs = subst (λ (xs : List Route). All (IsWide (2 ^ 32) (2 ^ 32)) xs) c.deref-2.ensures.value c.see_widths.ensures in
    table_is g c.args.root rs c.in_ok-table.ensures wide ∙ ap (λ (vs : List Vertex). table_of vs c.args.root) same
