use Rattle.std.proofs.Common.{◌≡◌, ◌+◌, ◌≤◌, take, Option, List, [], ◌∷◌, ◌++◌, append-nil, length, sym, ap, ◌∙◌, subst, arith}
use Rattle.std.specs.List.{cons_option}
use Rattle.std.specs.Global.{Vec}
use Rattle.std.proofs.lemmas.List.{take_all}
use Rattle.std.proofs.lemmas.Map.Entries.{length-keys_of}
use Rattle.ospf_lsdb.specs.declared.key.LsaKey.{LsaKey}
use Rattle.ospf_spf.specs.declared.graph.Vertex.{Vertex}
use Rattle.ospf_spf.specs.Graph.{graph_of, AreInOrder}
use Rattle.ospf_spf.proofs.Databases.{graph_step, graph_le, graph_in_order}
use Rattle.ospf_spf.proofs.vertices.vertices.Goals as goal
use Rattle.ospf_spf.proofs.vertices.vertices.Goals.{in-Some+in_ok-push, in_default}

pub loop-key-preserved : goal.loop-key-preserved
loop-key-preserved c =
    let db = c.args.db.now in
    let now = c.args.now in
    let d : LsaKey = record { kind = 0; id = 0; router = 0 } in
    let i = c.loop-key.key-index in
    let vs = c.loop-key.vertices.items in
    let found : Option Vertex = c.in_ok-vertex.field-0 in
    let step : vs ++ cons_option found [] ≡ graph_of now (take (i + 1) db) =
    graph_step now db c.deref-key-items.result.now i d vs found c.in_ok-keys.ensures.ascending (c.deref-key-items.ensures.value ∙ c.in_ok-keys.ensures.keys) c.loop-key-test.true c.in_ok-vertex.ensures c.loop-key.invariant in
    elim c.match-branch-3.branch [
      | in-Some+in_ok-push w ↦
          (let e : c.match-branch-3.vertices.items ≡ vs ++ w.in-Some.vertex ∷ [] = ap (λ (v : Vec Vertex). v.items) w.vertices-is ∙ w.in_ok-push.ensures.items in
          e ∙ ap (λ (o : Option Vertex). vs ++ cons_option o []) (sym w.in-Some.is) ∙ step)
      | in_default w ↦
          (let e : c.match-branch-3.vertices.items ≡ vs = ap (λ (v : Vec Vertex). v.items) w.vertices-is in
          e ∙ sym (append-nil vs) ∙ ap (λ (o : Option Vertex). vs ++ cons_option o []) (sym w.in_default.is) ∙ step)
    ]

pub returns-clause-graph : goal.returns-clause-graph
returns-clause-graph c =
    let db = c.args.db.now in
    let test = c.loop-key-test.false in
    let n = ap length (c.deref-key-items.ensures.value ∙ c.in_ok-keys.ensures.keys) ∙ length-keys_of db in
    let past : length db ≤ c.loop-key.key-index = omega arith in
    c.loop-key.invariant ∙ ap (graph_of c.args.now) (take_all c.loop-key.key-index db past)

pub returns-clause-order : goal.returns-clause-order
returns-clause-order c = subst (λ (vs : List Vertex). AreInOrder vs) (sym (returns-clause-graph c)) (graph_in_order c.args.now c.args.db.now c.in_ok-keys.ensures.ascending)

pub returns-clause-size : goal.returns-clause-size
returns-clause-size c =
    let e = ap length (returns-clause-graph c) in
    let n = graph_le c.args.now c.args.db.now in
    omega arith
