use Rattle.std.proofs.Common.{◌≡◌, ℕ, List, ◌++◌, length, ap, ◌∙◌, append_assoc}
use Rattle.dn_trace.specs.Trace.{end_line, last_lines}
use Rattle.dn_trace.specs.Streaming.{node_lines}
use Rattle.dn_trace.proofs.Streams.{last_lines_are}
use Rattle.dn_trace.proofs.ends.push_last_lines.Goals as goal

pub returns : goal.returns
returns g c =
    λ net feed guests header end.
    let e = c.args.engine.now in
    let routers_are : net.header.routers ≡ c.args.routers.now = ap (λ h. h.routers) header ∙ c.requires.same in
    let lines : node_lines g.G.Guest.meaning c.args.routers.now e.nodes (length c.args.routers.now) ++ end_line e.place ≡ last_lines net feed =
    rw (← guests, ← routers_are) (last_lines_are net feed e end) in
    let states = node_lines g.G.Guest.meaning c.args.routers.now e.nodes (length c.args.routers.now) in
    c.in_ok-push_end_line.ensures.ok
    ∙ ap (λ (l : List ℕ). l ++ end_line c.args.rows) c.in_ok-push_states.ensures
    ∙ append_assoc c.args.out.now states (end_line c.args.rows)
    ∙ ap (λ (n : ℕ). c.args.out.now ++ (states ++ end_line n)) c.requires.rows
    ∙ ap (λ (l : List ℕ). c.args.out.now ++ l) lines
