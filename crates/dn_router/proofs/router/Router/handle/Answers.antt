use Rattle.std.proofs.Common.{◌≡◌, ℕ, suc, ◌+◌, List, [], ◌∷◌, ◌++◌, length, take, drop, sym, ap, ◌∙◌, subst, arith}
use Rattle.dn_guest.specs.declared.node.Node.{Node}
use Rattle.dn_model.specs.declared.event.Event.{Event}
use Rattle.dn_model.specs.declared.link.End.{End}
use Rattle.dn_model.specs.Network.{emitted_by}
use Rattle.dn_world.specs.World.{Part, is_ready}
use Rattle.dn_ckpt.specs.Shelves.{kept_from, with_kept}
use Rattle.dn_router.specs.Replays.{node_over, last_sent, nodes_over}
use Rattle.dn_router.specs.Routers.{node_of, emits_next}
use Rattle.dn_router.specs.Sound.{IsSound}
use Rattle.dn_router.proofs.Marks.{ready_waits, first_waits, ready_not_behind}
use Rattle.dn_router.proofs.Kept.{with_from}
use Rattle.dn_router.proofs.Replays.{kept_more}
use Rattle.dn_router.proofs.Ordering.{handled_is, emits_is, node_is, first_rest}
use Rattle.dn_router.proofs.Sound.{beside, seen, done_reached, sound_handled}
use Rattle.dn_router.proofs.router.Router.handle.Goals as goal

pub unreachable-requires : goal.unreachable-requires
unreachable-requires g c =
    let p = beside c.self.inside.done.items c.self.inside.queue in
    first_waits p.todo (ready_waits p (ap (λ s. is_ready s.part) c.self.view_is ∙ c.requires.ready)) c.in-None.ensures

pub invariant_of-self-2 : goal.invariant_of-self-2
invariant_of-self-2 g c =
    let m = g.G.Guest.meaning in
    let o = c.self.inside.opening in
    let done = c.self.inside.done.items in
    let q = c.self.inside.queue in
    let p = beside done q in
    let e = c.in-Some.least.now in
    let first = c.in-Some.ensures in
    let grown = done ++ e ∷ [] in
    let ready = ap (λ s. is_ready s.part) c.self.view_is ∙ c.requires.ready in
    let sound = sound_handled m c.self.inside.number c.self.inside.timing.period o p e (drop 1 q.todo) c.self.inside.shelf c.self.inside.wrong c.self.inside.committed c.self.inside.bound c.self.invariant (first_rest q.todo e first) (ready_not_behind p ready) in
    let kept_done : c.move_least.new.done.items ≡ done ++ take 1 q.todo = c.move_least.ensures.done ∙ ap (λ (l : List Event). l ++ take 1 q.todo) c.in_ok-reserve.ensures.items in
    let part : beside c.move_least.new.done.items c.move_least.new.queue ≡ record p { done = grown; todo = drop 1 q.todo } = handled_is done q c.move_least.new.queue c.move_least.new.done.items e first c.move_least.ensures.queue kept_done in
    let node : c.args.node ≡ node_over m o grown = node_is m o done q.todo e c.args.node first (c.requires.node ∙ sym (ap (λ s. node_over m (node_of m s) (take 1 s.part.todo)) c.self.view_is)) in
    let place : c.len.result + 1 ≡ suc (0 + length done) = (let a = c.len.ensures in let b = c.reserve.new.self.ok.0 in let d = ap length c.in_ok-reserve.ensures.items in omega (arith, a, b, d)) in
    let committed = c.self.inside.committed in
    let reached = done_reached c.self.invariant in
    let shelf : c.keep.new.self ≡ kept_from committed (nodes_over m 0 o grown) =
    c.in_ok-keep.ensures.ok
    ∙ (λ i. with_kept (c.self.invariant.kept i) (c.len.result + 1) (node i))
    ∙ with_from committed (c.len.result + 1) (node_over m o grown) (nodes_over m 0 o done) (omega (arith, reached, place))
    ∙ ap (kept_from committed) (kept_more m 0 o done e (c.len.result + 1) place) in
    let on_part = subst (λ (x : Part). IsSound m c.self.inside.number c.self.inside.timing.period o x (kept_from committed (nodes_over m 0 o grown)) c.self.inside.wrong c.self.inside.committed c.self.inside.bound) (sym part) sound in
    subst (λ (k : List (ℕ × Node g.row.G.Denot)). IsSound m c.self.inside.number c.self.inside.timing.period o (beside c.move_least.new.done.items c.move_least.new.queue) k c.self.inside.wrong c.self.inside.committed c.self.inside.bound) (sym shelf) on_part

pub returns-clause-events : goal.returns-clause-events
returns-clause-events g c =
    let m = g.G.Guest.meaning in
    let s = seen c.self.inside.number c.self.inside.ends.items c.self.inside.timing c.self.inside.opening (beside c.self.inside.done.items c.self.inside.queue) c.self.inside.committed c.self.inside.bound in
    let sent = c.requires.sent ∙ sym (ap (λ s. last_sent m (node_of m s) [] (take 1 s.part.todo)) c.self.view_is) in
    let ends : c.as_slice.result.now ≡ c.self.inside.ends.items = c.as_slice.ensures.value in
    emits_is m s c.in-Some.least.now c.args.sent.items c.in_ok-events.events.items c.in-Some.ensures sent
    (c.in_ok-events.ensures ∙ ap (λ (l : List End). emitted_by c.self.inside.timing l c.in-Some.least.now c.args.sent.items) ends)
    ∙ ap (emits_next m) c.self.view_is
