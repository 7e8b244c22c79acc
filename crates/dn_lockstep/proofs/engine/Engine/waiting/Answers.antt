use Rattle.std.proofs.Common.{◌≡◌, ◌<◌, List, ◌++◌, length, ap, ◌∙◌, subst, arith}
use Rattle.std.specs.List.Sorted.{IsPermutation}
use Rattle.std.proofs.lemmas.List.Sorted.{IsPermutation-trans, IsPermutation-append_right}
use Rattle.dn_model.specs.declared.event.Event.{Event}
use Rattle.dn_model.specs.Cases.{Heading}
use Rattle.dn_model.specs.Network.{routers, sent_to}
use Rattle.dn_model.specs.SoFar.{by_router}
use Rattle.dn_lockstep.specs.Running.{Running, first_rows, messages}
use Rattle.dn_lockstep.proofs.Messages.{Kinds, sent_so_far}
use Rattle.dn_lockstep.proofs.engine.Engine.waiting.Goals as goal

pub returns-clause-sent : goal.returns-clause-sent
unfolding routers
returns-clause-sent g c =
    λ net feed so.
    let r = c.args.router in
    let done = first_rows net feed c.args.self.now.place in
    let found = c.sort_unstable.new.self.items in
    let inside : r < length net.header.routers = omega (arith, c.requires, ap (λ (h : Heading). length h.routers) so.header) in
    let same : c.in_ok-found.found.items ≡ messages (by_router c.args.self.now.waiting r) =
    c.in_ok-found.ensures ∙ ap (λ (e : Running g.row.G.Denot). messages (by_router e.waiting r)) c.self.view_is in
    let moved : IsPermutation (messages (by_router c.args.self.now.waiting r)) found = subst (λ (es : List Event). IsPermutation es found) same c.sort_unstable.ensures.permutation in
    let kinds : Kinds net feed =
    record {
      all_sent = λ f k. c.lists_of_routers.ensures.sent net f k;
      all_injected = λ k. c.lists_of_routers.ensures.injected net.header.groups feed k;
    } in
    IsPermutation-trans (sent_to net (by_router done) r) (messages (by_router done r) ++ messages (by_router c.args.self.now.waiting r)) (messages (by_router done r) ++ found)
    (sent_so_far net (λ x y h. c.order_of_events.ensures.apart x y h) feed kinds c.args.self.now so r inside)
    (IsPermutation-append_right (messages (by_router done r)) (messages (by_router c.args.self.now.waiting r)) found moved)
