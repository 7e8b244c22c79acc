use Rattle.std.proofs.Common.{◌≡◌, ◌<◌, length, rules, sym, ap, ◌∙◌, arith}
use Rattle.std.specs.Prelude.{slice_get}
use Rattle.std.proofs.lemmas.Option.{same_Some}
use Rattle.dn_model.specs.Links.{ends}
use Rattle.dn_lockstep.specs.Agendas.{waiting_in}
use Rattle.dn_lockstep.proofs.Wired.{ends_count, ends_at}
use Rattle.dn_lockstep.proofs.Handling.{first_inside, handled_from}
use Rattle.dn_lockstep.proofs.step.handle_least.Goals as goal

pub bounds-nodes-from : goal.bounds-nodes-from
bounds-nodes-from g c =
    let at = first_inside (length c.args.header.now.routers) (waiting_in c.args.agenda.now) (waiting_in c.least-event.new.agenda) c.least-event.result c.least-event.ensures.among c.requires.inside in
    omega (arith, at, c.from.ensures, c.requires.one_each)

pub offset_bounds-nodes-from : goal.offset_bounds-nodes-from
offset_bounds-nodes-from g c =
    let at = first_inside (length c.args.header.now.routers) (waiting_in c.args.agenda.now) (waiting_in c.least-event.new.agenda) c.least-event.result c.least-event.ensures.among c.requires.inside in
    let within : c.from.result < length c.args.nodes.now = omega (arith, at, c.from.ensures, c.requires.one_each) in
    search rules

pub of-requires : goal.of-requires
of-requires g c =
    let at = first_inside (length c.args.header.now.routers) (waiting_in c.args.agenda.now) (waiting_in c.least-event.new.agenda) c.least-event.result c.least-event.ensures.among c.requires.inside in
    let count = ap length c.requires.wired ∙ ends_count c.args.header.now.links (length c.args.header.now.routers) in
    omega (arith, at, count)

pub returns-clause-handled : goal.returns-clause-handled
returns-clause-handled g c =
    let e = c.least-event.result in
    let n = length c.args.header.now.routers in
    let at : e.router < n = first_inside n (waiting_in c.args.agenda.now) (waiting_in c.least-event.new.agenda) e c.least-event.ensures.among c.requires.inside in
    let within : c.from.result < length c.args.nodes.now = omega (arith, at, c.from.ensures, c.requires.one_each) in
    let far : c.of.result.now ≡ ends c.args.header.now.links e.router =
    same_Some c.of.result.now (ends c.args.header.now.links e.router) (sym c.of.ensures ∙ ap (λ all. slice_get all e.router) c.requires.wired ∙ ends_at c.args.header.now.links n e.router at) in
    handled_from g.G.Guest.meaning c.args.header.now c.args.nodes.now (waiting_in c.args.agenda.now) (waiting_in c.least-event.new.agenda) (waiting_in c.send.new.agenda) (waiting_in c.refill.new.self) e c.from.result c.index-nodes-from.result c.take.new.self c.in_ok-sent.sent.items c.timing.result c.of.result.now
    c.least-event.ensures.among c.least-event.ensures.first c.from.ensures within c.index-nodes-from.is c.in_ok-sent.ensures.state c.in_ok-sent.ensures.sent c.timing.ensures.timing far c.in_ok-send.ensures c.in_ok-refill.ensures.same
