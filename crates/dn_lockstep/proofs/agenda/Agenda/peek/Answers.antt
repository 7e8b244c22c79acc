use Rattle.std.proofs.Common.{◌≡◌, [], subst, sym}
use Rattle.std.proofs.lemmas.Option.{IfSome_then}
use Rattle.dn_lockstep.specs.Least.{IsLeast}
use Rattle.dn_lockstep.specs.Agendas.{Plan, waiting_in, IsFronted}
use Rattle.dn_lockstep.proofs.Options.{if_none_then}
use Rattle.dn_lockstep.proofs.Groups.{least_of_all, nothing_waits}
use Rattle.dn_lockstep.proofs.agenda.Agenda.peek.Goals as goal

pub returns-clause-least : goal.returns-clause-least
unfolding waiting_in
returns-clause-least c =
    IfSome_then c.peek.result c.peek.ensures.least
    (λ e least fronted.
    subst (λ (p : Plan). IsLeast e.now (waiting_in p)) c.self.view_is
    (least_of_all e.now c.self.inside.group c.self.inside.left c.self.inside.routers c.self.inside.queue least (subst IsFronted (sym c.self.view_is) fronted)))

pub returns-clause-none : goal.returns-clause-none
unfolding waiting_in
returns-clause-none c =
    if_none_then c.peek.result (c.self.inside.queue ≡ []) (IsFronted c.args.self.now → waiting_in c.args.self.now ≡ []) c.peek.ensures.none
    (λ none fronted.
    subst (λ (p : Plan). waiting_in p ≡ []) c.self.view_is
    (nothing_waits c.self.inside.group c.self.inside.left c.self.inside.routers c.self.inside.queue none (subst IsFronted (sym c.self.view_is) fronted)))
