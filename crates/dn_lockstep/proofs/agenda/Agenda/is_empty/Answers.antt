use Rattle.std.proofs.Common.{◌≡◌, [], subst, sym, ap, ◌∙◌}
use Rattle.dn_lockstep.specs.Agendas.{Plan, waiting_in, IsFronted}
use Rattle.dn_lockstep.proofs.Groups.{nothing_waits, none_queued}
use Rattle.dn_lockstep.proofs.agenda.Agenda.is_empty.Goals as goal

pub returns : goal.returns
unfolding waiting_in
returns c = λ fronted.
    let group = c.self.inside.group in
    let left = c.self.inside.left in
    let routers = c.self.inside.routers in (
      λ h.
          subst (λ (p : Plan). waiting_in p ≡ []) c.self.view_is
          (nothing_waits group left routers c.self.inside.queue (c.is_empty.ensures.0 h) (subst IsFronted (sym c.self.view_is) fronted)),
      λ none. c.is_empty.ensures.1 (none_queued group left routers c.self.inside.queue (ap waiting_in c.self.view_is ∙ none)),
    )
