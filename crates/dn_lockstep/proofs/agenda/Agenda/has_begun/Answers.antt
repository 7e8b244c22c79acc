use Rattle.std.proofs.Common.{◌<◌, sym, subst}
use Rattle.dn_lockstep.specs.Agendas.{Plan, count_before}
use Rattle.dn_lockstep.proofs.agenda.Agenda.has_begun.Goals as goal

pub returns : goal.returns
returns c = (
  λ h. subst (λ (p : Plan). 0 < count_before p.group p.queue) c.self.view_is (c.has_before.ensures.0 h),
  λ l. c.has_before.ensures.1 (subst (λ (p : Plan). 0 < count_before p.group p.queue) (sym c.self.view_is) l),
)
