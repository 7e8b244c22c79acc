use Rattle.std.proofs.Common.{◌<◌, ◌+◌, ◌-◌, ◌++◌, subst, sym}
use Rattle.std.specs.List.Sorted.{IsPermutation}
use Rattle.dn_lockstep.specs.Agendas.{Plan, waiting_in, later_ticks}
use Rattle.dn_lockstep.proofs.Groups.{begun_with_ticks}
use Rattle.dn_lockstep.proofs.Queueing.{group_begun}
use Rattle.dn_lockstep.proofs.agenda.Agenda.begin_group.Goals as goal

pub returns-clause-fronted : goal.returns-clause-fronted
returns-clause-fronted c = λ _.
    begun_with_ticks c.self.inside.group c.self.inside.routers c.self.inside.queue c.push_ticks.new.queue c.self.invariant.1 c.in_ok-push_ticks.ensures

pub returns-clause-same : goal.returns-clause-same
unfolding waiting_in
returns-clause-same c =
    subst (λ (p : Plan). IsPermutation (waiting_in p) (c.push_ticks.new.queue ++ later_ticks (c.self.inside.group + 1) (c.self.inside.left - 1) c.self.inside.routers)) c.self.view_is
    (group_begun c.self.inside.queue c.push_ticks.new.queue c.self.inside.group c.self.inside.left c.self.inside.routers
    (subst (λ (p : Plan). 0 < p.left) (sym c.self.view_is) c.requires)
    c.in_ok-push_ticks.ensures)
