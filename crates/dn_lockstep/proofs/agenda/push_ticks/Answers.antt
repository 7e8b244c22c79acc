use Rattle.std.proofs.Common.{◌≡◌, ℕ, ◌∷◌, ◌++◌, subst, arith}
use Rattle.std.specs.List.Sorted.{IsPermutation}
use Rattle.dn_model.specs.declared.event.Event.{Event}
use Rattle.dn_lockstep.specs.Agendas.{group_ticks}
use Rattle.dn_lockstep.proofs.Queueing.{no_ticks, one_tick_more}
use Rattle.dn_lockstep.proofs.agenda.push_ticks.Goals as goal

pub loop-router-init : goal.loop-router-init
loop-router-init c = no_ticks c.args.queue.now c.args.group

pub loop-router-preserved : goal.loop-router-preserved
loop-router-preserved c =
    one_tick_more c.args.queue.now c.loop-router.queue c.push.new.self c.args.group c.loop-router.router c.loop-router.invariant
    (subst (λ (e : Event). IsPermutation (e ∷ c.loop-router.queue) c.push.new.self) c.tick.ensures c.in_ok-push.ensures.ok)

pub returns : goal.returns
returns c =
    let e : c.loop-router.router ≡ c.args.routers = omega arith in
    subst (λ (n : ℕ). IsPermutation (c.args.queue.now ++ group_ticks c.args.group n) c.loop-router.queue) e c.loop-router.invariant
