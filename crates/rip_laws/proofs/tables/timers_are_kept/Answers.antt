use Rattle.std.proofs.Common.{ℕ, subst}
use Rattle.std.specs.List.{AllByRecursion}
use Rattle.dn_guest.specs.declared.input.Input.TheVariants as input
use Rattle.rip_table.specs.Sound.{IsSoundRoute}
use Rattle.rip_guest.specs.State.{RipState}
use Rattle.rip_guest.specs.Step.{rip_after}
use Rattle.rip_laws.specs.Reached.{IsReached}
use Rattle.rip_laws.specs.Timely.{IsTimely}
use Rattle.rip_laws.proofs.Choice.{each}
use Rattle.rip_laws.proofs.Times.{tick_kept, timely}
use Rattle.rip_laws.proofs.tables.timers_are_kept.Goals as goal

abbrev Laws : Type 0
Laws = goal.After-reached_states

always : (c : Laws) (s : RipState) → IsReached s → AllByRecursion (λ e. IsTimely s.last_tick e.1) s.routes
always c s is =
    let sound = c.reached_states.ensures.sound s is in
    each (IsSoundRoute _ s.last_tick) (λ e. IsTimely s.last_tick e.1) (timely _ s.last_tick) s.routes sound.routes.each

pub returns-clause-always : goal.returns-clause-always
returns-clause-always c = always c

pub returns-clause-tick : goal.returns-clause-tick
returns-clause-tick c = λ s ports group is rises early.
    subst (λ (now : ℕ). AllByRecursion (λ e. IsTimely now e.1) (rip_after s ports (input.Tick group)).routes) (tick_kept s ports group rises early)
    (always c (rip_after s ports (input.Tick group)) (c.reached_states.ensures.step s ports (input.Tick group) tt is))
