use Rattle.std.proofs.Common.{◌≡◌, false, sym, subst}
use Rattle.rip_table.specs.Routes.{any_changed}
use Rattle.rip_guest.specs.State.{RipState}
use Rattle.rip_laws.specs.Reached.{IsReached}
use Rattle.rip_laws.proofs.Quiet.{full_step}
use Rattle.rip_laws.proofs.tables.few_own_networks.Goals as goal

unmarked : (c : goal.After-no_mark_is_left) (s : RipState) → IsReached s → any_changed s.routes ≡ false
unmarked c s is = subst (λ (t : RipState). any_changed t.routes ≡ false) (sym is.reached) (c.no_mark_is_left.ensures.run is.number is.costs is.prefixes is.steps)

pub returns-clause-few : goal.returns-clause-few
returns-clause-few c = λ s is. (c.reached_states.ensures.sound s is).routes.own

pub returns-clause-full : goal.returns-clause-full
returns-clause-full c = λ s ports body is. full_step s ports body (unmarked c s is)
