use Rattle.std.proofs.Common.{◌≡◌, false, sym, subst}
use Rattle.rip_table.specs.Routes.{any_changed}
use Rattle.rip_guest.specs.State.{RipState}
use Rattle.rip_laws.proofs.Lookups.{none_marked}
use Rattle.rip_laws.proofs.tables.no_mark_between_steps.Goals as goal

pub returns : goal.returns
returns c = λ s is.
    none_marked s.routes
    (subst (λ (t : RipState). any_changed t.routes ≡ false) (sym is.reached) (c.no_mark_is_left.ensures.run is.number is.costs is.prefixes is.steps))
