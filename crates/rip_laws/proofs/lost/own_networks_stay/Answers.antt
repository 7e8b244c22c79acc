use Rattle.std.proofs.Common.{◌≡◌, false, sym, subst}
use Rattle.rip_table.specs.Routes.{any_changed}
use Rattle.rip_guest.specs.State.{RipState}
use Rattle.rip_laws.specs.Reached.{IsReached}
use Rattle.rip_laws.proofs.Lookups.{Puts}
use Rattle.rip_laws.proofs.OwnStay.{own_stays}
use Rattle.rip_laws.proofs.lost.own_networks_stay.Goals as goal

abbrev Laws : Type 0
Laws = goal.After-read_messages_fit

unmarked : (c : Laws) (s : RipState) → IsReached s → any_changed s.routes ≡ false
unmarked c s is = subst (λ (t : RipState). any_changed t.routes ≡ false) (sym is.reached) (c.no_mark_is_left.ensures.run is.number is.costs is.prefixes is.steps)

puts : Laws → Puts
puts c = record { here = c.a_change_is_at_one_network.ensures.here; elsewhere = c.a_change_is_at_one_network.ensures.elsewhere }

pub returns : goal.returns
returns c = λ s ports input is other.
    own_stays (puts c) c.read_messages_fit.ensures.encodable s ports input (c.tables_are_in_order.ensures.ascending s is) (unmarked c s is)
    (c.no_mark_is_left.ensures.step s ports input (unmarked c s is)) other
