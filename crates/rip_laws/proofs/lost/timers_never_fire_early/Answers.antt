use Rattle.std.proofs.Common.{◌≡◌, ◌≤◌, length, Some, subst}
use Rattle.std.specs.Prelude.{Option, IfSome}
use Rattle.dn_net.specs.Networks.{Network}
use Rattle.rip_table.specs.declared.held.Held.{Held}
use Rattle.rip_table.specs.Routes.{held_at}
use Rattle.rip_table.specs.Sound.{IsSoundRoute}
use Rattle.rip_guest.specs.State.{RipState}
use Rattle.rip_laws.specs.Reached.{IsReached}
use Rattle.rip_laws.proofs.Lookups.{Puts}
use Rattle.rip_laws.proofs.GivenUp.{not_given_up, not_removed}
use Rattle.rip_laws.proofs.lost.timers_never_fire_early.Goals as goal

abbrev Laws : Type 0
Laws = goal.After-sound_tables

puts : Laws → Puts
puts c = record { here = c.a_change_is_at_one_network.ensures.here; elsewhere = c.a_change_is_at_one_network.ensures.elsewhere }

most : (c : Laws) (s : RipState) (n : Network) (h : Held) → IsReached s → held_at s.routes n ≡ Some h → h.metric ≤ 16
most c s n h is found =
    let sound = c.reached_states.ensures.sound s is in
    let route : IsSoundRoute (length s.costs) s.last_tick (n, h) =
    subst (λ (o : Option Held). IfSome o (λ x. IsSoundRoute (length s.costs) s.last_tick (n, x))) found (c.sound_tables.ensures.held (length s.costs) s.last_tick s.routes n sound.routes) in
    route.most

pub returns-clause-given_up : goal.returns-clause-given_up
returns-clause-given_up c = λ s ports input is. not_given_up (puts c) c.read_messages_fit.ensures.encodable s ports input (c.tables_are_in_order.ensures.ascending s is)

pub returns-clause-removed : goal.returns-clause-removed
returns-clause-removed c = λ s ports input is n h found.
    not_removed (puts c) c.read_messages_fit.ensures.encodable s ports input (c.tables_are_in_order.ensures.ascending s is) n h (most c s n h is found) found
