use Rattle.std.proofs.Common.{◌≡◌, ℕ, ◌<◌, length, subst}
use Rattle.std.specs.Prelude.{Option, IfSome, true}
use Rattle.rip_table.specs.declared.held.Held.{Held}
use Rattle.rip_table.specs.Sound.{IsSoundRoute}
use Rattle.rip_table.specs.Validation.{is_valid_destination}
use Rattle.rip_laws.proofs.Lookups.{Puts}
use Rattle.rip_laws.proofs.UpPorts.{GoByPorts, always_up, no_route_taken}
use Rattle.rip_laws.proofs.taken.no_route_by_a_down_port.Goals as goal

abbrev Laws : Type 0
Laws = goal.After-sound_tables

puts : Laws → Puts
puts c = record { here = c.a_change_is_at_one_network.ensures.here; elsewhere = c.a_change_is_at_one_network.ensures.elsewhere }

by_ports : (c : Laws) → GoByPorts
by_ports c = λ s n h port is found via.
    let sound = c.reached_states.ensures.sound s is in
    let route : IsSoundRoute (length s.costs) s.last_tick (n, h) =
    subst (λ (o : Option Held). IfSome o (λ x. IsSoundRoute (length s.costs) s.last_tick (n, x))) found (c.sound_tables.ensures.held (length s.costs) s.last_tick s.routes n sound.routes) in
    (subst (λ (o : Option ℕ). IfSome o (λ p. (p < length s.costs) × (is_valid_destination n.0 n.1 ≡ true))) via route.via).0

pub returns-clause-step : goal.returns-clause-step
returns-clause-step c = no_route_taken c.routes_come_from_messages.ensures

pub returns-clause-run : goal.returns-clause-run
returns-clause-run c = always_up (puts c) c.routes_come_from_messages.ensures (by_ports c)
