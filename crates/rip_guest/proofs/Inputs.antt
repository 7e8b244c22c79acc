-- What the tests of an input say.
use Rattle.std.proofs.Common.{◌≡◌, ℕ, true, false, ◌||◌, ◌≤◌, ◌<◌, length, refl, arith}
use Rattle.std.specs.Prelude.{nat_lt}
use Rattle.std.proofs.lemmas.Bool.Decides.{nat_tests}
use Rattle.dn_guest.specs.declared.input.Input.{Input}
use Rattle.dn_guest.specs.declared.input.Input.TheVariants as input
use Rattle.rip_table.specs.Routes.{all_changed}
use Rattle.rip_table.specs.Timers.{port_lost}
use Rattle.rip_wire.specs.Reading.{message_at}
use Rattle.rip_guest.specs.State.{RipState, has_port, with_routes}
use Rattle.rip_guest.specs.Step.{handled, routes_after_message}
use Rattle.rip_guest.proofs.Choice.{choose}

-- a tick that isn't passed over
pub record IsTaken (tick group : ℕ) : Type 0 where
  pub rises : tick ≤ group
  pub early : group ≤ 65535

pub taken : (tick group : ℕ) → (nat_lt group tick || nat_lt 65535 group) ≡ false → IsTaken tick group
taken tick group t = record { rises = grind (arith, nat_tests); early = grind (arith, nat_tests) }

-- a port that the router has
pub there_by : (port ports : ℕ) → nat_lt port ports ≡ true → port < ports
there_by port ports t = grind (arith, nat_tests)

-- no input changes the ports
pub same_ports : (s : RipState) (i : Input) → length (handled s i).costs ≡ length s.costs
same_ports s (input.Tick group) = refl
same_ports s (input.Cmd body) = refl
same_ports s (input.Down port) =
    choose (λ (t : RipState). length t.costs ≡ length s.costs) (has_port s port) (with_routes s (all_changed (port_lost port s.last_tick) s.routes)) s (λ _. refl) (λ _. refl)
same_ports s (input.Up port) = refl
same_ports s (input.Msg port body) =
    choose (λ (t : RipState). length t.costs ≡ length s.costs) (has_port s port) (with_routes s (routes_after_message s port (message_at body))) s (λ _. refl) (λ _. refl)
