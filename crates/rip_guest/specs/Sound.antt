-- What holds of every state that a router reaches. The law is `sound_states` of src/laws.rt.
use Rattle.std.specs.Prelude.{◌≡◌, ◌≤◌, ◌<◌, ◌^◌, ℕ, ⊤, true, List, length, fold, All, is_some}
use Rattle.std.specs.List.{AllByRecursion}
use Rattle.dn_guest.specs.declared.input.Input.{Input}
use Rattle.dn_guest.specs.declared.input.Input.TheVariants.{Tick, Cmd, Down, Up, Msg}
use Rattle.dn_guest.specs.declared.outbox.Output.{Output}
use Rattle.dn_net.specs.Networks.{is_network}
use Rattle.rip_wire.specs.Constants.{infinity, last_tick_taken, most_own_networks}
use Rattle.rip_wire.specs.Reading.{message_at}
use Rattle.rip_table.specs.Sound.{IsSoundTable}
use Rattle.rip_guest.specs.State.{Prefix, RipState}
use Rattle.rip_guest.specs.Step.{rip_after}

-- ---- what a router begins with, and what it is given

-- an own network: an address of 32 bits, a length of at most 32, no host bits, and a metric of at least 1
pub record IsSetting (p : Prefix) : Type 0 where
  pub address : p.0 < 2 ^ 32
  pub network : is_network p.0 p.1 ≡ true
  pub metric : 1 ≤ p.2

-- a number of 16 bits, at most 16 ports, each with a cost, and at most 32 own networks
pub record AreSettings (n : ℕ) (costs : List ℕ) (prefixes : List Prefix) : Type 0 where
  pub number : n < 2 ^ 16
  pub few_ports : length costs ≤ 16
  pub each_cost : AllByRecursion (λ cost. 1 ≤ cost) costs
  pub few_networks : length prefixes ≤ most_own_networks
  pub each_network : AllByRecursion IsSetting prefixes

-- what comes in a command or a message is bytes
abbrev pub HasBytes : Input → Type 0
HasBytes (Tick group) = ⊤
HasBytes (Cmd body) = All (λ b. b < 2 ^ 8) body
HasBytes (Down port) = ⊤
HasBytes (Up port) = ⊤
HasBytes (Msg port body) = All (λ b. b < 2 ^ 8) body

-- the state after these inputs, each with the mask of its up ports
abbrev pub rip_run : RipState → List (ℕ × Input) → RipState
rip_run s steps = fold (λ t e. rip_after t e.0 e.1) s steps

-- ---- the state

pub record IsSoundState (s : RipState) : Type 0 where
  pub number : s.number < 2 ^ 16
  pub tick : s.last_tick ≤ last_tick_taken
  pub ports : length s.costs ≤ 16
  pub costs : AllByRecursion (λ cost. (1 ≤ cost) × (cost ≤ infinity)) s.costs
  pub routes : IsSoundTable (length s.costs) s.last_tick s.routes

-- ---- what it sends: on one of so many ports, bytes that are a message

pub record IsSent (ports : ℕ) (o : Output) : Type 0 where
  pub port : o.port < ports
  pub bytes : All (λ b. b < 2 ^ 8) o.body
  pub message : is_some (message_at o.body) ≡ true
