-- What holds of every state that a router reaches. The law is `sound_states` of src/laws.rt.
use Rattle.std.specs.Prelude.{◌≡◌, ◌≤◌, ◌<◌, ◌^◌, ◌+◌, ℕ, ⊤, true, if◌then◌else◌, List, [], ◌∷◌, length, All, IfSome, Option, is_some}
use Rattle.std.specs.List.{AllByRecursion}
use Rattle.std.specs.List.Sorted.{IsStrictlySortedBy}
use Rattle.std.specs.Map.{keys_of}
use Rattle.dn_guest.specs.declared.input.Input.{Input}
use Rattle.dn_guest.specs.declared.input.Input.TheVariants as input
use Rattle.ospf_lsdb.specs.declared.key.LsaKey.{LsaKey}
use Rattle.ospf_lsdb.specs.declared.kept.Kept.{Kept}
use Rattle.ospf_lsdb.specs.Keys.{key_cmp, key_of, own_key}
use Rattle.ospf_lsdb.specs.Database.{Database, kept_at}
use Rattle.ospf_flood.specs.Retransmission.{OnPort}
use Rattle.ospf_router.specs.declared.neighbour.Neighbour.{Neighbour}
use Rattle.ospf_router.specs.declared.neighbour.Neighbour.TheVariants.{Down, Init, Full}
use Rattle.dn_net.specs.Networks.{is_network, network_cmp}
use Rattle.ospf_router.specs.Prefixes.{Networks}
use Rattle.ospf_router.specs.State.{OspfState}
use Rattle.ospf_router.specs.Step.{ospf_after}
use Rattle.ospf_router.specs.BuildUpdates.{is_sendable}

-- a tick, if there is one, isn't after this one
abbrev pub IsPast : ℕ → Option ℕ → Type 0
IsPast now tick = IfSome tick (λ t. t ≤ now)

-- An LSA stands at its own name, its length is that of its bytes and leaves room for the packet around it, and it
-- wasn't installed or sent after this tick.
pub record IsSoundEntry (now : ℕ) (e : LsaKey × Kept) : Type 0 where
  pub named : e.0 ≡ key_of e.1.lsa.head
  pub sendable : is_sendable e.1.lsa ≡ true
  pub installed : e.1.installed ≤ now
  pub sent : IsPast now e.1.sent

-- how many LSAs there are at most, by the router's own LSA: there is always room for it
abbrev pub most : Option Kept → ℕ
most own = if is_some own then 65535 else 65534

-- the database at this tick of a router whose own LSA has this name
pub record IsSoundDatabase (now : ℕ) (own : LsaKey) (db : Database) : Type 0 where
  pub rising : IsStrictlySortedBy key_cmp (keys_of db)
  pub each : AllByRecursion (IsSoundEntry now) db
  pub few : length db ≤ most (kept_at db own)

-- a retransmission list at this tick: each LSA on it once, in the database, and not sent after this tick
pub record IsSoundList (now : ℕ) (db : Database) (l : OnPort) : Type 0 where
  pub rising : IsStrictlySortedBy key_cmp (keys_of l)
  pub kept : AllByRecursion (λ key. is_some (kept_at db key) ≡ true) (keys_of l)
  pub sent : AllByRecursion (λ e. e.1 ≤ now) l

-- a neighbour that isn't Down wasn't heard after this tick
abbrev pub IsHeard : ℕ → Neighbour → Type 0
IsHeard now Down = ⊤
IsHeard now (Init h) = h.tick ≤ now
IsHeard now (Full h) = h.tick ≤ now

-- the own networks: each has no bits past its length
pub record IsSoundNetworks (ns : Networks) : Type 0 where
  pub rising : IsStrictlySortedBy network_cmp (keys_of ns)
  pub each : AllByRecursion (λ n. is_network n.0 n.1 ≡ true) (keys_of ns)
  pub few : length ns ≤ 32

-- no time in it is after the last tick
pub record IsSoundState (s : OspfState) : Type 0 where
  pub tick : s.tick ≤ 65535
  pub originated : IsPast s.tick s.originated
  pub networks : IsSoundNetworks s.prefixes
  pub ports : length s.interfaces.ports ≤ 16
  pub lists : length s.interfaces.lists ≡ length s.interfaces.ports
  pub heard : AllByRecursion (λ p. IsHeard s.tick p.neighbour) s.interfaces.ports
  pub database : IsSoundDatabase s.tick (own_key (s.number + 1)) s.db
  pub listed : AllByRecursion (IsSoundList s.tick s.db) s.interfaces.lists

-- what comes in a message is bytes
abbrev pub HasBytes : Input → Type 0
HasBytes (input.Tick group) = ⊤
HasBytes (input.Cmd bytes) = ⊤
HasBytes (input.Down port) = ⊤
HasBytes (input.Up port) = ⊤
HasBytes (input.Msg port bytes) = All (λ b. b < 2 ^ 8) bytes

-- the state after these steps, each with the mask of its up ports
abbrev pub ospf_run : OspfState → List (ℕ × Input) → OspfState
ospf_run s [] = s
ospf_run s (e ∷ es) = ospf_run (ospf_after s e.0 e.1) es
