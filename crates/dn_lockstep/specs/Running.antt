-- A run as far as it has come, and what it means that an engine stands there.
use Rattle.std.specs.Prelude.{◌≡◌, ℕ, zero, suc, ◌<◌, ◌≤◌, ◌==◌, Bool, false, Option, Some, None, List, length, take, slice_get}
use Rattle.std.specs.List.{filter}
use Rattle.dn_guest.specs.declared.node.Node.{Node}
use Rattle.dn_model.specs.declared.key.Key.{Key}
use Rattle.dn_model.specs.declared.event.Event.{Event}
use Rattle.dn_model.specs.declared.feed.External.{External}
use Rattle.dn_model.specs.Cases.{Heading}
use Rattle.dn_model.specs.Network.{Network, Family, routers, state}
use Rattle.dn_model.specs.Settled.{IsTimed, IsFeedOf, IsSettled, IsSettledBelow, AreSame, below, lockstep, rows}
use Rattle.dn_model.specs.SoFar.{IsRunSoFar, IsWired, by_router}

-- an engine as plain data: the header, each router's node, the events that wait in no particular order, how many rows were handled and the last of them, and whether the engine ran out of memory
pub record Running (S : Type 0) : Type 0 where
  pub header : Heading
  pub nodes : List (Node S)
  pub waiting : List Event
  pub place : ℕ
  pub last : Option Event
  pub spent : Bool

-- the first n rows
abbrev pub first_rows : {S : Type 0} → Network S → List External → ℕ → List Event
first_rows net feed n = take n (rows net feed)

-- the row before this place
abbrev pub row_before : {S : Type 0} → Network S → List External → ℕ → Option Event
row_before net feed zero = None
row_before net feed (suc n) = slice_get (rows net feed) n

-- the engine stands after the first `place` lockstep rows of this network and feed
pub record StandsIn {S : Type 0} (net : Network S) (feed : List External) (e : Running S) : Type 0 where
  pub timed : IsTimed net.header
  pub wired : IsWired net
  pub fed : IsFeedOf net.header feed
  pub header : e.header ≡ net.header
  pub within : e.place ≤ length (rows net feed)
  pub so_far : IsRunSoFar net feed (first_rows net feed e.place) e.waiting
  pub last : e.last ≡ row_before net feed e.place
  -- each node is the replay of the rows at its router
  pub nodes : (r : ℕ) → r < routers net → slice_get e.nodes r ≡ Some (state net r (by_router (first_rows net feed e.place) r))
  pub unspent : e.spent ≡ false

-- the engine stands after all lockstep rows: these by router are a settled family, and no other is, the same below every key; and each router has handled its lockstep list
pub record IsAtEnd {S : Type 0} (net : Network S) (feed : List External) (e : Running S) : Type 0 where
  pub place : e.place ≡ length (rows net feed)
  pub of_router : (r : ℕ) → r < routers net → by_router (rows net feed) r ≡ lockstep net feed r
  pub settled : IsSettled net feed (by_router (rows net feed))
  pub settled_below : (bound : Key) → IsSettledBelow net feed bound (by_router (rows net feed))
  pub no_other : (f : Family) → IsSettled net feed f → AreSame net feed f (by_router (rows net feed))
  pub no_other_below : (bound : Key) (f : Family) → IsSettledBelow net feed bound f → (r : ℕ) → r < routers net → below bound (f r) ≡ below bound (by_router (rows net feed) r)
  pub nodes : (r : ℕ) → r < routers net → slice_get e.nodes r ≡ Some (state net r (lockstep net feed r))

-- the messages among some events
abbrev pub messages : List Event → List Event
messages events = filter (λ e. e.key.class == 2) events
