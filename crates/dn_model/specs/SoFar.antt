-- A run of the network in the order of events, as far as it has come.
use Rattle.std.specs.Prelude.{◌≡◌, ℕ, ◌<◌, false, List, ◌++◌}
use Rattle.std.specs.List.{filter, AllByRecursion}
use Rattle.std.specs.List.Sorted.{IsPermutation, IsSorted}
use Rattle.std.specs.Ordering.{is_gt}
use Rattle.dn_model.specs.declared.event.Event.{Event}
use Rattle.dn_model.specs.declared.feed.External.{External}
use Rattle.dn_model.specs.Order.{event_cmp}
use Rattle.dn_guest.specs.Node.{node_sent}
use Rattle.dn_model.specs.Network.{Network, Family, emitted, injected, is_at, joined, routers, state}
use Rattle.dn_model.specs.Settled.{due}

-- the events at each router
abbrev pub by_router : List Event → Family
by_router es r = filter (is_at r) es

-- the events of done were handled in order, those of waiting are what else is due, and none of them stands before one of done
pub record IsRunSoFar {S : Type 0} (net : Network S) (feed : List External) (done waiting : List Event) : Type 0 where
  pub sorted : IsSorted event_cmp done
  pub inside : AllByRecursion (λ e. e.router < routers net) (done ++ waiting)
  pub ahead : AllByRecursion (λ w. AllByRecursion (λ e. is_gt (event_cmp e w) ≡ false) done) waiting
  pub complete : (r : ℕ) → r < routers net → IsPermutation (due net feed (by_router done) r) (by_router (done ++ waiting) r)

-- each link joins two of the routers
abbrev pub IsWired : {S : Type 0} → Network S → Type 0
IsWired net = AllByRecursion (λ l. (l.a < routers net) × (l.b < routers net)) net.header.links

-- what the step of a further event emits
abbrev pub next_emitted : {S : Type 0} → Network S → List Event → Event → List Event
next_emitted net done e = emitted net.header e (node_sent net.guests (state net e.router (by_router done e.router)) e.input)

-- all that is injected at the routers
abbrev pub all_injected : {S : Type 0} → Network S → List External → List Event
all_injected net feed = joined (routers net) (λ r. injected net.header.groups feed r)
