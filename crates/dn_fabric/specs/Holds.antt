-- What holds of a fabric's parts in every state.
use Rattle.std.specs.Prelude.{◌≡◌, ℕ, ◌-◌, ◌^◌, ◌≤◌, Bool, true, false, Some, List, length, slice_get}
use Rattle.dn_guest.specs.Meaning.{Meaning}
use Rattle.dn_model.specs.declared.key.Key.{Key}
use Rattle.dn_model.specs.declared.event.Event.{Event}
use Rattle.dn_model.specs.Cases.{Heading, IsHeading, timing_of}
use Rattle.dn_model.specs.Links.{ends, ports_of}
use Rattle.dn_model.specs.Network.{Network}
use Rattle.dn_model.specs.Settled.{row_limit}
use Rattle.dn_router.specs.Routers.{Speculation}
use Rattle.dn_world.specs.Runs.{IsLegal}
use Rattle.dn_fabric.specs.Fabrics.{Fabric, IsNetworkOf, IsReached}

-- what no call changes of the router with the number r
pub record IsRouterAt {S : Type 0} (header : Heading) (r : ℕ) (router : Speculation S) : Type 0 where
  pub number : router.number ≡ r
  pub ends : router.ends ≡ ends header.links r
  pub timing : router.timing ≡ timing_of header
  pub ports : router.opening.ports ≡ 2 ^ ports_of header.links r - 1
  pub sends : router.opening.sends ≡ 0

-- what holds of a network of routers that speculate: each router is that of its number, and while no call was refused, each has committed up to the boundary
pub record IsWhole {S : Type 0} (header : Heading) (rs : List (Speculation S)) (boundary : Key) (rows : List Event) (cut stopped : Bool) : Type 0 where
  pub rules : IsHeading header
  pub count : length rs ≡ length header.routers
  pub routers : (r : ℕ) (router : Speculation S) → slice_get rs r ≡ Some router → IsRouterAt header r router
  pub bounds : stopped ≡ false → (r : ℕ) (router : Speculation S) → slice_get rs r ≡ Some router → router.bound ≡ boundary
  pub few : length rows ≤ row_limit
  pub full : cut ≡ true → length rows ≡ row_limit

-- what holds of a fabric: its header meets the rules of headers, and each router has an opening; its journal is a legal run; and while no call was refused, it leads to the fabric's world
pub record IsFabric {S : Type 0} (guests : Meaning S) (f : Fabric S) : Type 0 where
  pub rules : IsHeading f.live.header
  pub openings : length f.live.openings ≡ length f.live.header.routers
  pub leases : length f.leased ≡ length f.live.header.routers
  pub legal : (net : Network S) → IsNetworkOf net guests f.live.header f.live.openings → IsLegal net f.journal
  pub reached : (net : Network S) → IsNetworkOf net guests f.live.header f.live.openings → f.live.stopped ≡ false → IsReached net f
