-- A fabric as plain data, and what its calls make of it.
use Rattle.std.specs.Prelude.{◌≡◌, ℕ, ◌<◌, Bool, true, false, Some, List, [], ◌∷◌, ◌++◌, length, slice_get, replicate, set}
use Rattle.dn_guest.specs.Meaning.{Meaning}
use Rattle.dn_model.specs.declared.event.Event.{Event}
use Rattle.dn_model.specs.Cases.{Heading, timing_of}
use Rattle.dn_model.specs.Links.{ends}
use Rattle.dn_model.specs.Network.{Network, opening_node, routers}
use Rattle.dn_model.specs.Settled.{IsPrefixOf, below}
use Rattle.dn_world.specs.declared.entry.Entry.{Entry}
use Rattle.dn_world.specs.declared.entry.Entry.TheVariants.{Did}
use Rattle.dn_world.specs.declared.step.Step.{Step}
use Rattle.dn_world.specs.World.{World, part, opening, horizon}
use Rattle.dn_world.specs.Steps.{after}
use Rattle.dn_world.specs.Logs.{log_of}
use Rattle.dn_world.specs.Runs.{IsLegal, IsBalanced, IsAllPast, IsPast, world, committed, is_cut_off}
use Rattle.dn_router.specs.Routers.{Speculation}

-- routers that speculate, and what flies between them: the header, the guests' states at the opening by router, the world, the rows that were committed and whether there are more, and whether a call found no memory or `stop` was called
pub record Live (S : Type 0) : Type 0 where
  pub header : Heading
  pub openings : List S
  pub world : World
  pub rows : List Event
  pub cut : Bool
  pub stopped : Bool

-- that, with the steps that led there, and which routers are leased
pub record Fabric (S : Type 0) : Type 0 where
  pub live : Live S
  pub journal : List Step
  pub leased : List Bool

-- the network of the header, these guests and these opening states
pub record IsNetworkOf {S : Type 0} (net : Network S) (meaning : Meaning S) (h : Heading) (states : List S) : Type 0 where
  pub header : net.header ≡ h
  pub guests : net.guests ≡ meaning
  pub openings : (r : ℕ) → r < routers net → slice_get states r ≡ Some (net.opening r)

module _ {S : Type 0} (net : Network S) where
  -- the world after the step, with the rows that are committed in it
  abbrev pub live_after : Live S → Step → Live S
  live_after l s =
      record l {
        world = after net l.world s;
        rows = committed net (after net l.world s);
        cut = is_cut_off net (after net l.world s);
      }

  -- the fabric after the step: it stands last in the journal
  abbrev pub stepped : Fabric S → Step → Fabric S
  stepped f s = record f { live = live_after f.live s; journal = f.journal ++ s ∷ [] }

  -- the router r of a world, as `dn_router` has it: its history is the part's
  abbrev pub router_of : World → ℕ → Speculation S
  router_of w r =
      record {
        number = r;
        ends = ends net.header.links r;
        timing = timing_of net.header;
        opening = opening_node net r;
        part = part w r;
        committed = length (below w.boundary (part w r).done);
        bound = w.boundary;
      }

  -- the journal is a legal run, and leads to the world; nothing is lost or made in it; and nothing comes before its boundary
  pub record IsReached (f : Fabric S) : Type 0 where
    pub legal : IsLegal net f.journal
    pub world : world net f.journal ≡ f.live.world
    pub balanced : IsBalanced net f.live.world
    pub past : IsAllPast net f.live.world.boundary f.live.world
    pub rows : f.live.rows ≡ committed net f.live.world
    pub cut : f.live.cut ≡ is_cut_off net f.live.world

  -- one step was taken and is the last of the journal, and all of this holds again; the horizon hasn't fallen; no row was taken away, and what is cut stays cut
  pub record HasStepped (before : Fabric S) (s : Step) (now : Fabric S) : Type 0 where
    pub is : now ≡ stepped before s
    pub reached : IsReached now
    pub onward : IsPast (horizon net.header before.live.world) (horizon net.header now.live.world)
    pub grown : IsPrefixOf before.live.rows now.live.rows
    pub stays_cut : before.live.cut ≡ true → now.live.cut ≡ true

-- the log of a fabric: the steps of its journal, and behind them the mark Stop where it was stopped
abbrev pub log_in : {S : Type 0} → Fabric S → List Entry
log_in f = log_of f.journal f.live.stopped

-- a step was noted: it is the last of the journal and of the log, and header, openings, leases and the mark of a stop are those from before
pub record HasNoted {S : Type 0} (before : Fabric S) (s : Step) (now : Fabric S) : Type 0 where
  pub journal : now.journal ≡ before.journal ++ s ∷ []
  pub header : now.live.header ≡ before.live.header
  pub openings : now.live.openings ≡ before.live.openings
  pub leased : now.leased ≡ before.leased
  pub stopped : now.live.stopped ≡ before.live.stopped
  pub log : log_in now ≡ log_in before ++ Did s ∷ []

-- no memory was found, in the middle of a call: nothing more is done, and the network is the one from before
pub record HasHalted {S : Type 0} (before now : Live S) : Type 0 where
  pub stopped : now.stopped ≡ true
  pub header : now.header ≡ before.header
  pub openings : now.openings ≡ before.openings

-- the same of a fabric, which has the journal from before
pub record HasStopped {S : Type 0} (before now : Fabric S) : Type 0 where
  pub halted : HasHalted before.live now.live
  pub journal : now.journal ≡ before.journal

-- the lease of a router begins or ends
abbrev pub with_lease : {S : Type 0} → Fabric S → ℕ → Bool → Fabric S
with_lease f r on = record f { leased = set f.leased r on }

-- a fabric before its first step
abbrev pub opening_live : {S : Type 0} → Heading → List S → Live S
opening_live h openings = record { header = h; openings = openings; world = opening (length h.routers); rows = []; cut = false; stopped = false }

abbrev pub opening_fabric : {S : Type 0} → Heading → List S → Fabric S
opening_fabric h openings = record { live = opening_live h openings; journal = []; leased = replicate (length h.routers) false }
