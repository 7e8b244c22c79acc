-- What is kept beside the routers of a world.
use Rattle.std.specs.Prelude.{◌≡◌, ℕ, Bool, Option, Some, None, List, option_map, map, set, slice_get}
use Rattle.dn_model.specs.declared.event.Event.{Event}
use Rattle.dn_router.specs.Routers.{Speculation}
use Rattle.dn_world.specs.World.{Part, is_behind}
use Rattle.dn_fabric.specs.declared.asking.Asked.{Asked}
use Rattle.dn_fabric.specs.declared.asking.Asked.TheVariants.{RollBack, Handle, Nothing}
use Rattle.dn_fabric.specs.declared.roster.Errand.{Errand}
use Rattle.dn_fabric.specs.Work.{first_behind, least_ready}

-- what there is to do at a router
abbrev pub errand_of : Part → Errand
errand_of p = record { behind = is_behind p; least = option_map (λ e. e.key) (slice_get p.todo 0) }

-- the same of each router
abbrev pub errands_of : {S : Type 0} → List (Speculation S) → List Errand
errands_of ss = map (λ s. errand_of s.part) ss

-- one router has changed, and no other
pub record IsChanged {S : Type 0} (before : List (Speculation S)) (r : ℕ) (old new : Speculation S) (now : List (Speculation S)) : Type 0 where
  pub from : slice_get before r ≡ Some old
  pub to : now ≡ set before r new

module _ {S : Type 0} (ss : List (Speculation S)) where
  -- a router that was found, with its first event to handle
  abbrev pub IsFound : Option (ℕ × Event) → Option ℕ → Type 0
  IsFound None number = number ≡ None
  IsFound (Some found) number = (number ≡ Some found.0) × (s : Speculation S) × (slice_get ss found.0 ≡ Some s) × (slice_get s.part.todo 0 ≡ Some found.1)

-- of the first router that is behind, and the one of those that may handle an event whose event is the least, what is asked for first
abbrev pub asked_of : Option ℕ → Option (ℕ × Event) → Asked
asked_of (Some r) ready = RollBack r
asked_of None (Some found) = Handle found.0
asked_of None None = Nothing

-- the same of these routers, of which some are leased
abbrev pub asked_by : List Part → List Bool → Asked
asked_by ps leased = asked_of (first_behind 0 ps) (least_ready 0 ps leased None)
