-- What holds of a router's parts in every state.
use Rattle.std.specs.Prelude.{◌≡◌, ℕ, ◌+◌, ◌-◌, ◌<◌, Bool, ◌&&◌, nat_lt, if◌then◌else◌, List, [], ◌∷◌, length}
use Rattle.std.specs.List.{AllByRecursion}
use Rattle.std.specs.List.Sorted.{IsSorted}
use Rattle.dn_guest.specs.declared.node.Node.{Node}
use Rattle.dn_guest.specs.Meaning.{Meaning}
use Rattle.dn_model.specs.declared.event.Event.{Event}
use Rattle.dn_model.specs.declared.key.Key.{Key}
use Rattle.dn_model.specs.Order.{event_cmp}
use Rattle.dn_model.specs.Settled.{below}
use Rattle.dn_world.specs.World.{Part, stands}
use Rattle.dn_world.specs.Runs.{IsPast, IsTidy}
use Rattle.dn_ckpt.specs.Shelves.{kept_from}
use Rattle.dn_router.specs.Replays.{nodes_over}

-- how many of voids were handled
abbrev pub marked_in : List Event → List Event → ℕ
marked_in done [] = 0
marked_in done (v ∷ vs) = (if stands v done then 1 else 0) + marked_in done vs

-- the same count after one unsend has come or gone
abbrev pub recounted : ℕ → Bool → ℕ → ℕ → ℕ
recounted wrong handled before after =
    if handled && nat_lt before after then wrong + 1 else if handled && nat_lt after before then wrong - 1 else wrong

-- an event that waits at the router is the router's, and isn't below the bound
abbrev pub MayWait : ℕ → Key → Event → Type 0
MayWait number bound e = (e.router ≡ number) × IsPast bound e.key

pub record IsSound {S : Type 0} (guests : Meaning S) (number period : ℕ) (opening : Node S) (part : Part) (shelf : List (ℕ × Node S)) (marked counted : ℕ) (bound : Key) : Type 0 where
  pub timed : 0 < period
  pub tidy : IsTidy part
  pub sorted : IsSorted event_cmp part.done
  pub own : AllByRecursion (λ e. e.router ≡ number) part.done
  pub todo : AllByRecursion (MayWait number bound) part.todo
  pub voids : AllByRecursion (MayWait number bound) part.voids
  -- a node is kept for each number of entries that isn't below the number of those committed
  pub kept : shelf ≡ kept_from counted (nodes_over guests 0 opening part.done)
  -- how many of voids were handled
  pub wrong : marked ≡ marked_in part.done part.voids
  pub committed : counted ≡ length (below bound part.done)
