-- The schedule of a number: at each turn one of the enabled steps, drawn from the number.
use Rattle.std.specs.Prelude.{ℕ, zero, suc, ◌+◌, ◌%◌, Bool, nat_lt, ◌==◌, if◌then◌else◌, List, [], ◌∷◌, ◌++◌, length, map, slice_get}
use Rattle.std.specs.Option.{option_map_or}
use Rattle.dn_model.specs.declared.feed.External.{External}
use Rattle.dn_model.specs.Cases.{Heading}
use Rattle.dn_model.specs.Keys.{fin, wrap}
use Rattle.dn_model.specs.Network.{Network}
use Rattle.dn_world.specs.declared.step.Step.{Step}
use Rattle.dn_world.specs.declared.step.Step.TheVariants.{Beacon, Inject, Close, Deliver, Handle, RollBack, Commit}
use Rattle.dn_world.specs.World.{Part, World, is_behind, is_ready}
use Rattle.dn_world.specs.Steps.{after}
use Rattle.dn_world.specs.Runs.{is_cut_off}
use Rattle.dn_fabric.specs.Work.{can_commit}
use Rattle.dn_drive.specs.Allowed.{rest_after}

-- ---- what may be taken

-- Beacon where a group is left, otherwise Close
abbrev pub next_group : Heading → World → Step
next_group h w = if nat_lt (suc w.floor) h.groups then Beacon else Close

-- the next external where its group is the floor, otherwise the next group
abbrev pub open_feed : Heading → World → List External → Step
open_feed h w [] = next_group h w
open_feed h w (x ∷ xs) = if x.group == w.floor then Inject x else next_group h w

-- the next step that feeds the case; none once the world is closed
unfoldable pub feed_steps : Heading → World → List External → List Step
feed_steps h w xs = if w.closed then [] else open_feed h w xs ∷ []

-- the numbers from r on, n of them
unfoldable pub numbers : ℕ → ℕ → List ℕ
numbers r zero = []
numbers r (suc n) = r ∷ numbers (suc r) n

-- the numbers of the parts that pass, where the first part has the number r
unfoldable pub passing : (Part → Bool) → ℕ → List Part → List ℕ
passing q r [] = []
passing q r (p ∷ ps) = if q p then r ∷ passing q (suc r) ps else passing q (suc r) ps

unfoldable pub commit_steps : Heading → World → List Step
commit_steps h w = if can_commit h w then Commit ∷ [] else []

-- the steps that a turn chooses from: that which feeds the case, Deliver of each place, RollBack of each router that is behind, Handle of each ready router, Commit where the horizon is above the boundary
unfoldable pub choices : Heading → World → List External → List Step
choices h w xs =
    feed_steps h w xs
    ++ (map Deliver (numbers 0 (length w.flight))
    ++ (map RollBack (passing is_behind 0 w.parts)
    ++ (map Handle (passing is_ready 0 w.parts)
    ++ commit_steps h w)))

-- ---- the schedule

-- the next number, from which a turn's place is drawn
unfoldable pub drawn : ℕ → ℕ
drawn h = fin (wrap (h + 0x9E3779B97F4A7C15))

module _ {S : Type 0} (net : Network S) where
  -- the steps of at most m turns: none where there is nothing to choose from, and none after a step that leaves a cut world
  unfoldable pub schedule : World → List External → ℕ → ℕ → List Step
  schedule w xs h zero = []
  schedule w xs h (suc m) =
      let all = choices net.header w xs in
      option_map_or
      (λ s. s ∷ (if is_cut_off net (after net w s) then [] else schedule (after net w s) (rest_after xs s) (drawn h) m))
      (slice_get all (drawn h % length all)) []
