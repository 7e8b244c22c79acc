-- Where a step may be taken when a world is driven through a case, and what the steps of a journal come to.
use Rattle.std.specs.Prelude.{ℕ, suc, Bool, true, false, not, ◌&&◌, nat_lt, ◌==◌, if◌then◌else◌, List, [], ◌∷◌, length, drop}
use Rattle.std.specs.Ordering.{is_eq}
use Rattle.dn_guest.specs.InputOrder.{input_cmp}
use Rattle.dn_model.specs.declared.feed.External.{External}
use Rattle.dn_model.specs.Cases.{Heading}
use Rattle.dn_model.specs.Network.{Network}
use Rattle.dn_world.specs.declared.step.Step.{Step}
use Rattle.dn_world.specs.declared.step.Step.TheVariants.{Beacon, Inject, Close, Deliver, Handle, RollBack, Commit}
use Rattle.dn_world.specs.World.{World, part, is_behind, is_ready, is_empty, is_quiet}
use Rattle.dn_world.specs.Steps.{is_enabled, after}
use Rattle.dn_world.specs.Runs.{is_cut_off}
use Rattle.dn_fabric.specs.Work.{can_commit}
use Rattle.dn_drive.specs.declared.ended.Ended.{Ended}
use Rattle.dn_drive.specs.declared.ended.Ended.TheVariants.{Whole, Cut, Illegal, Open}

-- ---- what the case asks

-- the same external
abbrev pub is_same_external : External → External → Bool
is_same_external x y = (x.group == y.group) && (x.router == y.router) && is_eq (input_cmp x.input y.input)

-- the next external is this one
abbrev pub is_next : List External → External → Bool
is_next [] x = false
is_next (y ∷ ys) x = is_same_external y x

-- the next external, if there is one, is of a later group
abbrev pub starts_later : ℕ → List External → Bool
starts_later floor [] = true
starts_later floor (x ∷ xs) = nat_lt floor x.group

-- with this floor and the rest xs of the feed the case asks for the step, or leaves it free: a Beacon only where the next external, if there is one, is of a later group; an Inject of the next one; a Close after all of them
abbrev pub is_fed : ℕ → List External → Step → Bool
is_fed floor xs Beacon = starts_later floor xs
is_fed floor xs (Inject x) = is_next xs x
is_fed floor xs Close = is_empty xs
is_fed floor xs (Deliver place) = true
is_fed floor xs (Handle r) = true
is_fed floor xs (RollBack r) = true
is_fed floor xs Commit = true

-- the rest of the feed after the step
abbrev pub rest_after : List External → Step → List External
rest_after xs Beacon = xs
rest_after xs (Inject x) = drop 1 xs
rest_after xs Close = xs
rest_after xs (Deliver place) = xs
rest_after xs (Handle r) = xs
rest_after xs (RollBack r) = xs
rest_after xs Commit = xs

-- the step may be taken, where the feed is one of a case: its externals are then such as their routers take
abbrev pub is_allowed_here : Heading → World → List External → Step → Bool
is_allowed_here h w xs Beacon = not w.closed && nat_lt (suc w.floor) h.groups && starts_later w.floor xs
is_allowed_here h w xs (Inject x) = not w.closed && (x.group == w.floor) && is_next xs x
is_allowed_here h w xs Close = not w.closed && (suc w.floor == h.groups) && is_empty xs
is_allowed_here h w xs (Deliver place) = nat_lt place (length w.flight)
is_allowed_here h w xs (Handle r) = nat_lt r (length h.routers) && is_ready (part w r)
is_allowed_here h w xs (RollBack r) = nat_lt r (length h.routers) && is_behind (part w r)
is_allowed_here h w xs Commit = true

-- ---- what the steps come to

-- where all steps are taken: Whole in a quiet world whose horizon isn't above its boundary
unfoldable pub end_of : Heading → World → Ended
end_of h w = if is_quiet w && not (can_commit h w) then Whole else Open

module _ {S : Type 0} (net : Network S) where
  -- the step may be taken in this world with the rest xs of the feed
  unfoldable pub is_allowed : World → List External → Step → Bool
  is_allowed w xs s = is_enabled net w s && is_fed w.floor xs s

  -- what the steps come to, after n steps that led to this world: Illegal with the number, from 1, of the first step that isn't allowed; Cut after the first step that leaves a cut world, and the steps behind it count for nothing
  unfoldable pub rerun : World → List External → ℕ → List Step → Ended
  rerun w xs n [] = end_of net.header w
  rerun w xs n (s ∷ ss) =
      if is_allowed w xs s
      then (if is_cut_off net (after net w s) then Cut else rerun (after net w s) (rest_after xs s) (suc n) ss)
      else Illegal (suc n)

  -- the steps that are taken: those before the first that isn't allowed, and no further than the first that leaves a cut world
  unfoldable pub legal_front : World → List External → List Step → List Step
  legal_front w xs [] = []
  legal_front w xs (s ∷ ss) =
      if is_allowed w xs s
      then s ∷ (if is_cut_off net (after net w s) then [] else legal_front (after net w s) (rest_after xs s) ss)
      else []
