-- Legal runs, what is committed in a world, and what holds in each.
use Rattle.std.specs.Prelude.{◌≡◌, ℕ, suc, ◌<◌, ◌≤◌, Bool, true, false, nat_lt, List, [], ◌∷◌, ◌++◌, length, take, not}
use Rattle.std.specs.List.{filter, AllByRecursion}
use Rattle.std.specs.List.Sorted.{IsPermutation, IsSorted}
use Rattle.std.specs.Ordering.{is_lt}
use Rattle.dn_guest.specs.declared.node.Node.{Node}
use Rattle.dn_model.specs.declared.key.Key.{Key}
use Rattle.dn_model.specs.declared.event.Event.{Event}
use Rattle.dn_model.specs.declared.feed.External.{External}
use Rattle.dn_model.specs.Cases.{Heading}
use Rattle.dn_model.specs.Order.{key_cmp, event_cmp, is_below, sorted}
use Rattle.dn_model.specs.Network.{Network, injected, is_at, joined, routers, sent_to, state}
use Rattle.dn_model.specs.Settled.{IsTimed, below, row_limit}
use Rattle.dn_world.specs.declared.step.Step.{Step}
use Rattle.dn_world.specs.declared.step.Step.TheVariants.{Beacon, Inject, Close, Deliver, Handle, RollBack, Commit}
use Rattle.dn_world.specs.World.{stands, Part, World, part, dones, plus_of, minus_of, opening, waiting, floor_bound}
use Rattle.dn_world.specs.Steps.{is_enabled, after}

-- ---- runs

module _ {S : Type 0} (net : Network S) where
  -- each step is enabled where it comes
  unfoldable pub IsLegalFrom : World → List Step → Type 0
  IsLegalFrom w [] = Unit {0}
  IsLegalFrom w (s ∷ ss) = (is_enabled net w s ≡ true) × IsLegalFrom (after net w s) ss

  -- the world that the steps reach
  unfoldable pub run : World → List Step → World
  run w [] = w
  run w (s ∷ ss) = run (after net w s) ss

  -- a legal run, from the opening world
  abbrev pub IsLegal : List Step → Type 0
  IsLegal steps = IsLegalFrom (opening (routers net)) steps

  -- the world that it reaches
  abbrev pub world : List Step → World
  world steps = run (opening (routers net)) steps

-- the externals that the steps inject
unfoldable pub injects : List Step → List External
injects [] = []
injects (Inject x ∷ ss) = x ∷ injects ss
injects (Beacon ∷ ss) = injects ss
injects (Close ∷ ss) = injects ss
injects (Deliver place ∷ ss) = injects ss
injects (Handle r ∷ ss) = injects ss
injects (RollBack r ∷ ss) = injects ss
injects (Commit ∷ ss) = injects ss

-- the case with this feed continues the world: the accepted externals are a prefix of the feed, no further one is of a group before the floor, and there is none once the world is closed
pub record Continues (feed : List External) (w : World) : Type 0 where
  pub further : List External
  pub whole : w.accepted ++ further ≡ feed
  pub not_past : AllByRecursion (λ x. w.floor ≤ x.group) further
  pub no_more : w.closed ≡ true → further ≡ []

-- a legal run that injects a prefix of the feed, and closes only after all of it
pub record IsLegalOf {S : Type 0} (net : Network S) (feed : List External) (steps : List Step) : Type 0 where
  pub legal : IsLegal net steps
  pub further : List External
  pub whole : injects steps ++ further ≡ feed
  pub no_more : (world net steps).closed ≡ true → further ≡ []

-- the groups of a feed don't fall
abbrev pub DontFall : List External → Type 0
DontFall [] = Unit {0}
DontFall (x ∷ xs) = AllByRecursion (λ y. x.group ≤ y.group) xs × DontFall xs

-- the next external, if there is one, is of a later group
abbrev pub StartsLater : ℕ → List External → Type 0
StartsLater floor [] = Unit {0}
StartsLater floor (x ∷ xs) = floor < x.group

-- with the rest xs of a feed before the step, the rest after it is ys
abbrev pub Feeds : World → List External → Step → List External → Type 0
Feeds w xs Beacon ys = StartsLater w.floor xs × (ys ≡ xs)
Feeds w xs (Inject x) ys = xs ≡ x ∷ ys
Feeds w xs Close ys = (xs ≡ []) × (ys ≡ [])
Feeds w xs (Deliver place) ys = ys ≡ xs
Feeds w xs (Handle r) ys = ys ≡ xs
Feeds w xs (RollBack r) ys = ys ≡ xs
Feeds w xs Commit ys = ys ≡ xs

-- a legal run whose steps feed the case as its groups ask, from a world with the rest xs to one with the rest zs
unfoldable pub IsFedFrom : {S : Type 0} → Network S → World → List External → List Step → List External → Type 0
IsFedFrom net w xs [] zs = zs ≡ xs
IsFedFrom net w xs (s ∷ ss) zs = (ys : List External) × (is_enabled net w s ≡ true) × Feeds w xs s ys × IsFedFrom net (after net w s) ys ss zs

-- ---- what is committed

module _ {S : Type 0} (net : Network S) where
  -- all events of done that are below the boundary
  unfoldable pub settled_rows : World → List Event
  settled_rows w = sorted (joined (routers net) (λ r. below w.boundary (part w r).done))

  -- those of them that aren't below the key
  unfoldable pub fresh_rows : Key → World → List Event
  fresh_rows b w = sorted (joined (routers net) (λ r. filter (λ e. not (is_below b e)) (below w.boundary (part w r).done)))

  -- the committed rows: as many of them as a trace shows
  unfoldable pub committed : World → List Event
  committed w = take row_limit (settled_rows w)

  -- whether there are more
  unfoldable pub is_cut_off : World → Bool
  is_cut_off w = nat_lt row_limit (length (settled_rows w))

  -- the committed rows of a router, and its state after them
  abbrev pub committed_at : World → ℕ → List Event
  committed_at w r = filter (is_at r) (committed w)

  abbrev pub committed_state : World → ℕ → Node S
  committed_state w r = state net r (committed_at w r)

-- ---- what holds

-- the key k is b or later
abbrev pub IsPast : Key → Key → Type 0
IsPast b k = is_lt (key_cmp k b) ≡ false

module _ {S : Type 0} (net : Network S) where
  -- nothing is lost or made: at each router what is to be handled, what was handled and the messages that fly to it are, up to order, what came from outside, what all send to it, the unsends that fly to it and those that wait
  pub record IsBalanced (w : World) : Type 0 where
    pub count : length w.parts ≡ routers net
    pub sorted : (r : ℕ) → r < routers net → IsSorted event_cmp (part w r).done
    pub equal : (r : ℕ) → r < routers net →
        IsPermutation ((part w r).todo ++ (part w r).done ++ filter (is_at r) (plus_of w.flight))
        (injected (suc w.floor) w.accepted r ++ sent_to net (dones w) r ++ filter (is_at r) (minus_of w.flight) ++ (part w r).voids)

  -- what waits and what is still to be injected is at the key or past it
  pub record IsAllPast (b : Key) (w : World) : Type 0 where
    pub waiting : AllByRecursion (λ e. IsPast b e.key) (waiting w)
    pub bound : IsPast b (floor_bound net.header w)

-- a header with a group, a period, and links that take time
pub record IsPlayable (h : Heading) : Type 0 where
  pub timed : IsTimed h
  pub groups : 0 < h.groups

-- ---- what code may keep of a part

-- todo and voids are in order, and no event stands in both
pub record IsTidy (p : Part) : Type 0 where
  pub todo : IsSorted event_cmp p.todo
  pub voids : IsSorted event_cmp p.voids
  pub apart : AllByRecursion (λ v. stands v p.todo ≡ false) p.voids
