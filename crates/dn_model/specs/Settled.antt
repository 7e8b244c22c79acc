-- The lockstep run, and settled families.
use Rattle.std.specs.Prelude.{◌≡◌, ℕ, zero, suc, ◌*◌, ◌<◌, Bool, ◌==◌, List, [], ◌++◌, take, length, nat_lt}
use Rattle.std.specs.List.{filter, AllByRecursion}
use Rattle.std.specs.List.Sorted.{IsPermutation, IsSorted}
use Rattle.dn_model.specs.declared.key.Key.{Key}
use Rattle.dn_model.specs.declared.event.Event.{Event}
use Rattle.dn_model.specs.declared.feed.External.{External}
use Rattle.dn_model.specs.Cases.{Heading}
use Rattle.dn_model.specs.Order.{event_cmp, sorted, is_below}
use Rattle.dn_model.specs.Keys.{moment}
use Rattle.dn_model.specs.Network.{Network, Family, injected, joined, sent_to, routers}

-- a period of at least 1, and links that take at least 1
pub record IsTimed (h : Heading) : Type 0 where
  pub period : 0 < h.period
  pub delays : AllByRecursion (λ l. 0 < l.delay) h.links

-- each external is in one of the groups
abbrev pub IsFeedOf : Heading → List External → Type 0
IsFeedOf h feed = AllByRecursion (λ x. x.group < h.groups) feed

abbrev pub IsPrefixOf : {X : Type 0} → List X → List X → Type 0
IsPrefixOf {X} xs ys = (rest : List X) × (xs ++ rest ≡ ys)

-- the most rows of a trace
unfoldable pub row_limit : ℕ
row_limit = 200000

-- the events below a key
unfoldable pub below : Key → List Event → List Event
below bound es = filter (is_below bound) es

module _ {S : Type 0} (net : Network S) (feed : List External) where
  -- what is to be handled at r, where the routers' histories are those of the family
  unfoldable pub due : Family → ℕ → List Event
  due f r = injected net.header.groups feed r ++ sent_to net f r

  unfoldable pub is_of_moment : ℕ → Event → Bool
  is_of_moment t e = moment net.header.period e.key == t

  -- the events of the moments below t
  unfoldable pub wave : ℕ → Family
  wave zero r = []
  wave (suc t) r = wave t r ++ sorted (filter (is_of_moment t) (due (wave t) r))

  unfoldable pub lockstep : Family
  lockstep r = wave (net.header.groups * net.header.period) r

  unfoldable pub rows : List Event
  rows = sorted (joined (routers net) lockstep)

  -- the rows that a trace shows, and whether it is cut there
  unfoldable pub shown_rows : List Event
  shown_rows = take row_limit rows

  unfoldable pub is_cut : Bool
  is_cut = nat_lt row_limit (length rows)

  pub record IsSettled (f : Family) : Type 0 where
    pub sorted : (r : ℕ) → r < routers net → IsSorted event_cmp (f r)
    pub complete : (r : ℕ) → r < routers net → IsPermutation (due f r) (f r)

  pub record IsSettledBelow (bound : Key) (f : Family) : Type 0 where
    pub sorted : (r : ℕ) → r < routers net → IsSorted event_cmp (below bound (f r))
    pub prefix : (r : ℕ) → r < routers net → IsPrefixOf (below bound (f r)) (f r)
    pub complete : (r : ℕ) → r < routers net → IsPermutation (below bound (due (λ s. below bound (f s)) r)) (below bound (f r))

  -- the histories of the two families are the same
  abbrev pub AreSame : Family → Family → Type 0
  AreSame f g = (r : ℕ) → r < routers net → f r ≡ g r
