-- What waits: the events of a queue, and the ticks of the groups that have not begun.
use Rattle.std.specs.Prelude.{ℕ, zero, suc, ◌<◌, List, [], ◌∷◌, ◌++◌, nat_lt, count_by}
use Rattle.dn_model.specs.declared.event.Event.{Event}
use Rattle.dn_model.specs.Network.{tick}

-- the events of a queue; the next group to begin, how many are left from it on, and how many routers tick
pub record Plan : Type 0 where
  pub queue : List Event
  pub group : ℕ
  pub left : ℕ
  pub routers : ℕ

-- the ticks of a group at the first n routers
unfoldable pub group_ticks : ℕ → ℕ → List Event
group_ticks group zero = []
group_ticks group (suc n) = group_ticks group n ++ tick group n ∷ []

-- the ticks of so many groups, from this one on, at the first n routers
unfoldable pub later_ticks : ℕ → ℕ → ℕ → List Event
later_ticks group zero n = []
later_ticks group (suc count) n = group_ticks group n ++ later_ticks (suc group) count n

-- all that waits
unfoldable pub waiting_in : Plan → List Event
waiting_in a = a.queue ++ later_ticks a.group a.left a.routers

-- how many events of the groups before this one there are
abbrev pub count_before : ℕ → List Event → ℕ
count_before group events = count_by (λ e. nat_lt e.key.group group) events

-- while groups are left that have not begun, an event of a group that has begun is in the queue
abbrev pub IsFronted : Plan → Type 0
IsFronted a = 0 < a.left → 0 < count_before a.group a.queue
