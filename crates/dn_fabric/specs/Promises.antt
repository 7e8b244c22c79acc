-- What a fabric promises of the rows that it has committed, and of its end, whatever the steps that led there.
use Rattle.std.specs.Prelude.{◌≡◌, ℕ, ◌<◌, ◌≤◌, false, List, [], length, take}
use Rattle.std.specs.List.{filter, count_by}
use Rattle.dn_model.specs.declared.event.Event.{Event}
use Rattle.dn_model.specs.declared.key.Key.{Key}
use Rattle.dn_model.specs.declared.feed.External.{External}
use Rattle.dn_model.specs.Network.{Network, Family, is_at, routers, sent, state}
use Rattle.dn_model.specs.Settled.{IsPrefixOf, IsSettled, IsSettledBelow, AreSame, below, lockstep, rows, shown_rows, is_cut}
use Rattle.dn_world.specs.World.{part, dones, horizon, is_same}
use Rattle.dn_fabric.specs.Fabrics.{Live}

-- of a router, the committed rows
abbrev pub rows_at : {S : Type 0} → Live S → ℕ → List Event
rows_at l r = filter (is_at r) l.rows

module _ {S : Type 0} (net : Network S) (l : Live S) where
  -- the committed rows are a prefix of the lockstep rows of this feed; those of each router are a prefix of its lockstep list, and its state after them is its lockstep state after as many
  pub record IsFinal (feed : List External) : Type 0 where
    pub rows : IsPrefixOf l.rows (rows net feed)
    pub of_router : (r : ℕ) → r < routers net → IsPrefixOf (rows_at l r) (lockstep net feed r)
    pub state : (r : ℕ) → r < routers net → state net r (rows_at l r) ≡ state net r (take (length (rows_at l r)) (lockstep net feed r))

  -- each message among the committed rows is sent in the replay of its sender's committed rows, at least as often as it is committed, and where no row is cut off, just as often
  pub record AreSent : Type 0 where
    pub enough : (e : Event) → e.key.class ≡ 2 → count_by (is_same e) l.rows ≤ count_by (is_same e) (sent net e.key.origin (rows_at l e.key.origin))
    pub just : (e : Event) → e.key.class ≡ 2 → l.cut ≡ false → 0 < count_by (is_same e) l.rows → count_by (is_same e) l.rows ≡ count_by (is_same e) (sent net e.key.origin (rows_at l e.key.origin))

  -- nothing waits any more: no unsend is left, and each router has handled its whole lockstep list of the accepted externals. These lists are a settled family, and no other is; the same below every key
  pub record IsAtRest : Type 0 where
    pub voids : (r : ℕ) → r < routers net → (part l.world r).voids ≡ []
    pub done : (r : ℕ) → r < routers net → (part l.world r).done ≡ lockstep net l.world.accepted r
    pub settled : IsSettled net l.world.accepted (dones l.world)
    pub settled_below : (bound : Key) → IsSettledBelow net l.world.accepted bound (dones l.world)
    pub no_other : (f : Family) → IsSettled net l.world.accepted f → AreSame net l.world.accepted f (dones l.world)
    pub no_other_below : (bound : Key) (f : Family) → IsSettledBelow net l.world.accepted bound f → (r : ℕ) → r < routers net → below bound (f r) ≡ below bound (dones l.world r)
    -- where the boundary is at the horizon, the committed rows are those that the lockstep trace shows, cut where it is cut
    pub rows : l.world.boundary ≡ horizon net.header l.world → l.rows ≡ shown_rows net l.world.accepted
    pub cut : l.world.boundary ≡ horizon net.header l.world → l.cut ≡ is_cut net l.world.accepted
