-- What a fabric that is reached promises of its rows, and of its end.
use Rattle.std.proofs.Common.{◌≡◌, ℕ, ◌<◌, ◌≤◌, true, false, List, [], ◌++◌, length, take, sym, ap, ◌∙◌, subst}
use Rattle.std.specs.List.{filter, count_by}
use Rattle.dn_model.specs.declared.key.Key.{Key}
use Rattle.dn_model.specs.declared.event.Event.{Event}
use Rattle.dn_model.specs.declared.feed.External.{External}
use Rattle.dn_model.specs.Network.{Network, Family, is_at, routers, sent, state}
use Rattle.dn_model.specs.Settled.{AreSame, IsPrefixOf, IsSettled, IsSettledBelow, below, lockstep, rows, shown_rows, is_cut}
use Rattle.dn_world.specs.World.{World, part, dones, horizon, is_same, is_quiet}
use Rattle.dn_world.specs.Runs.{Continues, world, committed, committed_at, committed_state, is_cut_off}
use Rattle.dn_fabric.specs.Fabrics.{Fabric, IsReached}
use Rattle.dn_fabric.specs.Promises.{IsFinal, AreSent, IsAtRest}

-- the world that the journal reaches is the fabric's, and rows and cut are those of that world
module _ {S : Type 0} (net : Network S) (f : Fabric S) (reached : IsReached net f) where
  pub goes_on_there : (feed : List External) → Continues feed f.live.world → Continues feed (world net f.journal)
  goes_on_there feed goes = subst (Continues feed) (sym reached.world) goes

  pub cut_there : f.live.cut ≡ true → is_cut_off net (world net f.journal) ≡ true
  cut_there cut = ap (is_cut_off net) reached.world ∙ sym reached.cut ∙ cut

  pub quiet_there : is_quiet f.live.world ≡ true → is_quiet (world net f.journal) ≡ true
  quiet_there quiet = ap is_quiet reached.world ∙ quiet

  rows_there : committed net (world net f.journal) ≡ f.live.rows
  rows_there = ap (committed net) reached.world ∙ sym reached.rows

  pub rows_final : (feed : List External) → IsPrefixOf (committed net (world net f.journal)) (rows net feed) → ((r : ℕ) → r < routers net → IsPrefixOf (committed_at net (world net f.journal) r) (lockstep net feed r)) → ((r : ℕ) → r < routers net → committed_state net (world net f.journal) r ≡ state net r (take (length (committed_at net (world net f.journal) r)) (lockstep net feed r))) → IsFinal net f.live feed
  rows_final feed all own at = record {
    rows = subst (λ es. IsPrefixOf es (rows net feed)) rows_there all;
    of_router = λ r l. subst (λ es. IsPrefixOf (filter (is_at r) es) (lockstep net feed r)) rows_there (own r l);
    state = λ r l. subst (λ es. state net r (filter (is_at r) es) ≡ state net r (take (length (filter (is_at r) es)) (lockstep net feed r))) rows_there (at r l);
  }

  pub cut_shown : (feed : List External) → committed net (world net f.journal) ≡ shown_rows net feed → f.live.rows ≡ shown_rows net feed
  cut_shown feed shown = sym rows_there ∙ shown

  uncut_there : f.live.cut ≡ false → is_cut_off net (world net f.journal) ≡ false
  uncut_there uncut = ap (is_cut_off net) reached.world ∙ sym reached.cut ∙ uncut

  -- a message of the world's committed rows was sent at least as often, and where no row is cut off, just as often
  abbrev pub Enough : Event → Type 0
  Enough e = count_by (is_same e) (committed net (world net f.journal)) ≤ count_by (is_same e) (sent net e.key.origin (committed_at net (world net f.journal) e.key.origin))

  abbrev pub Just : Event → Type 0
  Just e = is_cut_off net (world net f.journal) ≡ false → 0 < count_by (is_same e) (committed net (world net f.journal)) → count_by (is_same e) (committed net (world net f.journal)) ≡ count_by (is_same e) (sent net e.key.origin (committed_at net (world net f.journal) e.key.origin))

  pub rows_sent : ((e : Event) → e.key.class ≡ 2 → Enough e) → ((e : Event) → e.key.class ≡ 2 → Just e) → AreSent net f.live
  rows_sent enough just = record {
    enough = λ e message. subst (λ es. count_by (is_same e) es ≤ count_by (is_same e) (sent net e.key.origin (filter (is_at e.key.origin) es))) rows_there (enough e message);
    just = λ e message uncut some.
        subst (λ es. count_by (is_same e) es ≡ count_by (is_same e) (sent net e.key.origin (filter (is_at e.key.origin) es))) rows_there
        (just e message (uncut_there uncut) (subst (λ es. 0 < count_by (is_same e) es) (sym rows_there) some));
  }

-- families with the same histories are settled together
pub record Same {S : Type 0} (net : Network S) (feed : List External) : Type 0 where
  pub settled : (f g : Family) → AreSame net feed f g → IsSettled net feed g → IsSettled net feed f
  pub settled_below : (bound : Key) (f g : Family) → AreSame net feed f g → IsSettledBelow net feed bound g → IsSettledBelow net feed bound f

-- a world at rest, with what is known of its run
pub record Rests {S : Type 0} (net : Network S) (w : World) : Type 0 where
  pub voids : (r : ℕ) → r < routers net → (part w r).voids ≡ []
  pub done : (r : ℕ) → r < routers net → (part w r).done ≡ lockstep net w.accepted r
  pub rows : w.boundary ≡ horizon net.header w → committed net w ≡ shown_rows net w.accepted
  pub cut : w.boundary ≡ horizon net.header w → is_cut_off net w ≡ is_cut net w.accepted
  pub settled : IsSettled net w.accepted (lockstep net w.accepted)
  pub settled_below : (bound : Key) → IsSettledBelow net w.accepted bound (lockstep net w.accepted)
  pub no_other : (g : Family) → IsSettled net w.accepted g → AreSame net w.accepted g (lockstep net w.accepted)
  pub no_other_below : (bound : Key) (g : Family) → IsSettledBelow net w.accepted bound g → (r : ℕ) → r < routers net → below bound (g r) ≡ below bound (lockstep net w.accepted r)

module _ {S : Type 0} (net : Network S) (f : Fabric S) (reached : IsReached net f) where
  pub rest_is : Rests net (world net f.journal) → Same net f.live.world.accepted → IsAtRest net f.live
  rest_is rests same =
      let a : Rests net f.live.world = subst (Rests net) reached.world rests in
      let accepted = f.live.world.accepted in
      record {
        voids = a.voids;
        done = a.done;
        settled = same.settled (dones f.live.world) (lockstep net accepted) a.done a.settled;
        settled_below = λ bound. same.settled_below bound (dones f.live.world) (lockstep net accepted) a.done (a.settled_below bound);
        no_other = λ g b r l. a.no_other g b r l ∙ sym (a.done r l);
        no_other_below = λ bound g b r l. a.no_other_below bound g b r l ∙ ap (below bound) (sym (a.done r l));
        rows = λ e. reached.rows ∙ a.rows e;
        cut = λ e. reached.cut ∙ a.cut e;
      }

-- a router of the header is one of the network
pub at_router : {S : Type 0} (net : Network S) (r : ℕ) → r < length net.header.routers → r < routers net
unfolding routers
at_router net r l = l
