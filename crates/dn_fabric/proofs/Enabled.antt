-- Where steps may come next, and that only Commit moves the boundary.
use Rattle.std.proofs.Common.{◌≡◌, ℕ, suc, ◌+◌, ◌<◌, Bool, true, false, not, ◌&&◌, List, [], ◌∷◌, length, refl, ap, arith, eq-eqb}
use Rattle.std.specs.Prelude.{◌==◌, nat_lt, Option, Some, None, slice_get}
use Rattle.std.proofs.lemmas.Bool.{lt-ltb}
use Rattle.dn_model.specs.declared.event.Event.{Event}
use Rattle.dn_model.specs.declared.feed.External.{External}
use Rattle.dn_model.specs.Network.{Network, routers}
use Rattle.dn_world.specs.declared.packet.Packet.{Packet}
use Rattle.dn_world.specs.declared.step.Step.{Step}
use Rattle.dn_world.specs.declared.step.Step.TheVariants.{Beacon, Inject, Close, Deliver, Handle, RollBack, Commit}
use Rattle.dn_world.specs.World.{Part, World, part, is_behind, is_ready}
use Rattle.dn_world.specs.Steps.{is_enabled, is_injectable, after, beacon, inject, deliver, handle, roll_back}

-- all parts of a conjunction
and_2 : (a b : Bool) → a ≡ true → b ≡ true → (a && b) ≡ true
and_2 a b h k = (λ i. h i && k i)

module _ {S : Type 0} (net : Network S) (w : World) where
  pub beacon_enabled : w.closed ≡ false → w.floor + 1 < net.header.groups → is_enabled net w Beacon ≡ true
  unfolding is_enabled
  beacon_enabled unclosed left = and_2 (not w.closed) (nat_lt (suc w.floor) net.header.groups) (ap not unclosed) (lt-ltb (suc w.floor) net.header.groups (omega (arith, left)))

  pub inject_enabled : (x : External) → w.closed ≡ false → x.group ≡ w.floor → x.router < length net.header.routers → is_injectable net.header x.router x.input ≡ true → is_enabled net w (Inject x) ≡ true
  unfolding is_enabled routers
  inject_enabled x unclosed now inside asked =
      and_2 _ _ (and_2 _ _ (and_2 _ _ (ap not unclosed) (eq-eqb x.group w.floor now)) (lt-ltb x.router (length net.header.routers) inside)) asked

  pub close_enabled : w.closed ≡ false → w.floor + 1 ≡ net.header.groups → is_enabled net w Close ≡ true
  unfolding is_enabled
  close_enabled unclosed last = and_2 (not w.closed) (suc w.floor == net.header.groups) (ap not unclosed) (eq-eqb (suc w.floor) net.header.groups (omega (arith, last)))

  pub deliver_enabled : (place : ℕ) → place < length w.flight → is_enabled net w (Deliver place) ≡ true
  unfolding is_enabled
  deliver_enabled place there = lt-ltb place (length w.flight) there

  pub handle_enabled : (r : ℕ) → r < length net.header.routers → is_ready (part w r) ≡ true → is_enabled net w (Handle r) ≡ true
  unfolding is_enabled routers
  handle_enabled r inside ready = and_2 (nat_lt r (length net.header.routers)) (is_ready (part w r)) (lt-ltb r (length net.header.routers) inside) ready

  pub roll_back_enabled : (r : ℕ) → r < length net.header.routers → is_behind (part w r) ≡ true → is_enabled net w (RollBack r) ≡ true
  unfolding is_enabled routers
  roll_back_enabled r inside behind = and_2 (nat_lt r (length net.header.routers)) (is_behind (part w r)) (lt-ltb r (length net.header.routers) inside) behind

  pub commit_enabled : is_enabled net w Commit ≡ true
  unfolding is_enabled
  commit_enabled = refl

  -- ---- what the steps of a world are

  pub beacon_is : beacon w ≡ after net w Beacon
  unfolding after
  beacon_is = refl

  pub inject_is : (x : External) → inject w x ≡ after net w (Inject x)
  unfolding after
  inject_is x = refl

  pub close_is : record w { closed = true } ≡ after net w Close
  unfolding after
  close_is = refl

  pub deliver_is : (place : ℕ) → deliver w place (slice_get w.flight place) ≡ after net w (Deliver place)
  unfolding after
  deliver_is place = refl

  -- ---- the boundary

  deliver_boundary : (place : ℕ) (o : Option Packet) → (deliver w place o).boundary ≡ w.boundary
  unfolding deliver
  deliver_boundary place None = refl
  deliver_boundary place (Some k) = refl

  handle_boundary : (r : ℕ) (p : Part) (es : List Event) → (handle net w r p es).boundary ≡ w.boundary
  unfolding handle
  handle_boundary r p [] = refl
  handle_boundary r p (e ∷ es) = refl

  -- each other step leaves the boundary where it is
  abbrev pub LeavesBoundary : Step → Type 0
  LeavesBoundary s = (after net w s).boundary ≡ w.boundary

  pub beacon_leaves : LeavesBoundary Beacon
  unfolding after beacon
  beacon_leaves = refl

  pub inject_leaves : (x : External) → LeavesBoundary (Inject x)
  unfolding after inject
  inject_leaves x = refl

  pub close_leaves : LeavesBoundary Close
  unfolding after
  close_leaves = refl

  pub deliver_leaves : (place : ℕ) → LeavesBoundary (Deliver place)
  unfolding after
  deliver_leaves place = deliver_boundary place (slice_get w.flight place)

  pub handle_leaves : (r : ℕ) → LeavesBoundary (Handle r)
  unfolding after
  handle_leaves r = handle_boundary r (part w r) (part w r).todo

  pub roll_back_leaves : (r : ℕ) → LeavesBoundary (RollBack r)
  unfolding after roll_back
  roll_back_leaves r = refl
