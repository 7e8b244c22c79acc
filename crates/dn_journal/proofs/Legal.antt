-- The steps of a legal run are steps that a journal of the header may have.
use Rattle.std.proofs.Common.{◌≡◌, ℕ, suc, ◌<◌, ◌≤◌, true, not, ◌&&◌, Option, Some, None, List, [], ◌∷◌, nat_lt, refl, arith}
use Rattle.std.specs.Prelude.{◌==◌, slice_get}
use Rattle.std.specs.List.{AllByRecursion}
use Rattle.std.proofs.lemmas.Bool.{and_parts, eqb-true, ltb-true}
use Rattle.dn_model.specs.Network.{Network, routers}
use Rattle.dn_model.specs.declared.event.Event.{Event}
use Rattle.dn_world.specs.declared.packet.Packet.{Packet}
use Rattle.dn_world.specs.declared.step.Step.{Step}
use Rattle.dn_world.specs.declared.step.Step.TheVariants.{Beacon, Inject, Close, Deliver, Handle, RollBack, Commit}
use Rattle.dn_world.specs.World.{World, Part, part, is_behind, is_ready, opening}
use Rattle.dn_world.specs.Steps.{is_enabled, is_injectable, after, beacon, inject, deliver, handle, roll_back}
use Rattle.dn_world.specs.Runs.{IsLegal, IsLegalFrom}
use Rattle.dn_journal.specs.Spelling.{IsOf}

module _ {S : Type 0} (net : Network S) where
  deliver_floor : (w : World) (place : ℕ) (k : Option Packet) → (deliver w place k).floor ≡ w.floor
  unfolding deliver
  deliver_floor w place None = refl
  deliver_floor w place (Some k) = refl

  handle_floor : (w : World) (r : ℕ) (p : Part) (es : List Event) → (handle net w r p es).floor ≡ w.floor
  unfolding handle
  handle_floor w r p [] = refl
  handle_floor w r p (e ∷ es) = refl

  group_left : (w : World) → is_enabled net w Beacon ≡ true → suc w.floor < net.header.groups
  unfolding is_enabled
  group_left w on = ltb-true (suc w.floor) net.header.groups (and_parts (not w.closed) (nat_lt (suc w.floor) net.header.groups) on).1

  -- the floor stays below the number of groups
  floor_below : (w : World) (s : Step) → w.floor < net.header.groups → is_enabled net w s ≡ true → (after net w s).floor < net.header.groups
  unfolding after beacon inject roll_back
  floor_below w Beacon low on = group_left w on
  floor_below w (Inject x) low on = low
  floor_below w Close low on = low
  floor_below w (Deliver place) low on = rw (deliver_floor w place (slice_get w.flight place)) low
  floor_below w (Handle r) low on = rw (handle_floor w r (part w r) (part w r).todo) low
  floor_below w (RollBack r) low on = low
  floor_below w Commit low on = low

  step_of : (w : World) (s : Step) → w.floor < net.header.groups → is_enabled net w s ≡ true → IsOf net.header s
  unfolding is_enabled routers
  step_of w Beacon low on = tt
  step_of w (Inject x) low on =
      let a = and_parts (not w.closed && (x.group == w.floor) && nat_lt x.router (routers net)) (is_injectable net.header x.router x.input) on in
      let b = and_parts (not w.closed && (x.group == w.floor)) (nat_lt x.router (routers net)) a.0 in
      let now : x.group ≡ w.floor = eqb-true x.group w.floor (and_parts (not w.closed) (x.group == w.floor) b.0).1 in
      (omega (arith, low, now), ltb-true x.router (routers net) b.1, a.1)
  step_of w Close low on = tt
  step_of w (Deliver place) low on = tt
  step_of w (Handle r) low on = ltb-true r (routers net) (and_parts (nat_lt r (routers net)) (is_ready (part w r)) on).0
  step_of w (RollBack r) low on = ltb-true r (routers net) (and_parts (nat_lt r (routers net)) (is_behind (part w r)) on).0
  step_of w Commit low on = tt

  steps_of : (w : World) (ss : List Step) → w.floor < net.header.groups → IsLegalFrom net w ss → AllByRecursion (IsOf net.header) ss
  unfolding IsLegalFrom
  steps_of w [] low legal = tt
  steps_of w (s ∷ ss) low legal = (step_of w s low legal.0, steps_of (after net w s) ss (floor_below w s low legal.0) legal.1)

  pub legal_steps : (ss : List Step) → 1 ≤ net.header.groups → IsLegal net ss → AllByRecursion (IsOf net.header) ss
  unfolding opening
  legal_steps ss some legal = steps_of (opening (routers net)) ss (omega (arith, some)) legal
