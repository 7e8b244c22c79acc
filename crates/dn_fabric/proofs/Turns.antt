-- A router's own steps are those of the network's world.
use Rattle.std.proofs.Common.{◌≡◌, ℕ, zero, suc, ◌<◌, Bool, true, false, not, List, [], ◌∷◌, ◌++◌, length, get_or, set, map, refl, sym, ap, ◌∙◌, subst}
use Rattle.std.specs.List.{AllByRecursion}
use Rattle.std.proofs.lemmas.Bool.{and_parts, not-true}
use Rattle.dn_guest.specs.Meaning.{Meaning}
use Rattle.dn_guest.specs.declared.node.Node.{Node}
use Rattle.dn_model.specs.declared.event.Event.{Event}
use Rattle.dn_model.specs.declared.feed.External.{External}
use Rattle.dn_model.specs.declared.key.Key.{Key}
use Rattle.dn_model.specs.Cases.{Heading, timing_of}
use Rattle.dn_model.specs.Links.{ends}
use Rattle.dn_model.specs.Network.{Network, opening_node, sent_from, state}
use Rattle.dn_router.specs.Orders.{Task}
use Rattle.dn_router.specs.Replays.{node_over, emitted_at, emitted_over}
use Rattle.dn_router.specs.Routers.{Speculation, IsCurrent, handled_first, handled, rolled_back, emits_first, emits_next, unsent}
use Rattle.dn_world.specs.declared.packet.Packet.{Packet}
use Rattle.dn_world.specs.declared.step.Step.TheVariants.{Handle, RollBack}
use Rattle.dn_world.specs.World.{Part, World, part, is_empty, is_ready, is_behind}
use Rattle.dn_world.specs.Steps.{after, emits, handle, kept, roll_back, signed, taken_off}
use Rattle.dn_fabric.specs.Fabrics.{Live, IsNetworkOf, router_of}
use Rattle.dn_fabric.specs.Holds.{IsWhole}
use Rattle.dn_fabric.proofs.Whole.{router_is, guests_set, parts_set}

has_todo : (p : Part) → is_ready p ≡ true → is_empty p.todo ≡ false
unfolding is_ready
has_todo p h = not-true (is_empty p.todo) (and_parts (not (is_behind p)) (not (is_empty p.todo)) h).1

-- a router's nodes and sendings are its network's
pub record Handles {S : Type 0} (net : Network S) (r : ℕ) : Type 0 where
  pub node : (history : List Event) → node_over net.guests (opening_node net r) history ≡ state net r history
  pub emits : (history : List Event) (e : Event) → e.router ≡ r → emitted_at net.guests (timing_of net.header) (ends net.header.links r) (state net r history) e ≡ emits net r history e

-- and so are those of what it takes off, which is its own
pub record RollsBack {S : Type 0} (net : Network S) (r : ℕ) : Type 0 where
  pub node : (history : List Event) → node_over net.guests (opening_node net r) history ≡ state net r history
  pub sent : (node : Node S) (history : List Event) → AllByRecursion (λ e. e.router ≡ r) history → emitted_over net.guests (timing_of net.header) (ends net.header.links r) node history ≡ sent_from net node history
  pub own : (p : Part) → AllByRecursion (λ e. e.router ≡ r) p.done → AllByRecursion (λ e. e.router ≡ r) (taken_off net p)

module _ {S : Type 0} (net : Network S) (w : World) (i : ℕ) where
  -- ---- the world's step, by what the network's router emits

  handle_is : Handles net i → (es events : List Event) → is_empty es ≡ false → AllByRecursion (λ e. e.router ≡ i) es → events ≡ emits_first net.guests (router_of net w i) es → handle net w i (part w i) es ≡ record w { parts = set w.parts i (handled_first (part w i) es); flight = w.flight ++ signed true events }
  unfolding handle
  handle_is tied [] events n own h = absurd (cc)
  handle_is tied (e ∷ es) events n own h =
      let p = part w i in
      let sent : events ≡ emits net i p.done e = h ∙ ap (λ node. emitted_at net.guests (timing_of net.header) (ends net.header.links i) node e) (tied.node p.done) ∙ tied.emits p.done e own.0 in
      λ j. record w { parts = set w.parts i (record p { done = p.done ++ e ∷ []; todo = es }); flight = w.flight ++ signed true (sym sent j) }

  after_handle : Handles net i → (events : List Event) → is_ready (part w i) ≡ true → AllByRecursion (λ e. e.router ≡ i) (part w i).todo → events ≡ emits_next net.guests (router_of net w i) → after net w (Handle i) ≡ record w { parts = set w.parts i (handled (part w i)); flight = w.flight ++ signed true events }
  unfolding after
  after_handle tied events ready own h = handle_is tied (part w i).todo events (has_todo (part w i) ready) own h

  after_roll_back : RollsBack net i → (events : List Event) → AllByRecursion (λ e. e.router ≡ i) (part w i).done → events ≡ unsent net.guests (router_of net w i) → after net w (RollBack i) ≡ record w { parts = set w.parts i (rolled_back (part w i)); flight = w.flight ++ signed false events }
  unfolding after roll_back
  after_roll_back tied events own h =
      let p = part w i in
      let off = taken_off net p in
      let sent : events ≡ sent_from net (state net i (kept net p)) off = h
      ∙ ap (λ node. emitted_over net.guests (timing_of net.header) (ends net.header.links i) node off) (tied.node (kept net p))
      ∙ tied.sent (state net i (kept net p)) off (tied.own p own) in
      λ j. record w { parts = set w.parts i (rolled_back p); flight = w.flight ++ signed false (sym sent j) }

set_back : {X : Type 0} (xs : List X) (i : ℕ) (x : X) → x ≡ get_or xs i x → set xs i x ≡ xs
set_back [] i x h = refl
set_back (y ∷ ys) zero x h = ap (λ z. z ∷ ys) h
set_back (y ∷ ys) (suc i) x h = ap (λ l. y ∷ l) (set_back ys i x h)

-- ---- a world as a call sees it

abbrev pub world_of : {S : Type 0} → List (Speculation S) → List Packet → ℕ → Bool → List External → Key → World
world_of rs flight floor closed accepted b =
    record { parts = map (λ r. r.part) rs; flight = flight; floor = floor; closed = closed; accepted = accepted; boundary = b }

abbrev pub live_of : {S : Type 0} → Heading → List (Speculation S) → World → List Event → Bool → Bool → Live S
live_of h rs w rows cut s = record { header = h; openings = map (λ r. r.opening.guest) rs; world = w; rows = rows; cut = cut; stopped = s }

module _ {S : Type 0} (net : Network S) (m : Meaning S) (h : Heading) (rs : List (Speculation S)) (flight : List Packet) (floor : ℕ) (closed : Bool) (accepted : List External) (b : Key) (rows : List Event) (cut t : Bool) (whole : IsWhole h rs b rows cut t) (of : IsNetworkOf net m h (map (λ r. r.opening.guest) rs)) (i : ℕ) (inside : i < length rs) (s : Speculation S) (is : s ≡ get_or rs i s) where
  abbrev here : World
  here = world_of rs flight floor closed accepted b

  same : s ≡ record (router_of net here i) { committed = s.committed; bound = s.bound }
  same = router_is net m h rs b rows cut t here i s whole of refl inside is

  own_number : s.number ≡ i
  own_number = ap (λ x. x.number) same

  part_same : s.part ≡ part here i
  part_same = ap (λ x. x.part) same

  to_ordered : (task : Task S) → IsCurrent m s task → IsCurrent net.guests (router_of net here i) task
  to_ordered task c = subst (λ g. IsCurrent g (router_of net here i) task) (sym of.guests) (subst (λ x. IsCurrent m x task) same c)

  from_ordered : (task : Task S) → IsCurrent net.guests (router_of net here i) task → IsCurrent m s task
  from_ordered task c = subst (λ x. IsCurrent m x task) (sym same) (subst (λ g. IsCurrent g (router_of net here i) task) of.guests c)

  -- what a changed router and a longer flight make of it
  step_is : (new : Speculation S) (p : Part) (plus : Bool) (events : List Event) (next : World) (sent : List Packet) (u : Bool) → new ≡ record s { part = p } → next ≡ record here { parts = set here.parts i p; flight = flight ++ signed plus events } → sent ≡ flight ++ signed plus events → u ≡ t → live_of h (set rs i new) (world_of (set rs i new) sent floor closed accepted b) rows cut u ≡ record (live_of h rs here rows cut t) { world = next }
  step_is new p plus events next sent u is_new is_next is_sent is_u =
      let ps : map (λ r. r.part) (set rs i new) ≡ set here.parts i p = parts_set rs i new ∙ ap (λ x. set here.parts i x.part) is_new in
      let gs = guests_set rs i s new is (record { part = p; is = is_new }) in
      (λ j. record { header = h; openings = gs j; world = record { parts = ps j; flight = is_sent j; floor = floor; closed = closed; accepted = accepted; boundary = b }; rows = rows; cut = cut; stopped = is_u j })
      ∙ ap (λ x. record (live_of h rs here rows cut t) { world = x }) (sym is_next)

  pub handled_is : Handles net i → (task : Task S) (events : List Event) (new : Speculation S) (sent : List Packet) (u : Bool) → IsCurrent m s task → new ≡ record s { part = handled s.part } → events ≡ emits_next m s → AllByRecursion (λ e. e.router ≡ s.number) s.part.todo → sent ≡ flight ++ signed true events → u ≡ t → IsCurrent net.guests (router_of net here i) task × (live_of h (set rs i new) (world_of (set rs i new) sent floor closed accepted b) rows cut u ≡ record (live_of h rs here rows cut t) { world = after net here (Handle i) })
  handled_is tied task events new sent u c is_new is_events own is_sent is_u =
      let ordered = to_ordered task c in
      let ready : is_ready (part here i) ≡ true = ordered.0 in
      let todo : AllByRecursion (λ e. e.router ≡ i) (part here i).todo = subst (λ (p : Part). AllByRecursion (λ e. e.router ≡ i) p.todo) part_same (subst (λ (n : ℕ). AllByRecursion (λ e. e.router ≡ n) s.part.todo) own_number own) in
      let emitted : events ≡ emits_next net.guests (router_of net here i) = is_events ∙ ap (λ x. emits_next m x) same ∙ ap (λ g. emits_next g (router_of net here i)) (sym of.guests) in
      let next = after_handle net here i tied events ready todo emitted in
      let moved : handled s.part ≡ handled (part here i) = ap handled part_same in (
        ordered,
        step_is new (handled (part here i)) true events (after net here (Handle i)) sent u (is_new ∙ ap (λ p. record s { part = p }) moved) next is_sent is_u,
      )

  pub stale_is : (task : Task S) (new : Speculation S) (u : Bool) → (IsCurrent m s task → ⊥) → new ≡ s → u ≡ t → (IsCurrent net.guests (router_of net here i) task → ⊥) × (live_of h (set rs i new) (world_of (set rs i new) flight floor closed accepted b) rows cut u ≡ live_of h rs here rows cut t)
  stale_is task new u old is_new is_u = (
    λ c. old (from_ordered task c),
    ap (λ l. live_of h l (world_of l flight floor closed accepted b) rows cut u) (ap (set rs i) is_new ∙ set_back rs i s is)
        ∙ ap (λ z. live_of h rs here rows cut z) is_u,
  )

  pub rolled_is : RollsBack net i → (events : List Event) (new : Speculation S) (sent : List Packet) (u : Bool) → new ≡ record s { part = rolled_back s.part } → events ≡ unsent m s → AllByRecursion (λ e. e.router ≡ s.number) s.part.done → sent ≡ flight ++ signed false events → u ≡ t → live_of h (set rs i new) (world_of (set rs i new) sent floor closed accepted b) rows cut u ≡ record (live_of h rs here rows cut t) { world = after net here (RollBack i) }
  rolled_is tied events new sent u is_new is_events own is_sent is_u =
      let done : AllByRecursion (λ e. e.router ≡ i) (part here i).done = subst (λ (p : Part). AllByRecursion (λ e. e.router ≡ i) p.done) part_same (subst (λ (n : ℕ). AllByRecursion (λ e. e.router ≡ n) s.part.done) own_number own) in
      let gone : events ≡ unsent net.guests (router_of net here i) = is_events ∙ ap (λ x. unsent m x) same ∙ ap (λ g. unsent g (router_of net here i)) (sym of.guests) in
      let next = after_roll_back net here i tied events done gone in
      let moved : rolled_back s.part ≡ rolled_back (part here i) = ap rolled_back part_same in
      step_is new (rolled_back (part here i)) false events (after net here (RollBack i)) sent u (is_new ∙ ap (λ p. record s { part = p }) moved) next is_sent is_u
