-- What there is to do in a world.
use Rattle.std.specs.Prelude.{◌≡◌, ℕ, suc, ◌<◌, Bool, true, false, not, ◌&&◌, if◌then◌else◌, Option, Some, None, List, [], ◌∷◌, get_or, length, slice_get}
use Rattle.std.specs.Borrow.{Bor}
use Rattle.std.specs.Ordering.{is_lt, is_gt}
use Rattle.dn_model.specs.declared.event.Event.{Event}
use Rattle.dn_model.specs.Cases.{Heading}
use Rattle.dn_model.specs.Order.{key_cmp, event_cmp}
use Rattle.dn_world.specs.declared.packet.Packet.{Packet}
use Rattle.dn_world.specs.World.{Part, World, part, is_behind, is_ready, is_quiet, horizon}
use Rattle.dn_fabric.specs.declared.work.Work.{Work}
use Rattle.dn_fabric.specs.declared.work.Work.TheVariants as work
use Rattle.dn_fabric.specs.Fabrics.{Fabric}

-- the first router from r on that is behind
unfoldable pub first_behind : ℕ → List Part → Option ℕ
first_behind r [] = None
first_behind r (p ∷ ps) = if is_behind p then Some r else first_behind (suc r) ps

-- a number with what the reference beside it refers to
abbrev pub seen : Option (ℕ × Bor Event) → Option (ℕ × Event)
seen None = None
seen (Some found) = Some (found.0, found.1.now)

-- the event is less than the one found so far, if any
abbrev pub is_earlier : Event → Option (ℕ × Event) → Bool
is_earlier e None = true
is_earlier e (Some found) = is_lt (event_cmp e found.1)

-- this router with the first of its todo list, where that is earlier than what was found
abbrev pub earlier_of : ℕ → List Event → Option (ℕ × Event) → Option (ℕ × Event)
earlier_of r [] found = found
earlier_of r (e ∷ es) found = if is_earlier e found then Some (r, e) else found

-- of the routers from r on that are ready and not leased, the one whose first event to handle is the least of all, with this event
unfoldable pub least_ready : ℕ → List Part → List Bool → Option (ℕ × Event) → Option (ℕ × Event)
least_ready r [] leased found = found
least_ready r (p ∷ ps) leased found =
    least_ready (suc r) ps leased (if is_ready p && not (get_or leased r false) then earlier_of r p.todo found else found)

-- the horizon is above the boundary
unfoldable pub can_commit : Heading → World → Bool
can_commit h w = is_gt (key_cmp (horizon h w) w.boundary)

module _ {S : Type 0} (f : Fabric S) where
  unfoldable pub committing : Work
  committing = if can_commit f.live.header f.live.world then work.Commit else (if is_quiet f.live.world then work.Ended else work.Nothing)

  abbrev pub handling : Option (ℕ × Event) → Work
  handling None = committing
  handling (Some found) = work.Handle found.0

  abbrev pub rolling_back : Option ℕ → Work
  rolling_back None = handling (least_ready 0 f.live.world.parts f.leased None)
  rolling_back (Some r) = work.RollBack r

  abbrev pub delivering : List Packet → Work
  delivering [] = rolling_back (first_behind 0 f.live.world.parts)
  delivering (k ∷ ks) = work.Deliver 0

  -- the first that there is: a packet to deliver, a router to roll back, a router to let handle its least event, rows to commit; otherwise Ended in a quiet world, and Nothing in another
  unfoldable pub next_work : Work
  next_work = delivering f.live.world.flight

-- ---- the conditions of each answer

module _ {S : Type 0} (f : Fabric S) where
  -- the router isn't behind, has an event to handle, and isn't leased
  pub record IsFree (r : ℕ) : Type 0 where
    pub inside : r < length f.live.header.routers
    pub ready : is_ready (part f.live.world r) ≡ true
    pub unleased : get_or f.leased r false ≡ false

  -- the least event of r is no later than that of s, and earlier where s is the lesser number
  abbrev pub IsNotLater : ℕ → ℕ → Type 0
  IsNotLater r s =
      (e x : Event) → slice_get (part f.live.world r).todo 0 ≡ Some e → slice_get (part f.live.world s).todo 0 ≡ Some x → (is_gt (event_cmp e x) ≡ false) × (s < r → is_lt (event_cmp e x) ≡ true)

  -- no packet flies, and r is the first router that is behind
  pub record IsFirstBehind (r : ℕ) : Type 0 where
    pub flight : f.live.world.flight ≡ []
    pub inside : r < length f.live.header.routers
    pub behind : is_behind (part f.live.world r) ≡ true
    pub first : (s : ℕ) → s < r → is_behind (part f.live.world s) ≡ false

  -- no packet flies, and no router is behind
  pub record IsStill : Type 0 where
    pub flight : f.live.world.flight ≡ []
    pub behind : (r : ℕ) → r < length f.live.header.routers → is_behind (part f.live.world r) ≡ false

  -- and r is the free router whose least event is the least of all
  pub record IsFirstFree (r : ℕ) : Type 0 where
    pub still : IsStill
    pub free : IsFree r
    pub first : (s : ℕ) → IsFree s → IsNotLater r s

  -- no packet flies, no router is behind, and none is free
  pub record IsIdle : Type 0 where
    pub still : IsStill
    pub none : (r : ℕ) → IsFree r → ⊥

  -- and the horizon isn't above the boundary: it stands there, while the fabric isn't stopped
  pub record IsCommitted : Type 0 where
    pub idle : IsIdle
    pub below : can_commit f.live.header f.live.world ≡ false
    pub at : f.live.stopped ≡ false → f.live.world.boundary ≡ horizon f.live.header f.live.world

  -- the answer's condition
  abbrev pub HasWork : Work → Type 0
  HasWork (work.Deliver n) = (n ≡ 0) × (0 < length f.live.world.flight)
  HasWork (work.RollBack r) = IsFirstBehind r
  HasWork (work.Handle r) = IsFirstFree r
  HasWork work.Commit = IsIdle × (can_commit f.live.header f.live.world ≡ true)
  HasWork work.Ended = IsCommitted × (is_quiet f.live.world ≡ true)
  HasWork work.Nothing = IsCommitted × (is_quiet f.live.world ≡ false)
