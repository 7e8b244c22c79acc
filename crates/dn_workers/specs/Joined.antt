-- The seats of a run on threads: split off the first one, used by workers and by the feeder, and joined into it again.
use Rattle.std.specs.Prelude.{◌≡◌, ◌⊎◌, ◌<◌, ◌+◌, ℕ, Bool, true, false, None, List, length, get_or}
use Rattle.dn_guest.specs.Meaning.{Meaning}
use Rattle.dn_model.specs.declared.feed.External.{External}
use Rattle.dn_model.specs.Settled.{IsPrefixOf}
use Rattle.dn_world.specs.Logs.{fed, is_stopped}
use Rattle.dn_fabric.specs.Fabrics.{Fabric, log_in}
use Rattle.dn_turn.specs.Seat.{SeatView, IsSameSeat, right_seat}
use Rattle.dn_workers.specs.Feed.{IsFedWith, EndsWithClose}
use Rattle.dn_workers.specs.Work.{HasWorked, IsDone}

module _ {S : Type 0} where
  -- a seat of the first one's turn that doesn't have the fabric and has no right to feed
  abbrev pub IsWorkers : SeatView S → SeatView S → Type 0
  IsWorkers first v = (v.turn ≡ first.turn) × (v.held ≡ None) × (v.feeds ≡ false)

  -- so many seats were split off, and the rest of the first one is as it was
  abbrev pub HasSplit : ℕ → SeatView S → SeatView S → Type 0
  HasSplit n v w = w ≡ record v { out = v.out + n }

  -- so many seats are new ones that this seat has split off, without the right to feed
  abbrev pub AreNew : ℕ → SeatView S → List (SeatView S) → Type 0
  AreNew n first seats = (i : ℕ) (d : SeatView S) → i < n → get_or seats i d ≡ right_seat false first

  -- a worker has answered: all is done, or the fabric was stopped
  abbrev pub HasAnswered : Meaning S → SeatView S → SeatView S → Type 0
  HasAnswered meaning v w = HasWorked v w × IsDone meaning w

  abbrev pub HaveAnswered : Meaning S → List (SeatView S) → List (SeatView S) → Type 0
  HaveAnswered meaning vs ws = (i : ℕ) (d : SeatView S) → i < length vs → HasAnswered meaning (get_or vs i d) (get_or ws i d)

  -- the feeder has answered: it has given these externals, and has closed, or the fabric was stopped
  pub record HasFedAll (given : List External) (closed : Bool) (v w : SeatView S) : Type 0 where
    pub same : IsSameSeat v w
    pub free : w.held ≡ None
    pub seen : IsPrefixOf v.seen w.seen
    pub fed : IsFedWith given closed w.seen
    pub ended : (is_stopped w.seen ≡ true) ⊎ ((closed ≡ true) × EndsWithClose w.seen)

  -- seats without the right to feed were joined into the first one, and so many are left
  pub record HasGathered (left : ℕ) (v w : SeatView S) : Type 0 where
    pub turn : w.turn ≡ v.turn
    pub header : w.header ≡ v.header
    pub opening : w.opening ≡ v.opening
    pub free : w.held ≡ None
    pub first : w.first ≡ true
    pub feeds : w.feeds ≡ true
    pub out : w.out ≡ left
    pub seen : IsPrefixOf v.seen w.seen
    pub same_fed : fed w.seen ≡ fed v.seen

  -- the fabric is of the seat's network and isn't stopped, and its log has all that the seat has seen
  pub record HasAllOf (v : SeatView S) (f : Fabric S) : Type 0 where
    pub header : f.live.header ≡ v.header
    pub opening : f.live.openings ≡ v.opening
    pub running : f.live.stopped ≡ false
    pub seen : IsPrefixOf v.seen (log_in f)
