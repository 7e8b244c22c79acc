-- One hold of the turn: the seat with the fabric that it has taken, and what a worker or a feeder makes of the fabric.
use Rattle.std.specs.Prelude.{◌≡◌, ◌⊎◌, true, Some, None}
use Rattle.dn_model.specs.Settled.{IsPrefixOf}
use Rattle.dn_world.specs.World.{is_quiet, horizon}
use Rattle.dn_world.specs.Logs.{fed}
use Rattle.dn_fabric.specs.Fabrics.{Fabric, log_in}
use Rattle.dn_turn.specs.Seat.{SeatView, IsSameSeat}

module _ {S : Type 0} where
  -- the seat has taken the fabric: it is of the seat's network, and has all that the seat has seen
  pub record HasTaken (v : SeatView S) (f : Fabric S) : Type 0 where
    pub held : v.held ≡ Some (log_in f)
    pub header : f.live.header ≡ v.header
    pub opening : f.live.openings ≡ v.opening
    pub seen : IsPrefixOf v.seen (log_in f)
    pub same_fed : v.feeds ≡ true → fed (log_in f) ≡ fed v.seen

  -- the seat is the one from before and doesn't have the fabric; and what it had seen begins what it has seen
  pub record HasPutBack (v w : SeatView S) : Type 0 where
    pub same : IsSameSeat v w
    pub free : w.held ≡ None
    pub seen : IsPrefixOf v.seen w.seen

  -- what was done stands behind the log, and the network is the one from before
  pub record HasGrown (before now : Fabric S) : Type 0 where
    pub header : now.live.header ≡ before.live.header
    pub openings : now.live.openings ≡ before.live.openings
    pub grown : IsPrefixOf (log_in before) (log_in now)

  -- what was done stands behind the log, nothing of it feeds the case, and the network is the one from before
  pub record HasGoneOn (before now : Fabric S) : Type 0 where
    pub header : now.live.header ≡ before.live.header
    pub openings : now.live.openings ≡ before.live.openings
    pub grown : IsPrefixOf (log_in before) (log_in now)
    pub same_fed : fed (log_in now) ≡ fed (log_in before)

  -- the fabric is closed and cut, or quiet with its boundary at the horizon
  abbrev pub IsOver : Fabric S → Type 0
  IsOver f = ((f.live.world.closed ≡ true) × (f.live.cut ≡ true)) ⊎ ((is_quiet f.live.world ≡ true) × (f.live.world.boundary ≡ horizon f.live.header f.live.world))
