-- What a worker has done when it answers.
use Rattle.std.specs.Prelude.{◌≡◌, ◌⊎◌, true, false, None, List}
use Rattle.dn_guest.specs.Meaning.{Meaning}
use Rattle.dn_model.specs.Cases.{Heading}
use Rattle.dn_model.specs.Network.{Network}
use Rattle.dn_model.specs.Settled.{IsPrefixOf}
use Rattle.dn_world.specs.declared.entry.Entry.{Entry}
use Rattle.dn_world.specs.declared.step.Step.{Step}
use Rattle.dn_world.specs.World.{World, is_quiet, horizon}
use Rattle.dn_world.specs.Runs.{IsLegal, world, is_cut_off}
use Rattle.dn_world.specs.Logs.{log_of, is_stopped, fed}
use Rattle.dn_fabric.specs.Fabrics.{IsNetworkOf}
use Rattle.dn_turn.specs.Seat.{SeatView, IsSameSeat}

-- the seat is the one from before and doesn't have the fabric; what it had seen begins what it has seen; and where it has the right to feed, it hasn't used it
pub record HasWorked {S : Type 0} (v w : SeatView S) : Type 0 where
  pub same : IsSameSeat v w
  pub free : w.held ≡ None
  pub seen : IsPrefixOf v.seen w.seen
  pub same_fed : v.feeds ≡ true → fed w.seen ≡ fed v.seen

-- nothing more is to be done in the world: it is closed and has more rows than a trace shows, or it is quiet and all of it is committed
abbrev pub IsAtEnd : {S : Type 0} → Network S → World → Type 0
IsAtEnd net w = ((w.closed ≡ true) × (is_cut_off net w ≡ true)) ⊎ ((is_quiet w ≡ true) × (w.boundary ≡ horizon net.header w))

-- the log isn't stopped, and in each network of this header and these opening guests its steps are a legal run that leads to such a world
pub record LeadsToEnd {S : Type 0} (meaning : Meaning S) (header : Heading) (openings : List S) (log : List Entry) : Type 0 where
  pub steps : List Step
  pub is : log ≡ log_of steps false
  pub legal : (net : Network S) → IsNetworkOf net meaning header openings → IsLegal net steps
  pub end : (net : Network S) → IsNetworkOf net meaning header openings → IsAtEnd net (world net steps)

-- what the seat has seen is stopped, or leads to the end
abbrev pub IsDone : {S : Type 0} → Meaning S → SeatView S → Type 0
IsDone meaning w = (is_stopped w.seen ≡ true) ⊎ LeadsToEnd meaning w.header w.opening w.seen
