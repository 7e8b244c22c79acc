-- A seat as contracts see it.
use Rattle.std.specs.Prelude.{◌≡◌, ℕ, ◌+◌, ◌-◌, Bool, true, false, not, ◌&&◌, ◌||◌, length, List, [], ◌∷◌, ◌++◌, Option, Some, None}
use Rattle.dn_model.specs.Settled.{IsPrefixOf}
use Rattle.atomic_table.specs.Table.{Me}
use Rattle.atomic_table.specs.Seated.{TableId}
use Rattle.dn_model.specs.Cases.{Heading}
use Rattle.dn_world.specs.declared.entry.Entry.{Entry}
use Rattle.dn_world.specs.Logs.{fed}
use Rattle.dn_turn.specs.declared.view.View.{View}
use Rattle.dn_turn.specs.Places.{new_places, taken_log, longer, all_places, ArePlaces}

pub record SeatView (O : Type 0) : Type 0 where
  pub turn : TableId
  pub header : Heading
  -- the states with which the guests began, by router
  pub opening : List O
  -- the log as the seat last put it, or knew it when it was split off or joined
  pub seen : List Entry
  -- the places of the seat's own entries in the log, rising
  pub mine : List ℕ
  -- the log with which the value was taken, if the seat has the value
  pub held : Option (List Entry)
  -- whether it has the right to feed
  pub feeds : Bool
  -- whether it is the first seat, and how many seats are split off it
  pub first : Bool
  pub out : ℕ

abbrev pub seat_view : {O : Type 0} → TableId → View O → SeatView O
seat_view z v = record { turn = z; header = v.header; opening = v.opening; seen = v.seen; mine = v.mine; held = v.held; feeds = v.feeds; first = v.first; out = v.out }

abbrev pub carried : {S : Type 0} → Option (List Entry) → List (ℕ × Option S)
carried None = []
carried (Some t) = (0, None) ∷ []

-- the places are a rising list below the length of what was seen, and what was seen begins the log that was taken
pub record IsSound (seen : List Entry) (mine : List ℕ) (held : Option (List Entry)) : Type 0 where
  pub places : ArePlaces 0 (length seen) mine
  pub grown : (t : List Entry) → held ≡ Some t → IsPrefixOf seen t

-- between two calls a seat is live, has looked since the last join, and has the empty slot where it holds the value
abbrev pub IsSeated : {S O : Type 0} → Me (Option S) (View O) → Type 0
IsSeated m = (m.0.live ≡ true) × (m.0.ended ≡ []) × (m.0.ended_fed ≡ false) × (m.1 ≡ carried m.0.held) × IsSound m.0.seen m.0.mine m.0.held

module _ {O : Type 0} where
  -- the seat that comes with a new turn
  abbrev pub first_seat : TableId → Heading → List O → List Entry → SeatView O
  first_seat z head guests log = record { turn = z; header = head; opening = guests; seen = log; mine = []; held = None; feeds = true; first = true; out = 0 }

  -- the seat has taken the value, whose log this is
  abbrev pub holding : List Entry → SeatView O → SeatView O
  holding l v = record v { held = Some l }

  -- the seat has put the value back with this log
  abbrev pub released_seat : List Entry → SeatView O → SeatView O
  released_seat l v = record v { seen = l; held = None; mine = v.mine ++ new_places (taken_log v.held) l }

  -- the seat holds the value, and one with this header and this log may be put back
  pub record MayPut (v : SeatView O) (head : Heading) (guests : List O) (log : List Entry) : Type 0 where
    pub taken : List Entry
    pub holds : v.held ≡ Some taken
    pub same_header : head ≡ v.header
    pub same_opening : guests ≡ v.opening
    pub grown : IsPrefixOf taken log
    pub same_fed : v.feeds ≡ false → fed log ≡ fed taken

  -- the first seat and the new one after a split, which hands over the right to feed or doesn't
  abbrev pub left_seat : Bool → SeatView O → SeatView O
  left_seat over v = record v { feeds = v.feeds && not over; out = v.out + 1 }

  abbrev pub right_seat : Bool → SeatView O → SeatView O
  right_seat over v = record v { mine = []; feeds = over; first = false; out = 0 }

  -- the first seat after a join
  abbrev pub joined_seat : SeatView O → SeatView O → SeatView O
  joined_seat v w = record v { seen = longer v.seen w.seen; mine = all_places v.mine w.mine; feeds = v.feeds || w.feeds; out = v.out - 1 }

  -- what a use of the turn leaves as it was
  pub record IsSameSeat (v w : SeatView O) : Type 0 where
    pub turn : w.turn ≡ v.turn
    pub header : w.header ≡ v.header
    pub opening : w.opening ≡ v.opening
    pub feeds : w.feeds ≡ v.feeds
    pub first : w.first ≡ v.first
    pub out : w.out ≡ v.out
