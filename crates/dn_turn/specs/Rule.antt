-- The rule of the turn, and what each step tells.
use Rattle.std.specs.Prelude.{◌≡◌, ◌≢◌, ◌⊎◌, ℕ, ◌+◌, ◌-◌, Bool, true, false, cond, not, ◌&&◌, ◌||◌, List, [], ◌∷◌, ◌++◌, length, slice_index, Option, Some, None}
use mathlib.Core.Option as core
use Rattle.dn_model.specs.Settled.{IsPrefixOf}
use lib.ListN.{get_elem?}
use Rattle.atomic_table.specs.Table.{State, Me, Step}
use Rattle.dn_model.specs.Cases.{Heading}
use Rattle.dn_world.specs.declared.entry.Entry.{Entry}
use Rattle.dn_world.specs.Logs.{fed}
use Rattle.dn_turn.specs.declared.view.View.{View}
use Rattle.dn_turn.specs.Places.{new_places, taken_log, longer, all_places}

abbrev pub first_view : {O : Type 0} → Heading → List O → List Entry → View O
first_view head opening log = record { live = true; header = head; opening = opening; seen = log; mine = []; held = None; feeds = true; first = true; out = 0; ended = []; ended_fed = false }

-- the view whose `fed` list is the turn's, where this view feeds
abbrev pub feeding : {O : Type 0} → View O → List Entry
feeding v = cond v.ended_fed v.ended v.seen

-- what the rule says of the live view v at the place j
pub record Fits {O : Type 0} (head : Heading) (guests : List O) (log : List Entry) (word holder first_at feeder_at : ℕ) (j : ℕ) (v : View O) : Type 0 where
  pub header : v.header ≡ head
  pub opening : v.opening ≡ guests
  pub seen : IsPrefixOf v.seen log
  pub ended : IsPrefixOf v.ended log
  pub holds : (t : List Entry) → v.held ≡ Some t → (word ≡ 1) × (j ≡ holder) × (t ≡ log)
  pub feeds : v.feeds ≡ true → (j ≡ feeder_at) × (fed log ≡ fed (feeding v))
  pub first : v.first ≡ true → j ≡ first_at

abbrev pub one_if : Bool → ℕ
one_if true = 1
one_if false = 0

abbrev pub live_count : {O : Type 0} → List (View O) → ℕ
live_count [] = 0
live_count (v ∷ vs) = one_if v.live + live_count vs

-- the first seat is live, and knows how many others are
pub record HasFirst {O : Type 0} (views : List (View O)) (at : ℕ) : Type 0 where
  pub view : View O
  pub there : get_elem? views at ≡ core.some view
  pub live : view.live ≡ true
  pub first : view.first ≡ true
  pub count : live_count views ≡ view.out + 1

pub record HasFeeder {O : Type 0} (views : List (View O)) (at : ℕ) : Type 0 where
  pub view : View O
  pub there : get_elem? views at ≡ core.some view
  pub live : view.live ≡ true
  pub feeds : view.feeds ≡ true

pub record HasHolder {O : Type 0} (views : List (View O)) (at : ℕ) (log : List Entry) : Type 0 where
  pub view : View O
  pub there : get_elem? views at ≡ core.some view
  pub live : view.live ≡ true
  pub holds : view.held ≡ Some log

module _ {S O : Type 0} (header : S → Heading) (opening : S → List O) (log : S → List Entry) where
  -- the slot is at home and has a value of this header and this log
  pub record IsHome (head : Heading) (guests : List O) (entries : List Entry) (homes : List (core.Option (Option S))) : Type 0 where
    pub value : S
    pub there : homes ≡ core.some (Some value) ∷ []
    pub same_header : header value ≡ head
    pub same_opening : opening value ≡ guests
    pub same_log : log value ≡ entries

  pub record Turned (s : State (Option S) (View O)) : Type 0 where
    pub head : Heading
    pub guests : List O
    pub entries : List Entry
    pub holder : ℕ
    pub first_at : ℕ
    pub feeder_at : ℕ
    pub wide : length s.words ≡ 1
    pub word : (slice_index s.words 0 ≡ 0) ⊎ (slice_index s.words 0 ≡ 1)
    pub free : slice_index s.words 0 ≡ 0 → IsHome head guests entries s.homes
    pub out : slice_index s.words 0 ≡ 1 → (s.homes ≡ core.none ∷ []) × HasHolder s.views holder entries
    pub each : (j : ℕ) (v : View O) → get_elem? s.views j ≡ core.some v → v.live ≡ true → Fits head guests entries (slice_index s.words 0) holder first_at feeder_at j v
    pub has_first : HasFirst s.views first_at
    pub has_feeder : HasFeeder s.views feeder_at

  abbrev pub took : List Entry → View O → View O
  took l v = record v { held = Some l }

  -- a try: at 0 the value was taken, else the word read 1, and some other seat is live
  abbrev pub Tried : Step (Option S) → Me (Option S) (View O) → ℕ → Me (Option S) (View O) → Type 0
  Tried st m r m' =
      (r ≡ 0 → (x : S) × (m' ≡ (took (log x) m.0, (0, Some x) ∷ [])) × (header x ≡ m.0.header) × (opening x ≡ m.0.opening) × IsPrefixOf m.0.seen (log x) × (m.0.feeds ≡ true → fed (log x) ≡ fed (feeding m.0)))
      × (r ≢ 0 → (r ≡ 1) × (m' ≡ m) × (m.0.first ≡ true → m.0.out ≡ 0 → ⊥))

-- the view after the log l was put
abbrev pub put_view : {O : Type 0} → List Entry → View O → View O
put_view l v = record v { seen = l; held = None; mine = v.mine ++ new_places (taken_log v.held) l }

module _ {S O : Type 0} (log : S → List Entry) where
  abbrev pub Released : Step (Option S) → Me (Option S) (View O) → ℕ → Me (Option S) (View O) → Type 0
  Released st m r m' = (x : S) → m.1 ≡ (0, Some x) ∷ [] → m' ≡ (put_view (log x) m.0, [])

module _ {O : Type 0} where
  -- the first seat and the new one after a split, which hands over the right to feed or does not
  abbrev pub left_view : Bool → View O → View O
  left_view over v = record v { feeds = v.feeds && not over; out = v.out + 1 }

  abbrev pub right_view : Bool → View O → View O
  right_view over v = record v { mine = []; feeds = over; first = false; out = 0 }

  -- the first seat after a join, until it has looked
  abbrev pub both_views : View O → View O → View O
  both_views v w = record v { mine = all_places v.mine w.mine; feeds = v.feeds || w.feeds; out = v.out - 1; ended = w.seen; ended_fed = w.feeds }

  abbrev pub spent_view : View O
  spent_view = record { live = false; header = record { period = 0; groups = 0; seed = 0; routers = []; links = [] }; opening = []; seen = []; mine = []; held = None; feeds = false; first = false; out = 0; ended = []; ended_fed = false }

  abbrev pub settled_view : View O → View O
  settled_view v = record v { seen = longer v.seen v.ended; ended = []; ended_fed = false }

  -- after a look both lists that were joined are known to begin the longer one
  abbrev pub Settled : {S : Type 0} → Step S → Me S (View O) → ℕ → Me S (View O) → Type 0
  Settled st m r m' = (m' ≡ (settled_view m.0, m.1)) × IsPrefixOf m.0.seen (longer m.0.seen m.0.ended) × IsPrefixOf m.0.ended (longer m.0.seen m.0.ended)
      × (m.0.feeds ≡ true → fed (longer m.0.seen m.0.ended) ≡ fed (feeding m.0))
