-- Probes that are attached, and those that are still there to be attached.
use Rattle.std.specs.Prelude.{◌≡◌, ℕ, Bool, true, false, nat_eq, List, [], ◌∷◌, ◌++◌, map, remove, position, slice_get, Option, Some, None}
use Rattle.std.specs.Cmp.Lexicographic.{pointwise}
use Rattle.dn_model.specs.declared.event.Event.{Event}
use Rattle.dn_model.specs.Cases.{Heading}
use Rattle.dn_probe.specs.Meaning.{Watch, begun, says, told, report_of}

-- the attached probes in the order in which they were attached, and those that are still there
pub record Watched : Type 0 where
  pub attached : List Watch
  pub there : List Watch

-- the same as the code keeps them
pub record Kept (X : Type 0) : Type 0 where
  pub attached : List X
  pub there : List X

-- what they are by what each is
abbrev pub watched : {X : Type 0} → (X → Watch) → Kept X → Watched
watched watcher k = record { attached = map watcher k.attached; there = map watcher k.there }

abbrev pub is_named : List ℕ → Watch → Bool
is_named name w = pointwise nat_eq w.rules.name name

-- the place of the first probe of that name
unfoldable pub place_of : List ℕ → List Watch → Option ℕ
place_of name ws = position (is_named name) ws

-- all are told a row and the show of its router after it
abbrev pub all_told : Event → List ℕ → List Watch → List Watch
all_told row show ws = map (λ w. told w row show) ws

abbrev pub name_if : Bool → Watch → Option (List ℕ)
name_if true w = Some w.rules.name
name_if false w = None

abbrev pub or_else : Option (List ℕ) → Option (List ℕ) → Option (List ℕ)
or_else (Some name) others = Some name
or_else None others = others

-- the name of the first that says yes to it
unfoldable pub first_yes : Event → List ℕ → List Watch → Option (List ℕ)
first_yes row show [] = None
first_yes row show (w ∷ ws) = or_else (name_if (says w row show) w) (first_yes row show ws)

-- ---- attaching and dropping

-- the probe that stood at this place is attached, as the last one
abbrev pub attached_at : Heading → Watched → ℕ → Option Watch → Option Watched
attached_at header s place None = None
attached_at header s place (Some w) = Some (record { attached = s.attached ++ begun w header ∷ []; there = remove s.there place })

abbrev pub attach_by : Heading → Watched → Option ℕ → Option Watched
attach_by header s None = None
attach_by header s (Some place) = attached_at header s place (slice_get s.there place)

-- the first probe of that name that is there is attached: none where there is none
unfoldable pub attach : Heading → List ℕ → Watched → Option Watched
attach header name s = attach_by header s (place_of name s.there)

-- what is left once a probe is dropped, and its report
pub record Dropped : Type 0 where
  pub report : List ℕ
  pub left : Watched

abbrev pub dropped_at : Watched → ℕ → Option Watch → Option Dropped
dropped_at s place None = None
dropped_at s place (Some w) = Some (record { report = report_of w; left = record { attached = remove s.attached place; there = s.there } })

abbrev pub drop_by : Watched → Option ℕ → Option Dropped
drop_by s None = None
drop_by s (Some place) = dropped_at s place (slice_get s.attached place)

-- the first attached probe of that name is dropped, for good: none where there is none
unfoldable pub unwatch : List ℕ → Watched → Option Dropped
unwatch name s = drop_by s (place_of name s.attached)

-- ---- what the two do to a session

abbrev pub HasAttached : Heading → List ℕ → Watched → Bool → Watched → Type 0
HasAttached header name old true new = attach header name old ≡ Some new
HasAttached header name old false new = (attach header name old ≡ None) × (new ≡ old)

abbrev pub HasDropped : List ℕ → Watched → Bool → Watched → List ℕ → List ℕ → Type 0
HasDropped name old true new before now = (dropped : Dropped) × (unwatch name old ≡ Some dropped) × (new ≡ dropped.left) × (now ≡ before ++ dropped.report)
HasDropped name old false new before now = (unwatch name old ≡ None) × (new ≡ old) × (now ≡ before)
