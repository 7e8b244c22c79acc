-- How far a command runs, and where it stops.
use Rattle.std.specs.Prelude.{ℕ, ◌+◌, Bool, true, false, nat_le, not, ◌==◌, if◌then◌else◌, List, [], ◌∷◌, length, take, take_while, drop, position, slice_get, Option, Some, None}
use Rattle.circular_buffer.specs.Buffer.{keep_last}
use Rattle.dn_model.specs.declared.event.Event.{Event}
use Rattle.dn_model.specs.declared.feed.External.{External}
use Rattle.dn_model.specs.Network.{Network, state}
use Rattle.dn_model.specs.SoFar.{by_router}
use Rattle.dn_model.specs.Settled.{rows, shown_rows}
use Rattle.dn_lockstep.specs.Running.{first_rows}
use Rattle.dn_probe.specs.Meaning.{Watch}
use Rattle.dn_command.specs.declared.breaks.Break.{Break}
use Rattle.dn_command.specs.Breaks.{matches}
use Rattle.dn_debug.specs.declared.extent.Extent.{Extent}
use Rattle.dn_debug.specs.declared.reason.Reason.{Reason}
use Rattle.dn_debug.specs.declared.reason.Reason.TheVariants as reason
use Rattle.dn_debug.specs.Watching.{all_told, first_yes}

-- ---- where rows stop a run

-- a row, and the show of its router after it
pub record Seen : Type 0 where
  pub row : Event
  pub show : List ℕ

abbrev pub stop_by : Option ℕ → Option (List ℕ) → Option Reason
stop_by (Some number) probe = Some (reason.Break number)
stop_by None (Some name) = Some (reason.Probe name)
stop_by None None = None

-- the first break that matches the row
unfoldable pub first_break : List Break → Event → Option ℕ
first_break breaks row = position (λ b. matches b row) breaks

-- the row stops the run: a break matches it, or else a probe says yes to it
abbrev pub stop_at : List Break → List Watch → Seen → Option Reason
stop_at breaks probes s = stop_by (first_break breaks s.row) (first_yes s.row s.show probes)

-- how many rows are handled, the probes then, and why the last row stops the run, if it does
pub record Going : Type 0 where
  pub count : ℕ
  pub attached : List Watch
  pub stop : Option Reason

-- the same with so many rows before
abbrev pub after_more : ℕ → Going → Going
after_more n g = record { count = n + g.count; attached = g.attached; stop = g.stop }

abbrev pub going_by : Option Reason → List Watch → Going → Going
going_by (Some reason) probes further = record { count = 1; attached = probes; stop = Some reason }
going_by None probes further = after_more 1 further

-- Of these rows all are handled up to the first that stops the run, itself too. Each is shown to all probes.
unfoldable pub going : List Break → List Watch → List Seen → Going
going breaks probes [] = record { count = 0; attached = probes; stop = None }
going breaks probes (s ∷ ss) =
    let shown = all_told s.row s.show probes in
    going_by (stop_at breaks probes s) shown (going breaks shown ss)

-- ---- which rows a command may handle

-- a row of this group or a later one
abbrev pub is_from : Option ℕ → Option Event → Bool
is_from (Some group) (Some row) = nat_le group row.key.group
is_from (Some group) None = false
is_from None row = false

abbrev pub reason_by : Option Reason → Reason → Reason
reason_by (Some reason) own = reason
reason_by None own = own

-- where a run has come to, the probes then, and why it stopped
pub record Course : Type 0 where
  pub count : ℕ
  pub attached : List Watch
  pub reason : Reason

-- the rows of a run that are written: each, or the last one
abbrev pub written : Bool → List Event → List Event
written true es = es
written false es = keep_last 1 es

module _ {S : Type 0} (net : Network S) (feed : List External) where
  -- the show of a router after the first n rows
  unfoldable pub show_after : ℕ → ℕ → List ℕ
  show_after n r = net.guests.show (state net r (by_router (first_rows net feed n) r)).guest

  -- rows, the first of which has this place
  unfoldable pub seen_from : ℕ → List Event → List Seen
  seen_from place [] = []
  seen_from place (row ∷ rows) = record { row = row; show = show_after (place + 1) row.router } ∷ seen_from (place + 1) rows

  -- the rows from this place on that may be handled: at most so many, and none of the group or behind it
  unfoldable pub ahead : ℕ → Extent → List Event
  ahead place x = take x.most (take_while (λ row. not (is_from x.group (Some row))) (drop place (shown_rows net feed)))

  -- why a run stops at this place after so many rows if its last row doesn't stop it
  unfoldable pub own_end : Extent → ℕ → ℕ → Reason
  own_end x place count =
      if is_from x.group (slice_get (rows net feed) place) then reason.Group else
      (if count == x.most then reason.Step else
      (if place == length (rows net feed) then reason.End else reason.Cut))

  abbrev pub course_of : Extent → ℕ → Going → Course
  course_of x place g = record { count = g.count; attached = g.attached; reason = reason_by g.stop (own_end x (place + g.count) g.count) }

  -- the rows of that run
  unfoldable pub handled : ℕ → ℕ → List Event
  handled place count = take count (drop place (rows net feed))

  -- a run from this place on
  unfoldable pub course : List Break → ℕ → List Watch → Extent → Course
  course breaks place probes x = course_of x place (going breaks probes (seen_from place (ahead place x)))
