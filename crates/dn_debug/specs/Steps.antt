-- What rows do to the parts of a session.
use Rattle.std.specs.Prelude.{◌≡◌, ℕ, ◌+◌, Bool, true, false, Option, Some, None, List, [], ◌∷◌, ◌++◌}
use Rattle.circular_buffer.specs.Buffer.{keep_last}
use Rattle.dn_model.specs.declared.event.Event.{Event}
use Rattle.dn_model.specs.declared.router.RouterDef.{RouterDef}
use Rattle.dn_model.specs.declared.feed.External.{External}
use Rattle.dn_model.specs.Network.{Network}
use Rattle.dn_lockstep.specs.Running.{Running}
use Rattle.dn_trace.specs.Rows.{row_lines}
use Rattle.dn_command.specs.declared.breaks.Break.{Break}
use Rattle.dn_debug.specs.declared.extent.Extent.{Extent}
use Rattle.dn_debug.specs.declared.reason.Reason.{Reason}
use Rattle.dn_debug.specs.Watching.{Watched, all_told}
use Rattle.dn_debug.specs.Courses.{Course, stop_at, show_after, course, handled, written}
use Rattle.dn_debug.specs.Lines.{stop_line}
use Rattle.dn_debug.specs.Situations.{IsAt}

abbrev pub each_of : Bool → List Event → List Event
each_of true es = es
each_of false es = []

-- the last row, if each isn't written and there was a further one
abbrev pub last_if : Bool → Bool → Option Event → List Event
last_if true moved last = []
last_if false false last = []
last_if false true None = []
last_if false true (Some row) = row ∷ []

-- the row, which was handled last of so many, was noted and shown, and stops the run or not
pub record IsTaken {S : Type 0} (net : Network S) (feed : List External) (breaks : List Break) (place : ℕ) (row : Event) (old : Watched) (before : List Event) (stop : Option Reason) (new : Watched) (now : List Event) : Type 0 where
  pub shown : new ≡ record old { attached = all_told row (show_after net feed place row.router) old.attached }
  pub noted : now ≡ keep_last 16 (before ++ row ∷ [])
  pub stops : stop ≡ stop_at breaks old.attached (record { row = row; show = show_after net feed place row.router })

-- from this start on the run went its course, and wrote each of its rows if each is written
pub record HasGone {S : Type 0} (net : Network S) (feed : List External) (breaks : List Break) (x : Extent) (start : ℕ) (old : Watched) (engine : Running S) (new : Watched) (latest : List Event) (why : Reason) (defs : List RouterDef) (before now : List ℕ) : Type 0 where
  pub at : IsAt net feed engine latest
  pub place : engine.place ≡ start + (course net feed breaks start old.attached x).count
  pub shown : new ≡ record old { attached = (course net feed breaks start old.attached x).attached }
  pub reason : why ≡ (course net feed breaks start old.attached x).reason
  pub text : now ≡ before ++ row_lines defs (each_of x.each (handled net feed start (course net feed breaks start old.attached x).count))

-- what a run writes: rows, and the stop line
abbrev pub run_text : {S : Type 0} → Network S → List External → Extent → ℕ → Course → List ℕ
run_text net feed x start c = row_lines net.header.routers (written x.each (handled net feed start c.count)) ++ stop_line (start + c.count) c.reason

-- the run went its course, and wrote this
pub record HasRun {S : Type 0} (net : Network S) (feed : List External) (breaks : List Break) (x : Extent) (start : ℕ) (old : Watched) (engine : Running S) (new : Watched) (latest : List Event) (before now : List ℕ) : Type 0 where
  pub at : IsAt net feed engine latest
  pub place : engine.place ≡ start + (course net feed breaks start old.attached x).count
  pub shown : new ≡ record old { attached = (course net feed breaks start old.attached x).attached }
  pub text : now ≡ before ++ run_text net feed x start (course net feed breaks start old.attached x)
