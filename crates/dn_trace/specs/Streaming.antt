-- The text of a trace on its way.
use Rattle.std.specs.Prelude.{◌≡◌, ℕ, ◌+◌, ◌-◌, ◌<◌, true, false, nat_lt, if◌then◌else◌, zero, suc, Option, Some, None, List, [], ◌++◌, length, drop, slice_get, codes}
use Rattle.dn_guest.specs.Meaning.{Meaning}
use Rattle.dn_model.specs.declared.feed.External.{External}
use Rattle.dn_model.specs.Cases.{Heading}
use Rattle.dn_model.specs.Network.{Network, routers}
use Rattle.dn_model.specs.Settled.{shown_rows, row_limit, is_cut}
use Rattle.dn_trace.specs.declared.stream.Ending.{Ending}
use Rattle.dn_trace.specs.declared.stream.Ending.TheVariants as ending
use Rattle.dn_trace.specs.declared.compare.Checked.{Checked}
use Rattle.dn_trace.specs.declared.compare.Checked.TheVariants as checked
use Rattle.dn_trace.specs.declared.stream.Stage.{Stage}
use Rattle.dn_trace.specs.declared.stream.Stage.TheVariants as stage
use Rattle.dn_guest.specs.declared.node.Node.{Node}
use Rattle.dn_model.specs.declared.router.RouterDef.{RouterDef}
use Rattle.dn_model.specs.declared.event.Event.{Event}
use Rattle.dn_trace.specs.Rows.{row_line, row_lines, state_line}
use Rattle.dn_trace.specs.Trace.{end_text}

-- the network has this header, and these guests of this meaning at its routers
pub record IsRunOf {S : Type 0} (net : Network S) (guest : Meaning S) (header : Heading) (guests : List S) : Type 0 where
  pub of_header : net.header ≡ header
  pub of_guest : net.guests ≡ guest
  pub openings : (r : ℕ) → r < routers net → slice_get guests r ≡ Some (net.opening r)

-- the rows behind the first n, and the end
abbrev pub rows_to_come : {S : Type 0} → Network S → List External → ℕ → List ℕ
rows_to_come net feed n = row_lines net.header.routers (drop n (shown_rows net feed)) ++ end_text net feed

-- the text that is still to come after so many rows
unfoldable pub to_come : {S : Type 0} → Network S → List External → Stage → ℕ → List ℕ
to_come net feed stage.Opening place = codes "trace\n" ++ rows_to_come net feed place
to_come net feed stage.Rows place = rows_to_come net feed place
to_come net feed (stage.Ended e) place = []

-- a trace ends cut exactly where the run has more rows than a trace shows
abbrev pub EndsAs : {S : Type 0} → Network S → List External → Ending → Type 0
EndsAs net feed ending.Whole = is_cut net feed ≡ false
EndsAs net feed ending.Cut = is_cut net feed ≡ true

-- the same of a trace that ended
abbrev pub EndsRightly : {S : Type 0} → Network S → List External → Stage → Type 0
EndsRightly net feed stage.Opening = Unit {0}
EndsRightly net feed stage.Rows = Unit {0}
EndsRightly net feed (stage.Ended e) = EndsAs net feed e

-- how many pieces are left at most
abbrev pub steps_left : Stage → ℕ → ℕ
steps_left stage.Opening place = row_limit - place + 2
steps_left stage.Rows place = row_limit - place + 1
steps_left (stage.Ended e) place = 0

-- the line of the row handled last
abbrev pub line_of_last : List RouterDef → Option Event → List ℕ
line_of_last defs None = []
line_of_last defs (Some row) = row_line defs row

-- the state lines of the first n nodes of a list
abbrev pub state_line_of : {S : Type 0} → Meaning S → List RouterDef → ℕ → Option (Node S) → List ℕ
state_line_of guest defs r None = []
state_line_of guest defs r (Some node) = state_line guest defs r node

unfoldable pub node_lines : {S : Type 0} → Meaning S → List RouterDef → List (Node S) → ℕ → List ℕ
node_lines guest defs nodes zero = []
node_lines guest defs nodes (suc n) = node_lines guest defs nodes n ++ state_line_of guest defs n (slice_get nodes n)

-- how a trace ended, where it has
abbrev pub ended_of : Stage → Option Ending
ended_of stage.Opening = None
ended_of stage.Rows = None
ended_of (stage.Ended e) = Some e

-- what a comparison finds where the trace ended after so many bytes that were the same
abbrev pub checked_of : Ending → Checked
checked_of ending.Whole = checked.Equal
checked_of ending.Cut = checked.Cut

abbrev pub end_of : List ℕ → ℕ → Ending → Checked
end_of section at e = if nat_lt at (length section) then checked.Differs at else checked_of e
