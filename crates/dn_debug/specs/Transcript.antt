-- What a session answers to a line, and what it leaves.
use Rattle.std.specs.Prelude.{◌≡◌, ℕ, ◌+◌, Option, Some, None, true, false, List, [], ◌∷◌, ◌++◌, length}
use Rattle.std.specs.List.Sorted.{IsPermutation, IsSorted}
use Rattle.circular_buffer.specs.Buffer.{keep_last}
use Rattle.dn_model.specs.declared.event.Event.{Event}
use Rattle.dn_model.specs.declared.feed.External.{External}
use Rattle.dn_model.specs.Order.{event_cmp}
use Rattle.dn_model.specs.Network.{Network, sent_to, state}
use Rattle.dn_model.specs.Settled.{row_limit}
use Rattle.dn_model.specs.SoFar.{by_router}
use Rattle.dn_lockstep.specs.Running.{first_rows, messages}
use Rattle.dn_trace.specs.Rows.{row_lines}
use Rattle.dn_command.specs.declared.command.Command.{Command}
use Rattle.dn_command.specs.declared.command.Command.TheVariants as command
use Rattle.dn_command.specs.Commands.{command_of}
use Rattle.dn_debug.specs.declared.extent.Extent.{Extent}
use Rattle.dn_debug.specs.declared.session.Told.{Told}
use Rattle.dn_debug.specs.declared.session.Told.TheVariants.{Go, Quit}
use Rattle.dn_debug.specs.Watching.{Watched, Dropped, attach, unwatch}
use Rattle.dn_debug.specs.Lines.{unknown_line, break_line, watch_line, place_line, waiting_line, node_text}
use Rattle.dn_debug.specs.Courses.{Course, course}
use Rattle.dn_debug.specs.Situations.{Situation, situation}
use Rattle.dn_debug.specs.Steps.{run_text}

-- a text, and what is left
pub record Answer : Type 0 where
  pub text : List ℕ
  pub next : Situation

abbrev pub probes : Situation → Watched
probes s = record { attached = s.attached; there = s.there }

-- what is no command changes nothing
abbrev pub unknown : Situation → Answer
unknown s = record { text = unknown_line; next = s }

abbrev pub watch_by : Situation → List ℕ → Option Watched → Answer
watch_by s name None = unknown s
watch_by s name (Some w) = record { text = watch_line name; next = situation s.place s.breaks w }

abbrev pub unwatch_by : Situation → Option Dropped → Answer
unwatch_by s None = unknown s
unwatch_by s (Some d) = record { text = d.report; next = situation s.place s.breaks d.left }

-- so many rows, each of them written; rows up to the end, or up to this group, of which the last is written: no run has more rows than the limit
abbrev pub steps : ℕ → Extent
steps n = record { most = n; group = None; each = true }

abbrev pub all_up_to : Option ℕ → Extent
all_up_to group = record { most = row_limit + 1; group = group; each = false }

module _ {S : Type 0} (net : Network S) (feed : List External) where
  -- the messages that wait at a router after the first n rows, in order: those that were sent to it, but for those that are rows
  pub record AreWaiting (n r : ℕ) (found : List Event) : Type 0 where
    pub sorted : IsSorted event_cmp found
    pub sent : IsPermutation (sent_to net (by_router (first_rows net feed n)) r) (messages (by_router (first_rows net feed n) r) ++ found)

  abbrev pub ran_by : Situation → Extent → Course → Answer
  ran_by s x c = record { text = run_text net feed x s.place c; next = record s { place = s.place + c.count; attached = c.attached } }

  unfoldable pub ran : Situation → Extent → Answer
  ran s x = ran_by s x (course net feed s.breaks s.place s.attached x)

  -- the answer to a command
  abbrev pub Answers : Situation → Command → Answer → Type 0
  Answers s (command.Step n) a = a ≡ ran s (steps n)
  Answers s command.Run a = a ≡ ran s (all_up_to None)
  Answers s (command.Until group) a = a ≡ ran s (all_up_to (Some group))
  Answers s (command.Break stop) a = a ≡ record { text = break_line (length s.breaks); next = record s { breaks = s.breaks ++ stop ∷ [] } }
  Answers s (command.Watch name) a = a ≡ watch_by s name (attach net.header name (probes s))
  Answers s (command.Unwatch name) a = a ≡ unwatch_by s (unwatch name (probes s))
  Answers s (command.Show r) a = a ≡ record { text = node_text net.guests net.header.routers r (state net r (by_router (first_rows net feed s.place) r)); next = s }
  Answers s (command.Queue r) a = (found : List Event) × AreWaiting s.place r found × (a ≡ record { text = row_lines net.header.routers found ++ waiting_line (length found); next = s })
  Answers s command.Where a = a ≡ record { text = place_line s.place; next = s }
  Answers s command.Last a = a ≡ record { text = row_lines net.header.routers (keep_last 16 (first_rows net feed s.place)); next = s }
  Answers s command.Quit a = a ≡ record { text = []; next = s }

  abbrev pub AnswersTo : Situation → Option Command → Answer → Type 0
  AnswersTo s None a = a ≡ unknown s
  AnswersTo s (Some c) a = Answers s c a

  -- the answer to a line without its newline
  unfoldable pub Replies : Situation → List ℕ → Answer → Type 0
  Replies s line a = AnswersTo s (command_of net.header.routers line) a

abbrev pub told_by : Option Command → Told
told_by None = Go
told_by (Some command.Quit) = Quit
told_by (Some _) = Go
