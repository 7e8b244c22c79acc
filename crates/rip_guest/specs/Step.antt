-- The step of the RIP guest, by cases on the state and the input.
use Rattle.std.specs.Prelude.{ℕ, ◌%◌, ◌==◌, ◌||◌, Bool, true, false, nat_lt, if◌then◌else◌, List, [], ◌∷◌, ◌++◌}
use Rattle.std.specs.Prelude.{length, slice_index, Option, Some, None}
use Rattle.dn_guest.specs.declared.input.Input.{Input}
use Rattle.dn_guest.specs.declared.input.Input.TheVariants.{Tick, Cmd, Down, Up, Msg}
use Rattle.dn_guest.specs.declared.outbox.Output.{Output}
use Rattle.rip_wire.specs.Constants.{last_tick_taken, request_command, update_interval}
use Rattle.rip_wire.specs.declared.message.Message.{Message}
use Rattle.rip_wire.specs.Reading.{message_at}
use Rattle.rip_table.specs.Held.{settled}
use Rattle.rip_table.specs.Routes.{Routes, all_changed, any_changed}
use Rattle.rip_table.specs.Timers.{port_lost, ticked}
use Rattle.rip_guest.specs.State.{RipState, has_port, with_routes}
use Rattle.rip_guest.specs.Updates.{request_on, requests, updates}
use Rattle.rip_guest.specs.Requests.{request_answers}
use Rattle.rip_guest.specs.Responses.{response_taken}
use Rattle.rip_guest.specs.Commands.{commanded}

-- ---- ticks (RFC 2453 sections 3.8 and 3.10.1)

-- at this tick the router sends its regular update (RFC 2453 section 3.8)
abbrev pub is_update_due : RipState → ℕ → Bool
is_update_due s group = group % update_interval == s.number % update_interval

-- the routes after the timers, with no marks where the regular update goes out
abbrev pub tick_routes : RipState → ℕ → Routes
tick_routes s group =
    if is_update_due s group then all_changed settled (ticked group s.routes) else ticked group s.routes

-- a request for the whole table at tick 0, then the regular update
abbrev pub tick_outs : ℕ → RipState → ℕ → List Output
tick_outs ports s group =
    (if group == 0 then requests ports (length s.costs) else [])
    ++ (if is_update_due s group then updates false (ticked group s.routes) ports (length s.costs) else [])

-- ---- messages (RFC 2453 sections 3.9.1 and 3.9.2); bytes that are none do nothing

abbrev pub routes_after_message : RipState → ℕ → Option Message → Routes
routes_after_message s port None = s.routes
routes_after_message s port (Some m) =
    if m.command == request_command then s.routes
    else response_taken port (slice_index s.costs port) s.last_tick s.routes m.entries

abbrev pub outs_of_message : RipState → ℕ → Option Message → List Output
outs_of_message s port None = []
outs_of_message s port (Some m) = if m.command == request_command then request_answers s.routes port m.entries else []

-- ---- what an input does before the end of the step

abbrev pub handled : RipState → Input → RipState
handled s (Tick group) = record s { last_tick = group; routes = tick_routes s group }
handled s (Cmd body) = with_routes s (commanded s.last_tick body s.routes)
handled s (Down port) = if has_port s port then with_routes s (all_changed (port_lost port s.last_tick) s.routes) else s
handled s (Up port) = s
handled s (Msg port body) = if has_port s port then with_routes s (routes_after_message s port (message_at body)) else s

abbrev pub handled_outs : ℕ → RipState → Input → List Output
handled_outs ports s (Tick group) = tick_outs ports s group
handled_outs ports s (Cmd body) = []
handled_outs ports s (Down port) = []
handled_outs ports s (Up port) = if has_port s port then request_on port ∷ [] else []
handled_outs ports s (Msg port body) = if has_port s port then outs_of_message s port (message_at body) else []

-- ---- the end of the step: if some route is marked as changed, a triggered update goes out on each
-- port that is up, and no route is marked any more (RFC 2453 section 3.10.1)

abbrev pub triggered_sent : RipState → RipState
triggered_sent s = if any_changed s.routes then with_routes s (all_changed settled s.routes) else s

abbrev pub triggered_update : ℕ → RipState → List Output
triggered_update ports s = if any_changed s.routes then updates true s.routes ports (length s.costs) else []

-- ---- the step

-- a tick before the last one, or past 65,535, does nothing at all
abbrev pub is_passed_over : RipState → Input → Bool
is_passed_over s (Tick group) = nat_lt group s.last_tick || nat_lt last_tick_taken group
is_passed_over s (Cmd body) = false
is_passed_over s (Down port) = false
is_passed_over s (Up port) = false
is_passed_over s (Msg port body) = false

abbrev pub rip_after : RipState → ℕ → Input → RipState
rip_after s ports input = if is_passed_over s input then s else triggered_sent (handled s input)

abbrev pub rip_outs : RipState → ℕ → Input → List Output
rip_outs s ports input =
    if is_passed_over s input then [] else handled_outs ports s input ++ triggered_update ports (handled s input)
