use Rattle.std.proofs.Common.{◌≡◌, false, sym, subst}
use Rattle.std.specs.Prelude.{slice_index}
use Rattle.rip_table.specs.Routes.{any_changed}
use Rattle.rip_guest.specs.State.{RipState}
use Rattle.rip_laws.specs.Reached.{IsReached}
use Rattle.rip_laws.proofs.Quiet.{authentication, if_response, no_destination, no_message, no_port, request, same_routes}
use Rattle.rip_laws.proofs.taken.messages_that_change_nothing.Goals as goal

unmarked : (c : goal.After-no_mark_is_left) (s : RipState) → IsReached s → any_changed s.routes ≡ false
unmarked c s is = subst (λ (t : RipState). any_changed t.routes ≡ false) (sym is.reached) (c.no_mark_is_left.ensures.run is.number is.costs is.prefixes is.steps)

pub returns-clause-port : goal.returns-clause-port
returns-clause-port c = λ s ports port body is. no_port s ports port body (unmarked c s is)

pub returns-clause-no_message : goal.returns-clause-no_message
returns-clause-no_message c = λ s ports port body is says. same_routes s ports port body (unmarked c s is) (no_message s port body says)

pub returns-clause-request : goal.returns-clause-request
returns-clause-request c = λ s ports port body m is says asks. same_routes s ports port body (unmarked c s is) (request s port body m says asks)

pub returns-clause-authentication : goal.returns-clause-authentication
returns-clause-authentication c = λ s ports port body m is says first.
    same_routes s ports port body (unmarked c s is)
    (if_response s port body m says (authentication port (slice_index s.costs port) s.last_tick s.routes m.entries first))

pub returns-clause-entries : goal.returns-clause-entries
returns-clause-entries c = λ s ports port body m is says all.
    same_routes s ports port body (unmarked c s is)
    (if_response s port body m says (no_destination port (slice_index s.costs port) s.last_tick s.routes m.entries all))
