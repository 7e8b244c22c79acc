use Rattle.rip_guest.proofs.Marks.{unmarked_after, unmarked_opening, unmarked_run}
use Rattle.rip_guest.proofs.laws.no_mark_is_left.Goals as goal

pub returns-clause-opening : goal.returns-clause-opening
returns-clause-opening c = unmarked_opening

pub returns-clause-step : goal.returns-clause-step
returns-clause-step c = unmarked_after

pub returns-clause-run : goal.returns-clause-run
returns-clause-run c = unmarked_run
