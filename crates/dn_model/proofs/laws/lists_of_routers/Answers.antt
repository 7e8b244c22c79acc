use Rattle.std.proofs.Common.{length}
use Rattle.dn_model.proofs.AtEach.{messages_to, part_by_part}
use Rattle.dn_model.proofs.Committed.{injected_injected}
use Rattle.dn_model.proofs.Ports.{wired_from}
use Rattle.dn_model.proofs.Steps.{emitted_inside}
use Rattle.dn_model.proofs.laws.lists_of_routers.Goals as goal

pub returns-clause-sent : goal.returns-clause-sent
returns-clause-sent g c = λ net f r. messages_to net f r

pub returns-clause-injected : goal.returns-clause-injected
returns-clause-injected g c = λ groups feed r. injected_injected groups feed r

pub returns-clause-inside : goal.returns-clause-inside
returns-clause-inside g c = λ header cause sents rules. emitted_inside (length header.routers) header (wired_from header rules) cause sents

pub returns-clause-by_router : goal.returns-clause-by_router
returns-clause-by_router g c = λ n es a. part_by_part n es a
