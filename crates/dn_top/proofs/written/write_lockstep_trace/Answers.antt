use Rattle.std.proofs.Common.{rules}
use Rattle.dn_top.specs.Promises.{network_of}
use Rattle.dn_top.proofs.Networks.{ending_tells}
use Rattle.dn_top.proofs.written.write_lockstep_trace.Goals as goal

pub returns-clause-whole : goal.returns-clause-whole
returns-clause-whole g c = c.write_trace.ensures.whole (network_of c.args.case.now.header) c.in-Ok.ensures.run

pub returns-clause-front : goal.returns-clause-front
returns-clause-front g c = c.write_trace.ensures.front (network_of c.args.case.now.header) c.in-Ok.ensures.run

pub returns-clause-ending : goal.returns-clause-ending
returns-clause-ending g c =
    let tells = c.write_trace.ensures.ending (network_of c.args.case.now.header) c.in-Ok.ensures.run in
    search (rules, ending_tells, tells)
