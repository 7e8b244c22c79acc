use Rattle.std.proofs.Common.{refl}
use Rattle.dn_top.specs.Promises.{network_of}
use Rattle.dn_top.proofs.Running.{all_injected, goes_on, is_run, shows}
use Rattle.dn_top.proofs.threads.ended_fabrics.Goals as goal

pub returns-clause-shows : goal.returns-clause-shows
returns-clause-shows c = λ case f rules e r.
    let net = network_of case.header in
    let on = goes_on case f e r (c.runs.ensures.own_case f.live.world) in
    shows case f e r (c.cut_runs.ensures.rows net case f.journal rules refl r.legal on) (c.cut_runs.ensures.cut net case f.journal rules refl r.legal on) (c.reached_fabrics.ensures.at_rest net f rules.header r)

pub returns-clause-run : goal.returns-clause-run
returns-clause-run c = λ case f rules e r.
    let net = network_of case.header in
    let on = goes_on case f e r (c.runs.ensures.own_case f.live.world) in
    let shown = shows case f e r (c.cut_runs.ensures.rows net case f.journal rules refl r.legal on) (c.cut_runs.ensures.cut net case f.journal rules refl r.legal on) (c.reached_fabrics.ensures.at_rest net f rules.header r) in
    let all = all_injected case f e r (c.runs.ensures.accepted net f.journal) in
    let timed = c.cases_are_timed.ensures.timed net case rules refl in
    is_run case f e r shown all (c.legal_runs_are_taken.ensures.cut net case.feed f.journal r.legal all) (c.legal_runs_are_taken.ensures.whole net case.feed f.journal timed r.legal all)
