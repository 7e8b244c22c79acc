use Rattle.std.proofs.Common.{◌<◌, length, ◌∙◌, arith}
use Rattle.dn_fabric.proofs.Errands.{there, read_is, calm_is}
use Rattle.dn_fabric.proofs.Working.{quiet_not, quiet_more, quiet_all}
use Rattle.dn_fabric.proofs.roster.Roster.are_quiet.Goals as goal

pub returns-then-not-is_calm : goal.returns-then-not-is_calm
returns-then-not-is_calm g c =
    let rs = c.args.self.now in
    let n = c.loop-number.number in
    let inside : n < length rs = (let t = c.loop-number-test.true in let l = c.len-number-end.ensures in omega (arith, t, l)) in
    let found = there rs n inside in
    quiet_not rs n found.0 c.is_calm.result inside (read_is rs n found.0 found.1) (c.is_calm.ensures ∙ calm_is found.0.part c.errand.result.now (c.errand.ensures found.0 found.1)) c.if-not-is_calm.true c.loop-number.invariant

pub loop-number-preserved : goal.loop-number-preserved
loop-number-preserved g c =
    let rs = c.args.self.now in
    let n = c.loop-number.number in
    let inside : n < length rs = (let t = c.loop-number-test.true in let l = c.len-number-end.ensures in omega (arith, t, l)) in
    let found = there rs n inside in
    quiet_more rs n found.0 c.is_calm.result inside (read_is rs n found.0 found.1) (c.is_calm.ensures ∙ calm_is found.0.part c.errand.result.now (c.errand.ensures found.0 found.1)) c.if-not-is_calm.false c.loop-number.invariant

pub returns : goal.returns
returns g c = quiet_all c.args.self.now c.loop-number.number (let t = c.loop-number-test.false in let l = c.len-number-end.ensures in omega (arith, t, l)) c.loop-number.invariant
