use Rattle.std.proofs.Common.{◌+◌, ◌<◌, length, drop, sym, ap, ◌∙◌, arith}
use Rattle.dn_world.specs.World.{least_key}
use Rattle.dn_fabric.proofs.Errands.{read_is}
use Rattle.dn_fabric.proofs.Leasts.{waiting_of, least_turn, least_end}
use Rattle.dn_fabric.proofs.roster.Roster.least_key.Goals as goal

pub loop-number-preserved : goal.loop-number-preserved
loop-number-preserved g c =
    let rs = c.args.self.now in
    let n = c.loop-number.number in
    let inside : n < length rs = (let t = c.loop-number-test.true in let l = c.len-number-end.ensures in omega (arith, t, l)) in
    ap (λ k. least_key k (waiting_of (drop (n + 1) rs))) c.least_at-least.ensures
    ∙ least_turn c.loop-number.least rs n c.router.result.now inside (read_is rs n c.router.result.now c.router.ensures)
    ∙ c.loop-number.invariant

pub returns : goal.returns
returns g c =
    sym (least_end c.loop-number.least c.args.self.now c.loop-number.number (let t = c.loop-number-test.false in let l = c.len-number-end.ensures in omega (arith, t, l)))
    ∙ c.loop-number.invariant
