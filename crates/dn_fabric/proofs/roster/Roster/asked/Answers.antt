use Rattle.std.proofs.Common.{◌≡◌, ◌+◌, ◌<◌, ◌≤◌, false, length, sym, ap, ◌∙◌, subst, arith}
use Rattle.dn_world.specs.World.{is_behind}
use Rattle.dn_fabric.proofs.Errands.{IsAskedFrom, there, read_is, found_inside, asked_start, asked_leased, asked_more, asked_back, asked_handle, asked_nothing}
use Rattle.dn_fabric.proofs.Working.{behind_found, behind_more, behind_none}
use Rattle.dn_fabric.proofs.roster.Roster.asked.Goals as goal
use Rattle.dn_fabric.proofs.roster.Roster.asked.Goals.{then-not-leased-number, else-not-leased-number}

pub loop-number-init : goal.loop-number-init
loop-number-init g c = asked_start c.args.self.now c.args.leased.now

pub returns-then-errand : goal.returns-then-errand
returns-then-errand g c =
    let rs = c.args.self.now in
    let n = c.loop-number.number in
    let inside : n < length rs = (let t = c.loop-number-test.true in let l = c.len-number-end.ensures in omega (arith, t, l)) in
    let at = there rs n inside in
    let is = ap (λ e. e.behind) (c.errand.ensures at.0 at.1) in
    asked_back rs c.args.leased.now n (behind_found rs n at.0 c.errand.result.now.behind inside (read_is rs n at.0 at.1) is c.if-errand.true c.loop-number.invariant.behind)

pub overflow_cast-result-in-Some : goal.overflow_cast-result-in-Some
overflow_cast-result-in-Some g c =
    let rs = c.args.self.now in
    let n = c.in-Some.number in
    let from = subst (λ f. IsAskedFrom rs c.args.leased.now c.loop-number.number f) c.in-Some.is c.loop-number.invariant in
    let l = found_inside rs from.event n from.is in
    omega (arith, l, c.requires.few)

pub earlier_of-found-requires-clause-found : goal.earlier_of-found-requires-clause-found
earlier_of-found-requires-clause-found g c κs within = (c.loop-number.invariant.event, c.loop-number.invariant.is)

pub loop-number-preserved : goal.loop-number-preserved
loop-number-preserved g c =
    let rs = c.args.self.now in
    let leased = c.args.leased.now in
    let n = c.loop-number.number in
    let inside : n < length rs = (let t = c.loop-number-test.true in let l = c.len-number-end.ensures in omega (arith, t, l)) in
    let at = there rs n inside in
    let x = at.0 in
    let read = read_is rs n x at.1 in
    let is = ap (λ e. e.behind) (c.errand.ensures x at.1) in
    let calm : is_behind x.part ≡ false = sym is ∙ c.if-errand.false in
    let from = c.loop-number.invariant in
    let behind = behind_more rs n x c.errand.result.now.behind inside read is c.if-errand.false from.behind in
    elim c.if-not-leased-number.branch [
      | then-not-leased-number w ↦
          subst (λ f. IsAskedFrom rs leased (n + 1) f) (sym w.found-is)
          (asked_more rs leased n c.loop-number.found w.earlier_of-found.result x inside read behind calm w.if-not-leased-number.true from
          (w.earlier_of-found.ensures from.event x from.is at.1))
      | else-not-leased-number w ↦
          subst (λ f. IsAskedFrom rs leased (n + 1) f) (sym w.found-is)
          (asked_leased rs leased n c.loop-number.found x inside read behind w.if-not-leased-number.false from)
    ]

pub returns-in-Some : goal.returns-in-Some
returns-in-Some g c =
    let rs = c.args.self.now in
    let n = c.loop-number.number in
    let all : length rs ≤ n = (let t = c.loop-number-test.false in let l = c.len-number-end.ensures in omega (arith, t, l)) in
    asked_handle rs c.args.leased.now n c.in-Some.number all (behind_none rs n all c.loop-number.invariant.behind)
    (subst (λ f. IsAskedFrom rs c.args.leased.now n f) c.in-Some.is c.loop-number.invariant)

pub returns-in-None : goal.returns-in-None
returns-in-None g c =
    let rs = c.args.self.now in
    let n = c.loop-number.number in
    let all : length rs ≤ n = (let t = c.loop-number-test.false in let l = c.len-number-end.ensures in omega (arith, t, l)) in
    asked_nothing rs c.args.leased.now n all (behind_none rs n all c.loop-number.invariant.behind)
    (subst (λ f. IsAskedFrom rs c.args.leased.now n f) c.in-None.is c.loop-number.invariant)
