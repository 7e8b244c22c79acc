use Rattle.std.proofs.Common.{arith}
use Rattle.dn_workers.proofs.Feeds.{injectable, next_of, grown_fed, grown_stopped, with_up_to, one_fed, one_stopped, end_fed, end_stopped, end_last}
use Rattle.dn_workers.proofs.feeding.pass_on.Goals as goal

pub give-requires-clause-ahead : goal.give-requires-clause-ahead
give-requires-clause-ahead g c κs within =
    let o = c.in-One in let due = c.requires.due in let f = c.args.fabric.now in
    let n = next_of f.live.header _ c.args.fed due.0 due.1 o.router o.input o.group o.is due.2 in
    let e = c.so_far.ensures.floor n.before n.up_to in let r = n.external.rises in omega (arith, e, r)

pub give-requires-clause-inside : goal.give-requires-clause-inside
give-requires-clause-inside g c κs within =
    let o = c.in-One in let due = c.requires.due in let f = c.args.fabric.now in
    (next_of f.live.header _ c.args.fed due.0 due.1 o.router o.input o.group o.is due.2).external.group

pub give-requires-clause-there : goal.give-requires-clause-there
give-requires-clause-there g c κs within =
    let o = c.in-One in let due = c.requires.due in let f = c.args.fabric.now in
    (next_of f.live.header _ c.args.fed due.0 due.1 o.router o.input o.group o.is due.2).external.router

pub give-requires-clause-asked : goal.give-requires-clause-asked
give-requires-clause-asked g c κs within =
    let o = c.in-One in let due = c.requires.due in let f = c.args.fabric.now in
    injectable f.live.header o.router o.input (next_of f.live.header _ c.args.fed due.0 due.1 o.router o.input o.group o.is due.2).external.asked

pub returns-in_err-give-in-One-clause-grown : goal.returns-in_err-give-in-One-clause-grown
returns-in_err-give-in-One-clause-grown g c = let a = c.in_err-give-in-One.ensures.err in grown_stopped c.args.fabric.now c.give.new.fabric a.0 c.requires.running a.2

pub returns-in_err-give-in-One-clause-fed : goal.returns-in_err-give-in-One-clause-fed
returns-in_err-give-in-One-clause-fed g c = let o = c.in-One in
    λ given closed due. one_stopped c.args.fabric.now c.give.new.fabric c.args.fed o.router o.input o.group given closed o.is due c.so_far.ensures.floor c.logs.ensures.stopped c.in_err-give-in-One.ensures.err

pub returns-in_err-close_at_the_end-in-Closed-clause-grown : goal.returns-in_err-close_at_the_end-in-Closed-clause-grown
returns-in_err-close_at_the_end-in-Closed-clause-grown g c = let a = c.in_err-close_at_the_end-in-Closed.ensures.err in grown_stopped c.args.fabric.now c.close_at_the_end.new.fabric a.0 c.requires.running a.2

pub returns-in_err-close_at_the_end-in-Closed-clause-fed : goal.returns-in_err-close_at_the_end-in-Closed-clause-fed
returns-in_err-close_at_the_end-in-Closed-clause-fed g c =
    λ given closed due. end_stopped c.args.fabric.now c.close_at_the_end.new.fabric c.args.fed _ given closed c.in-Closed.is due c.in_err-close_at_the_end-in-Closed.ensures.err

pub returns-in_ok-give-in-One-clause-grown : goal.returns-in_ok-give-in-One-clause-grown
returns-in_ok-give-in-One-clause-grown g c = grown_fed c.args.fabric.now c.give.new.fabric _ _ _ c.requires.running c.in_ok-give-in-One.ensures.ok

pub returns-in_ok-give-in-One-clause-fed : goal.returns-in_ok-give-in-One-clause-fed
returns-in_ok-give-in-One-clause-fed g c = let o = c.in-One in
    λ given closed due. with_up_to given closed _ (one_fed c.args.fabric.now c.give.new.fabric c.args.fed o.router o.input o.group given closed o.is due c.so_far.ensures.floor c.in_ok-give-in-One.ensures.ok).1

pub returns-in_ok-give-in-One-clause-more : goal.returns-in_ok-give-in-One-clause-more
returns-in_ok-give-in-One-clause-more g c = let o = c.in-One in
    λ _ given closed due. one_fed c.args.fabric.now c.give.new.fabric c.args.fed o.router o.input o.group given closed o.is due c.so_far.ensures.floor c.in_ok-give-in-One.ensures.ok

pub returns-in_ok-close_at_the_end-in-Closed-clause-grown : goal.returns-in_ok-close_at_the_end-in-Closed-clause-grown
returns-in_ok-close_at_the_end-in-Closed-clause-grown g c = grown_fed c.args.fabric.now c.close_at_the_end.new.fabric _ _ _ c.requires.running c.in_ok-close_at_the_end-in-Closed.ensures.ok

pub returns-in_ok-close_at_the_end-in-Closed-clause-fed : goal.returns-in_ok-close_at_the_end-in-Closed-clause-fed
returns-in_ok-close_at_the_end-in-Closed-clause-fed g c =
    λ given closed due. end_fed c.args.fabric.now c.close_at_the_end.new.fabric c.args.fed _ _ given closed c.in-Closed.is due c.in_ok-close_at_the_end-in-Closed.ensures.ok

pub returns-in_ok-close_at_the_end-in-Closed-clause-over : goal.returns-in_ok-close_at_the_end-in-Closed-clause-over
returns-in_ok-close_at_the_end-in-Closed-clause-over g c =
    λ _. (c.in-Closed.is, end_last c.args.fabric.now c.close_at_the_end.new.fabric _ _ c.in_ok-close_at_the_end-in-Closed.ensures.ok)
