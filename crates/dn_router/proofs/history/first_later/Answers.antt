use Rattle.dn_router.proofs.Until.{later_first, later_none}
use Rattle.dn_router.proofs.history.first_later.Goals as goal

pub returns-in-Some : goal.returns-in-Some
returns-in-Some c =
    later_first c.args.queue.now.todo c.args.done.now c.place_after.result c.in-Some.event.now c.in-Some.ensures c.place_after.ensures.within c.place_after.ensures.split

pub returns-in-None : goal.returns-in-None
returns-in-None c = later_none c.args.queue.now.todo c.args.done.now c.in-None.ensures
