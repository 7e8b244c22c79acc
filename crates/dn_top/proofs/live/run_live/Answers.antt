use Rattle.dn_top.proofs.LiveAnswering.{heard_promise}
use Rattle.dn_top.proofs.live.run_live.Goals as goal

pub returns-in-Ok-hear : goal.returns-in-Ok-hear
returns-in-Ok-hear g c = rw c.behind.ensures (
    heard_promise c.args.options _ _ _ _ _ _ _ _ _ c.in-Ok.ensures.head c.in-Ok.ensures.later _ _ _ c.in-Ok-hear.ensures.heard c.write_threaded-written.ensures.run _ c.write_threaded-written.ensures.answers c.write_threaded-written.ensures.fault)
