use Rattle.std.proofs.Common.{◌≡◌, ◌∙◌}
use Rattle.guest_any.specs.Openings.{opening_guest}
use Rattle.dn_top.proofs.Networks.{one_more}
use Rattle.dn_top.proofs.written.made_guests.Goals as goal

pub loop-router-preserved : goal.loop-router-preserved
loop-router-preserved c =
    let made : c.in_ok-make.field-0 ≡ opening_guest c.args.header.now c.loop-router.router = c.in_ok-make.ensures in
    c.in_ok-push.ensures.items ∙ one_more c.args.header.now c.loop-router.router c.loop-router.guests.items c.in_ok-make.field-0 c.loop-router.invariant made
