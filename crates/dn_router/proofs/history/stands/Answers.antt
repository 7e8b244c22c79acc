use Rattle.std.proofs.Common.{◌∙◌}
use Rattle.dn_router.proofs.Until.{found_stands}
use Rattle.dn_router.proofs.history.stands.Goals as goal

pub returns : goal.returns
returns c = c.is_some.ensures ∙ found_stands c.args.event.now c.args.done.now c.find.result c.find.ensures.found c.find.ensures.none
