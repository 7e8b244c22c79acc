use Rattle.dn_turn.proofs.Keeps.{opens}
use Rattle.dn_turn.proofs.turn.Turn.new.Goals as goal

pub new-requires : goal.new-requires
new-requires g c = rw (c.in_ok-push.ensures.items, c.new-slots.ensures.items, c.of-about.ensures) (opens g.V.Kept.header g.V.Kept.opening g.V.Kept.log c.args.value)
