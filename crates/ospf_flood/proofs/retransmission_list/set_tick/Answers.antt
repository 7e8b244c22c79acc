use Rattle.std.proofs.Common.{sym}
use Rattle.ospf_flood.proofs.RetransmissionLaws.{set_none}
use Rattle.ospf_flood.proofs.retransmission_list.set_tick.Goals as goal

pub returns-in_default : goal.returns-in_default
returns-in_default c =
    rw c.get_mut.follows.holds-at-none (sym (set_none c.args.key.now c.args.tick c.args.sent.now.entries (sym c.in_default.ensures.value)))
