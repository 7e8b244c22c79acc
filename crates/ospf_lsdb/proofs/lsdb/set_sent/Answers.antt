use Rattle.std.proofs.Common.{sym, ◌∙◌}
use Rattle.ospf_lsdb.specs.Kept.{sent_at}
use Rattle.ospf_lsdb.proofs.DatabaseLaws.{set_changed, not_changed}
use Rattle.ospf_lsdb.proofs.lsdb.set_sent.Goals as goal

pub returns-in-Some : goal.returns-in-Some
returns-in-Some c =
    let db = c.args.kept.now.entries in
    let key = c.args.key.now in
    (c.get_mut.follows.holds (sent_at c.args.now c.in-Some.one.now)).0 ∙ set_changed db key (sent_at c.args.now) c.in-Some.one.now (sym c.in-Some.ensures.value)

pub returns-in_default : goal.returns-in_default
returns-in_default c =
    rw c.get_mut.follows.holds-at-none (sym (not_changed c.args.kept.now.entries c.args.key.now (sent_at c.args.now) (sym c.in_default.ensures.value)))
