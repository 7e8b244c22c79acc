use Rattle.std.proofs.Common.{ap, sym, ◌∙◌}
use Rattle.std.specs.Map.{set_value}
use Rattle.std.specs.BTreeMap.{is_at}
use Rattle.ospf_lsdb.specs.Keys.{key_cmp}
use Rattle.ospf_lsdb.specs.Kept.{with_max_age}
use Rattle.ospf_lsdb.proofs.DatabaseLaws.{set_changed, not_changed}
use Rattle.ospf_lsdb.proofs.lsdb.set_max_age_at.Goals as goal

pub returns-in-Some : goal.returns-in-Some
returns-in-Some c =
    let db = c.args.kept.now.entries in
    let key = c.args.key.now in
    (c.get_mut.follows.holds c.set_max_age.new.self).0 ∙ ap (set_value (is_at (key_cmp key)) db) c.set_max_age.ensures ∙ set_changed db key (with_max_age c.args.now) c.in-Some.one.now (sym c.in-Some.ensures.value)

pub returns-in_default : goal.returns-in_default
returns-in_default c =
    rw c.get_mut.follows.holds-at-none (sym (not_changed c.args.kept.now.entries c.args.key.now (with_max_age c.args.now) (sym c.in_default.ensures.value)))
