use Rattle.std.proofs.Common.{◌≡◌, ◌-◌, length, None, Some, sym, ap, ◌∙◌, Option, rules}
use Rattle.std.specs.Prelude.{slice_get}
use Rattle.std.specs.Option.{option_map_or}
use Rattle.dn_model.specs.declared.feed.External.{External}
use Rattle.dn_case.proofs.FeedLaws.{last_group_is}
use Rattle.dn_case.proofs.external_lines.last_group.Goals as goal

pub returns-in-None : goal.returns-in-None
returns-in-None c =
    let none : None ≡ slice_get c.args.feed.now (length c.args.feed.now - 1) = search rules in
    ap (λ (o : Option External). option_map_or (λ x. x.group) o 0) none ∙ sym (last_group_is c.args.feed.now)

pub returns-in-Some : goal.returns-in-Some
returns-in-Some c =
    let some : Some c.in-Some.external.now ≡ slice_get c.args.feed.now (length c.args.feed.now - 1) = search rules in
    ap (λ (o : Option External). option_map_or (λ x. x.group) o 0) some ∙ sym (last_group_is c.args.feed.now)
