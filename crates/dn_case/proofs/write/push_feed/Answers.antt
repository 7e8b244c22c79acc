use Rattle.std.proofs.Common.{◌≡◌, ap, ◌∙◌}
use Rattle.dn_model.specs.Cases.{Heading}
use Rattle.dn_case.proofs.Texts.{externals_inside}
use Rattle.dn_case.proofs.write.push_feed.Goals as goal

pub push_externals-requires : goal.push_externals-requires
push_externals-requires c =
    let rs : c.as_slice.result.now ≡ c.args.header.now.routers = c.as_slice.ensures ∙ ap (λ (x : Heading). x.routers) c.header.view_is in
    rw (rs, c.as_slice-2.ensures) (externals_inside c.args.header.now 0 c.args.feed.now c.requires)
