use Rattle.std.proofs.Common.{◌<◌, length, sym, ap, ◌∙◌, subst}
use Rattle.dn_ckpt.specs.Shelves.{kept_at}
use Rattle.dn_ckpt.proofs.Entries.{some_from}
use Rattle.dn_ckpt.proofs.shelf.Shelf.trim.Goals as goal

pub invariant_of-self : goal.invariant_of-self
invariant_of-self g c =
    let base = c.base_for-base.result.0 in
    let node = c.base_for-base.result.1.now in
    subst (λ n. 0 < n) (sym (ap length c.drop_before.ensures))
    (some_from base c.self.inside.kept.entries node (ap (λ kept. kept_at kept base) c.self.view_is ∙ c.base_for-base.ensures.node))
