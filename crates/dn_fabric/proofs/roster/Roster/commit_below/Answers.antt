use Rattle.std.proofs.Common.{sym, ap, ◌∙◌, subst, arith}
use Rattle.dn_fabric.specs.Commits.{AreAsHandled}
use Rattle.dn_fabric.specs.Rosters.{errands_of}
use Rattle.dn_fabric.proofs.Errands.{kept_handled}
use Rattle.dn_fabric.proofs.Whole.{back_is}
use Rattle.dn_fabric.proofs.roster.Roster.commit_below.Goals as goal

pub invariant_of-self : goal.invariant_of-self
invariant_of-self g c =
    let a = c.self.inside in
    let rs = a.routers.items in
    let now = c.commit_all.new.routers in
    let handled = subst (λ l. AreAsHandled l now) c.as_mut_slice.ensures.value c.commit_all.ensures.handled in
    let back = back_is now rs a.routers.len handled.count (omega (arith, a.routers.ok.0)) in
    c.self.invariant ∙ sym (kept_handled rs now handled) ∙ ap errands_of (sym back)
