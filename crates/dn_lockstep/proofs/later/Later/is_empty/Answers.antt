use Rattle.std.proofs.Common.{sym, ◌∙◌}
use Rattle.dn_lockstep.proofs.Buckets.{no_bucket, no_events}
use Rattle.dn_lockstep.proofs.later.Later.is_empty.Goals as goal

pub returns : goal.returns
returns c =
    let es = c.self.inside.buckets.entries in (
      λ h. sym c.self.view_is ∙ no_events es (c.is_empty.ensures.0 h),
      λ none. c.is_empty.ensures.1 (no_bucket es c.self.invariant (c.self.view_is ∙ none)),
    )
