use Rattle.std.proofs.Common.{arith}
use Rattle.dn_top.proofs.LiveHeadLaws.{step_above, step_feed, step_last, step_refused}
use Rattle.dn_top.proofs.live_head.gather.Goals as goal

pub lines-preserved : goal.lines-preserved
lines-preserved g c = record {
  gathered = step_above _ _ _ _ _ _ _ _ c.lines.invariant.gathered _ c.in-Ok-Above.field-0-is c.in-Ok-Above.ensures.takes;
  later = omega (arith, c.lines.invariant.later, c.in-Ok-Above.ensures.later);
}

pub returns-in-Ok-Feed-clause-read : goal.returns-in-Ok-Feed-clause-read
returns-in-Ok-Feed-clause-read g c =
    step_feed _ _ _ _ _ _ _ _ c.lines.invariant.gathered _ c.in-Ok-Feed.field-0-is c.in-Ok-Feed.ensures.takes

pub returns-in-Ok-Last-clause-read : goal.returns-in-Ok-Last-clause-read
returns-in-Ok-Last-clause-read g c =
    step_last _ _ _ _ _ _ _ _ c.lines.invariant.gathered _ c.in-Ok-Last.field-0-is c.in-Ok-Last.ensures.takes

pub returns-in-Err-clause-refusal : goal.returns-in-Err-clause-refusal
returns-in-Err-clause-refusal g c =
    step_refused _ _ _ _ _ _ _ _ c.lines.invariant.gathered _ c.in-Err.ensures.takes
