use Rattle.std.proofs.Common.{◌≡◌, [], sym, ap, ◌∙◌, subst}
use Rattle.std.proofs.lemmas.Option.{IfSome_then}
use Rattle.dn_lockstep.specs.Least.{IsLeast}
use Rattle.dn_lockstep.specs.Queues.{queued_events}
use Rattle.dn_lockstep.proofs.Options.{if_none_then}
use Rattle.dn_lockstep.proofs.Buckets.{least_in_buckets, bucket_first}
use Rattle.dn_lockstep.proofs.later.Later.peek.Goals as goal

pub returns-clause-least : goal.returns-clause-least
returns-clause-least c =
    let first = c.in_ok-_moment in
    let same : queued_events c.as_slice.result.now ≡ first.bucket.now = ap queued_events c.as_slice.ensures.value ∙ c.bucket.view_is in
    IfSome_then c.least_of.result c.least_of.ensures.least
    (λ e least.
    subst (IsLeast e.now) c.self.view_is
    (least_in_buckets first._moment.now first.bucket.now c.self.inside.buckets.entries c.self.invariant first.ensures.first e.now (subst (IsLeast e.now) same least)))

pub returns-clause-none : goal.returns-clause-none
returns-clause-none c =
    let first = c.in_ok-_moment in
    let same : queued_events c.as_slice.result.now ≡ first.bucket.now = ap queued_events c.as_slice.ensures.value ∙ c.bucket.view_is in
    if_none_then c.least_of.result (c.as_slice.result.now ≡ []) (c.args.self.now ≡ []) c.least_of.ensures.none
    (λ none. absurd (bucket_first first._moment.now first.bucket.now c.self.inside.buckets.entries c.self.invariant first.ensures.first (sym same ∙ ap queued_events none)))
