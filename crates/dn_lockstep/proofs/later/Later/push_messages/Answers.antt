use Rattle.std.proofs.Common.{List, ◌++◌, ap, ◌∙◌}
use Rattle.std.specs.List.{flat_map}
use Rattle.dn_model.specs.declared.event.Event.{Event}
use Rattle.dn_model.specs.SoFar.{by_router}
use Rattle.dn_lockstep.specs.Running.{messages}
use Rattle.dn_lockstep.proofs.Buckets.{messages_in_buckets}
use Rattle.dn_lockstep.proofs.later.Later.push_messages.Goals as goal

pub loop-bucket-init : goal.loop-bucket-init
loop-bucket-init c =
    let r = c.args.router in
    ap (λ (es : List Event). c.args.found.now.items ++ es)
    (ap (flat_map (λ (v : List Event). messages (by_router v r))) (c.into_iter-bucket-iterator.ensures.into_iter_gives ∙ c.values-bucket-items.ensures.rest)
    ∙ messages_in_buckets r c.self.inside.buckets.entries
    ∙ ap (λ (es : List Event). messages (by_router es r)) c.self.view_is)
