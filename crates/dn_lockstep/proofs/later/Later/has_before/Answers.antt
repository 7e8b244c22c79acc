use Rattle.std.proofs.Common.{◌<◌, List, sym, subst, ltb-true, lt-ltb}
use Rattle.dn_model.specs.declared.event.Event.{Event}
use Rattle.dn_lockstep.specs.Agendas.{count_before}
use Rattle.dn_lockstep.proofs.Buckets.{first_before}
use Rattle.dn_lockstep.proofs.later.Later.has_before.Goals as goal

pub returns-in-Some : goal.returns-in-Some
returns-in-Some c =
    let m = c.in-Some.moment.now in
    let group = c.args.group in
    let both = first_before m c.in-Some._bucket.now group c.self.inside.buckets.entries c.self.invariant c.in-Some.ensures.first in (
      λ h. subst (λ (es : List Event). 0 < count_before group es) c.self.view_is (both.0 (ltb-true m.group group h)),
      λ l. lt-ltb m.group group (both.1 (subst (λ (es : List Event). 0 < count_before group es) (sym c.self.view_is) l)),
    )
