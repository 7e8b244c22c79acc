use Rattle.std.proofs.Common.{List, ◌∷◌, sym, ap, ◌∙◌}
use Rattle.dn_model.specs.declared.event.Event.{Event}
use Rattle.dn_lockstep.proofs.Buckets.{first_up_to}
use Rattle.dn_lockstep.proofs.later.Later.take_first.Goals as goal

pub returns-clause-first : goal.returns-clause-first
returns-clause-first c =
    let first = c.in_ok-_moment in
    let rest = c.pop_first.new.self.entries in
    first_up_to c.self.inside.buckets.entries first._moment c.bucket.inside.queued.items rest c.self.invariant
    (first.ensures.removal ∙ ap (λ (v : List Event). (first._moment, v) ∷ rest) (sym c.bucket.view_is))
