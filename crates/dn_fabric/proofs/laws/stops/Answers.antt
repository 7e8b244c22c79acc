use Rattle.std.proofs.Common.{[], ◌∷◌, ◌++◌, ap, ◌∙◌, sym}
use Rattle.dn_world.specs.declared.entry.Entry.TheVariants.{Stop}
use Rattle.dn_world.specs.Logs.{log_of}
use Rattle.dn_fabric.proofs.laws.stops.Goals as goal

pub returns : goal.returns
returns g c = λ before now running stopped.
    (λ i. log_of (stopped.journal i) (stopped.halted.stopped i)) ∙ c.logs.ensures.stop before.journal ∙ ap (λ b. log_of before.journal b ++ Stop ∷ []) (sym running)
