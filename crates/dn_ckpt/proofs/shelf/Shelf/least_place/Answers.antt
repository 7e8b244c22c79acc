use Rattle.std.proofs.Common.{subst}
use Rattle.dn_ckpt.specs.Shelves.{HasBase}
use Rattle.dn_ckpt.proofs.Entries.{has_base}
use Rattle.dn_ckpt.proofs.shelf.Shelf.least_place.Goals as goal

pub returns-clause-base : goal.returns-clause-base
returns-clause-base g c =
    λ place l.
    subst (HasBase place) c.self.view_is
    (has_base place c.in-Some.at.now c.self.inside.kept.entries c.in-Some.field-0-1.now c.in-Some.ensures.first l)
