use Rattle.std.proofs.Common.{sym, ap, ◌∙◌, length}
use Rattle.dn_fabric.specs.Rosters.{asked_by}
use Rattle.dn_fabric.proofs.Arrivals.{map_length}
use Rattle.dn_fabric.proofs.world.World.asked.Goals as goal

pub asked-requires-clause-leases : goal.asked-requires-clause-leases
asked-requires-clause-leases g c κs within =
    c.requires ∙ ap (λ l. length l.header.routers) (sym c.self.view_is) ∙ sym c.self.invariant.count

pub returns-clause-asked : goal.returns-clause-asked
returns-clause-asked g c = c.asked.ensures ∙ ap (λ l. asked_by l.world.parts c.args.leased.now) c.self.view_is

pub returns-clause-count : goal.returns-clause-count
returns-clause-count g c =
    ap (λ l. length l.world.parts) (sym c.self.view_is) ∙ map_length (λ r. r.part) c.self.inside.routers ∙ c.self.invariant.count ∙ ap (λ l. length l.header.routers) c.self.view_is
