use Rattle.std.specs.Prelude.{is_ok}
use Rattle.dn_fabric.proofs.Arrivals.{before_same, before_whole, marked}
use Rattle.dn_fabric.proofs.world.World.mark.Goals as goal

pub invariant_of-self : goal.invariant_of-self
invariant_of-self g c =
    let rs = c.self.inside.routers in
    before_whole c.self.inside.header rs rs c.self.inside.boundary c.self.inside.rows.items c.self.inside.cut c.self.inside.stopped c.marking.new.stopped (before_same rs)
    (marked (is_ok c.args.outcome) c.self.inside.stopped c.marking.new.stopped c.marking.ensures.mark) c.self.invariant
