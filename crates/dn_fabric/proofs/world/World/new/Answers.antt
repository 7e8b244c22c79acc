use Rattle.std.proofs.Common.{false, List, [], sym, ◌∙◌, subst}
use Rattle.dn_model.specs.declared.event.Event.{Event}
use Rattle.dn_model.specs.Cases.{Heading, IsHeading}
use Rattle.dn_world.specs.World.{key_of}
use Rattle.dn_router.specs.Routers.{Speculation}
use Rattle.dn_fabric.specs.Holds.{IsWhole}
use Rattle.dn_fabric.proofs.Arrivals.{opening_whole, seen, opened}
use Rattle.dn_fabric.proofs.world.World.new.Goals as goal

pub invariant_of-result : goal.invariant_of-result
invariant_of-result g c =
    let h = c.args.header in
    let rules = subst (λ (x : Heading). IsHeading x) c.header.view_is c.header.invariant in
    let whole = opening_whole h c.args.guests.items rules c.requires in
    let made = c.in_ok-routers.ensures ∙ c.in_ok-opening_routers.ensures in
    let on_routers = subst (λ (l : List (Speculation g.row.G.Denot)). IsWhole h l (key_of 0 0) [] false false) (sym made) whole in
    subst (λ (l : List Event). IsWhole h c.in_ok-routers.routers (key_of 0 0) l false false) (sym c.new-3.ensures.items) on_routers

pub returns : goal.returns
returns g c =
    let routers = c.in_ok-routers.ensures ∙ c.in_ok-opening_routers.ensures in
    let flight = c.new.ensures in
    let accepted = c.new-2.ensures.items in
    let rows = c.new-3.ensures.items in
    (λ i. seen c.args.header (routers i) (flight i) 0 false (accepted i) (key_of 0 0) (rows i) false false)
    ∙ opened c.args.header c.args.guests.items c.requires
