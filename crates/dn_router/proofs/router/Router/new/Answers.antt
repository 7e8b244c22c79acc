use Rattle.std.proofs.Common.{◌≡◌, ℕ, List, [], sym, ◌∙◌, subst}
use Rattle.dn_guest.specs.declared.node.Node.{Node}
use Rattle.dn_model.specs.declared.key.Key.{Key}
use Rattle.dn_world.specs.World.{Part, no_part}
use Rattle.dn_router.specs.Replays.{nodes_over}
use Rattle.dn_router.specs.Sound.{IsSound}
use Rattle.dn_router.proofs.Replays.{kept_nothing}
use Rattle.dn_router.proofs.Sound.{beside, sound_new}
use Rattle.dn_router.proofs.router.Router.new.Goals as goal

pub invariant_of-result : goal.invariant_of-result
invariant_of-result g c =
    let m = g.G.Guest.meaning in
    let zero : Key = record { group = 0; sum = 0; class = 0; tie = 0; origin = 0; seq = 0 } in
    let node = c.args.node in
    let fresh = sound_new m c.args.number c.args.timing.period node c.requires zero in
    let shelf : nodes_over m 0 node [] ≡ c.in_ok-shelf.shelf = kept_nothing m 0 node ∙ sym c.in_ok-shelf.ensures in
    let part : no_part ≡ beside c.new-2.result.items c.new-3.result = λ i. beside (sym c.new-2.ensures.items i) (sym c.new-3.ensures i) in
    let on_part = subst (λ (p : Part). IsSound m c.args.number c.args.timing.period node p (nodes_over m 0 node []) 0 0 zero) part fresh in
    let on_shelf = subst (λ (l : List (ℕ × Node g.row.G.Denot)). IsSound m c.args.number c.args.timing.period node (beside c.new-2.result.items c.new-3.result) l 0 0 zero) shelf on_part in
    subst (λ (o : Node g.row.G.Denot). IsSound m c.args.number c.args.timing.period o (beside c.new-2.result.items c.new-3.result) c.in_ok-shelf.shelf 0 0 zero) (sym c.in_ok-opening.ensures) on_shelf
