use Rattle.std.proofs.Common.{◌≡◌, sym, ap, ◌∙◌, Decides}
use Rattle.std.specs.Ordering.{is_eq}
use Rattle.std.proofs.lemmas.Slice.Eq.{slice_eq-Decides}
use Rattle.dn_model.specs.declared.event.Event.{Event}
use Rattle.dn_model.specs.Order.{event_cmp}
use Rattle.dn_world.specs.World.{is_same}
use Rattle.dn_world.proofs.Parts.{same_is, same_itself}
use Rattle.dn_router.proofs.history.are_same.Goals as goal

decides : (a b : Event) → Decides (is_eq (event_cmp a b)) (a ≡ b)
decides a b = (same_is a b, λ e. ap (is_same a) (sym e) ∙ same_itself a)

pub returns : goal.returns
returns c = slice_eq-Decides decides c.args.events.now c.args.others.now c.eq.result c.eq.ensures
