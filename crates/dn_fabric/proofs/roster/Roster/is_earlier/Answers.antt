use Rattle.std.proofs.Common.{◌≡◌, sym, ap, ◌∙◌}
use Rattle.std.specs.Prelude.{Some, option_map}
use Rattle.dn_model.specs.declared.event.Event.{Event}
use Rattle.dn_fabric.proofs.Errands.{key_less, key_greater}
use Rattle.dn_fabric.proofs.roster.Roster.is_earlier.Goals as goal

pub returns-in-Less : goal.returns-in-Less
returns-in-Less g c = λ s t e x at other first second own.
    let is : Some c.in-Some.than ≡ Some x.key = sym c.in-Some.is ∙ ap (λ d. d.least) (c.errand.ensures t other) ∙ ap (option_map (λ (v : Event). v.key)) second in
    key_less (λ x y. c.order_of_events.ensures.parts x y) e x c.args.key.now c.in-Some.than own (cc) (sym c.cmp.ensures ∙ c.in-Less.is)

pub returns-in-Greater : goal.returns-in-Greater
returns-in-Greater g c = λ s t e x at other first second own.
    let is : Some c.in-Some.than ≡ Some x.key = sym c.in-Some.is ∙ ap (λ d. d.least) (c.errand.ensures t other) ∙ ap (option_map (λ (v : Event). v.key)) second in
    key_greater (λ x y. c.order_of_events.ensures.parts x y) e x c.args.key.now c.in-Some.than own (cc) (sym c.cmp.ensures ∙ c.in-Greater.is)
