use Rattle.std.proofs.Common.{◌≡◌, false, sym, ap, ◌∙◌, subst}
use Rattle.std.specs.Prelude.{Some}
use Rattle.std.specs.List.Sorted.{IsSorted}
use Rattle.dn_model.specs.Order.{event_cmp}
use Rattle.dn_world.specs.World.{stands, without}
use Rattle.dn_world.proofs.Parts.{without_none}
use Rattle.dn_queue.specs.Places.{IsFirst}
use Rattle.dn_queue.proofs.Places.{take_at, stands_at, got_is}
use Rattle.dn_queue.proofs.Counts.{without_sorted}
use Rattle.dn_queue.proofs.ordered.Ordered.take.Goals as goal

first : (c : goal.After-remove) → IsFirst c.args.event.now c.self.inside.events.items c.in-Some.place
first c = rw c.as_slice.ensures.value at c.in-Some.ensures.found

rest_is : (c : goal.After-remove) → c.remove.new.self.items ≡ without c.args.event.now c.self.inside.events.items
rest_is c = c.remove.ensures.items ∙ take_at c.args.event.now c.self.inside.events.items c.in-Some.place (first c)

pub invariant_of-self : goal.invariant_of-self
invariant_of-self c = subst (IsSorted event_cmp) (sym (rest_is c)) (without_sorted c.args.event.now c.self.inside.events.items c.self.invariant)

pub returns-in-Some-clause-same : goal.returns-in-Some-clause-same
returns-in-Some-clause-same c =
    let xs = c.self.inside.events.items in
    let x = c.remove.result in
    let f = first c in
    let got : Some x ≡ Some c.args.event.now = sym (got_is xs c.in-Some.place x f.within c.remove.ensures.value) ∙ f.here in
    cc

pub returns-in-Some-clause-stands : goal.returns-in-Some-clause-stands
returns-in-Some-clause-stands c =
    sym (stands_at c.args.event.now c.self.inside.events.items c.in-Some.place (first c)) ∙ ap (stands c.args.event.now) c.self.view_is

pub returns-in-Some-clause-rest : goal.returns-in-Some-clause-rest
returns-in-Some-clause-rest c = rest_is c ∙ ap (without c.args.event.now) c.self.view_is

pub returns-in-None-clause-rest : goal.returns-in-None-clause-rest
returns-in-None-clause-rest c =
    let absent : stands c.args.event.now c.args.self.now ≡ false = ap (stands c.args.event.now) (sym c.self.view_is ∙ sym c.as_slice.ensures.value) ∙ c.in-None.ensures.none in
    sym (without_none c.args.event.now c.args.self.now absent)
