use Rattle.std.proofs.Common.{◌≡◌, true, false, List, sym, ap, ◌∙◌, subst}
use Rattle.std.specs.List.Sorted.{IsStrictlySortedBy}
use Rattle.dn_model.specs.declared.event.Event.{Event}
use Rattle.dn_model.specs.Order.{event_cmp}
use Rattle.dn_world.specs.World.{stands, without}
use Rattle.dn_world.proofs.Parts.{without_none}
use Rattle.dn_queue.specs.Todos.{all_todo, IsFronted}
use Rattle.dn_queue.proofs.Todos.{again_stands, again_less, fronted_again_less, first_stands, first_less, fronted_less, remove_is}
use Rattle.dn_queue.proofs.todo.Todo.take_out.Goals as goal

there : (c : goal.Then-is_some) → stands c.args.event.now c.self.inside.again ≡ true
there c = sym c.take.ensures.stands ∙ sym c.is_some.ensures ∙ c.if-is_some.true

pub invariant_of-self : goal.invariant_of-self
invariant_of-self c =
    subst (IsFronted c.self.inside.first.keys) (sym c.take.ensures.rest) (fronted_again_less c.args.event.now c.self.inside.first.keys c.self.inside.again c.self.invariant)

pub returns-then-is_some-clause-stands : goal.returns-then-is_some-clause-stands
returns-then-is_some-clause-stands c =
    sym (again_stands c.args.event.now c.self.inside.first.keys c.self.inside.again (there c)) ∙ ap (stands c.args.event.now) c.self.view_is

pub returns-then-is_some-clause-rest : goal.returns-then-is_some-clause-rest
returns-then-is_some-clause-rest c =
    ap (all_todo c.self.inside.first.keys) c.take.ensures.rest
    ∙ again_less c.args.event.now c.self.inside.first.keys c.self.inside.again (there c)
    ∙ ap (without c.args.event.now) c.self.view_is

away : (c : goal.After-remove) → stands c.args.event.now c.self.inside.again ≡ false
away c = sym c.take.ensures.stands ∙ sym c.is_some.ensures ∙ c.if-is_some.false

-- the list stays, since the event isn't there
again_is : (c : goal.After-remove) → c.take.new.self ≡ c.self.inside.again
again_is c = c.take.ensures.rest ∙ without_none c.args.event.now c.self.inside.again (away c)

first_is : (c : goal.After-remove) → c.remove.new.self.keys ≡ without c.args.event.now c.self.inside.first.keys
first_is c = c.remove.ensures.keys ∙ remove_is c.args.event.now c.self.inside.first.keys

pub invariant_of-self-2 : goal.invariant_of-self-2
invariant_of-self-2 c =
    let e = c.args.event.now in
    let first = c.self.inside.first.keys in
    let again = c.self.inside.again in
    let up = subst (IsStrictlySortedBy event_cmp) (first_is c) c.remove.ensures.ordered in
    let fronted = fronted_less e first again (away c) c.self.invariant up in
    subst (IsFronted c.remove.new.self.keys) (sym (again_is c)) (subst (λ (l : List Event). IsFronted l again) (sym (first_is c)) fronted)

pub returns-clause-stands : goal.returns-clause-stands
unfolding stands
returns-clause-stands c =
    c.remove.ensures.test
    ∙ first_stands c.args.event.now c.self.inside.first.keys c.self.inside.again (away c)
    ∙ ap (stands c.args.event.now) c.self.view_is

pub returns-clause-rest : goal.returns-clause-rest
returns-clause-rest c =
    (λ i. all_todo (first_is c i) (again_is c i))
    ∙ first_less c.args.event.now c.self.inside.first.keys c.self.inside.again (away c)
    ∙ ap (without c.args.event.now) c.self.view_is
