use Rattle.std.proofs.Common.{◌≡◌, true, false, List, sym, ap, ◌∙◌, subst}
use Rattle.std.specs.List.Sorted.{IsStrictlySortedBy}
use Rattle.dn_lists.specs.InOrder.{put_in_order}
use Rattle.dn_model.specs.declared.event.Event.{Event}
use Rattle.dn_model.specs.Order.{event_cmp}
use Rattle.dn_world.specs.World.{stands}
use Rattle.dn_queue.specs.Todos.{all_todo, IsFronted}
use Rattle.dn_queue.proofs.Todos.{fronted_again, fronted_new, one_again, one_new}
use Rattle.dn_queue.proofs.Answers.{by_result, on_ok, on_err}
use Rattle.dn_queue.proofs.todo.Todo.put.Goals as goal

there : (c : goal.After-put) → stands c.args.event c.self.inside.first.keys ≡ true
unfolding stands
there c = sym c.contains.ensures ∙ c.if-contains.true

pub invariant_of-self : goal.invariant_of-self
invariant_of-self c =
    let first = c.self.inside.first.keys in
    by_result c.put.result c.put.ensures.ok c.put.ensures.err
    (λ h. subst (IsFronted first) (sym h) (fronted_again c.args.event first c.self.inside.again (there c) c.self.invariant))
    (λ h. subst (IsFronted first) (sym h) c.self.invariant)

pub returns-then-contains-clause-ok : goal.returns-then-contains-clause-ok
returns-then-contains-clause-ok c =
    let first = c.self.inside.first.keys in
    on_ok c.put.result c.put.ensures.ok
    (λ h. ap (all_todo first) h ∙ one_again c.args.event first c.self.inside.again ∙ ap (put_in_order event_cmp c.args.event) c.self.view_is)

pub returns-then-contains-clause-err : goal.returns-then-contains-clause-err
returns-then-contains-clause-err c =
    on_err c.put.result c.put.ensures.err (λ h. ap (all_todo c.self.inside.first.keys) h ∙ c.self.view_is)

away : (c : goal.In_ok-insert) → stands c.args.event c.self.inside.first.keys ≡ false
unfolding stands
away c = sym c.contains.ensures ∙ c.if-contains.false

pub invariant_of-self-2 : goal.invariant_of-self-2
invariant_of-self-2 c =
    let first = c.self.inside.first.keys in
    let again = c.self.inside.again in
    let keys = c.in_ok-insert.ensures.keys in
    let up = subst (IsStrictlySortedBy event_cmp) keys c.in_ok-insert.ensures.ordered in
    subst (λ (l : List Event). IsFronted l again) (sym keys) (fronted_new c.args.event first again (away c) c.self.invariant up)

pub returns-clause-ok : goal.returns-clause-ok
returns-clause-ok c =
    let first = c.self.inside.first.keys in
    let again = c.self.inside.again in
    ap (λ (l : List Event). all_todo l again) c.in_ok-insert.ensures.keys
    ∙ one_new c.args.event first again (away c)
    ∙ ap (put_in_order event_cmp c.args.event) c.self.view_is
