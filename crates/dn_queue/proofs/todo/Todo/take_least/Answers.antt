use Rattle.std.proofs.Common.{◌≡◌, false, List, [], ◌∷◌, drop, sym, ap, ◌∙◌, subst}
use Rattle.std.specs.Prelude.{Some, slice_get, is_some}
use Rattle.dn_model.specs.declared.event.Event.{Event}
use Rattle.dn_world.specs.World.{stands}
use Rattle.dn_world.proofs.Parts.{without_none}
use Rattle.dn_queue.specs.Todos.{all_todo, IsFronted}
use Rattle.dn_queue.proofs.Todos.{fronted_again_less, fronted_first, first_is, least_is, least_again, least_first, nothing_first, popped}
use Rattle.dn_queue.proofs.todo.Todo.take_least.Goals as goal

-- nothing is there

empty : (c : goal.After-from_residual) → c.args.self.now ≡ []
empty c = sym c.self.view_is ∙ nothing_first c.self.inside.first.keys c.self.inside.again c.self.invariant c.in_err-least.ensures.variant.1

pub returns-in_err-least-clause-least : goal.returns-in_err-least-clause-least
returns-in_err-least-clause-least c = c.from_residual.ensures ∙ ap (λ (l : List Event). slice_get l 0) (sym (empty c))

pub returns-in_err-least-clause-rest : goal.returns-in_err-least-clause-rest
returns-in_err-least-clause-rest c = empty c ∙ ap (λ (l : List Event). drop 1 l) (sym (empty c))

-- it stands there again

split : (c : goal.In-Some) → c.self.inside.first.keys ≡ c.in_ok-least.least.now ∷ drop 1 c.self.inside.first.keys
split c = first_is c.self.inside.first.keys c.in_ok-least.least.now c.in_ok-least.ensures.first

fronted : (c : goal.In-Some) → IsFronted (c.in_ok-least.least.now ∷ drop 1 c.self.inside.first.keys) c.self.inside.again
fronted c = subst (λ (l : List Event). IsFronted l c.self.inside.again) (split c) c.self.invariant

pub invariant_of-self : goal.invariant_of-self
invariant_of-self c =
    subst (IsFronted c.self.inside.first.keys) (sym c.in-Some.ensures.rest) (fronted_again_less c.in_ok-least.least.now c.self.inside.first.keys c.self.inside.again c.self.invariant)

pub returns-in-Some-clause-least : goal.returns-in-Some-clause-least
returns-in-Some-clause-least c =
    let k = c.in_ok-least.least.now in
    let ks = drop 1 c.self.inside.first.keys in
    let again = c.self.inside.again in
    let view : all_todo (k ∷ ks) again ≡ c.args.self.now = ap (λ (l : List Event). all_todo l again) (sym (split c)) ∙ c.self.view_is in
    ap Some c.in-Some.ensures.same ∙ ap (λ (l : List Event). slice_get l 0) (sym (least_is k ks again (fronted c)) ∙ view)

pub returns-in-Some-clause-rest : goal.returns-in-Some-clause-rest
returns-in-Some-clause-rest c =
    let k = c.in_ok-least.least.now in
    let ks = drop 1 c.self.inside.first.keys in
    let again = c.self.inside.again in
    let view : all_todo (k ∷ ks) again ≡ c.args.self.now = ap (λ (l : List Event). all_todo l again) (sym (split c)) ∙ c.self.view_is in
    (λ i. all_todo (split c i) (c.in-Some.ensures.rest i))
    ∙ least_again k ks again (fronted c) (sym c.in-Some.ensures.stands)
    ∙ ap (λ (l : List Event). drop 1 l) view

-- it stands there once

away : (c : goal.After-pop_first) → stands c.in_ok-least.least.now c.self.inside.again ≡ false
away c = sym c.take.ensures.stands ∙ ap is_some c.in_default.is

again_is : (c : goal.After-pop_first) → c.take.new.self ≡ c.self.inside.again
again_is c = c.take.ensures.rest ∙ without_none c.in_ok-least.least.now c.self.inside.again (away c)

taken : (c : goal.After-pop_first) → (c.pop_first.result ≡ Some c.in_ok-least.least.now) × (c.self.inside.first.keys ≡ c.in_ok-least.least.now ∷ c.pop_first.new.self.keys)
taken c = popped c.self.inside.first.keys c.pop_first.new.self.keys c.in_ok-least.least.now c.pop_first.result c.in_ok-least.ensures.first c.pop_first.ensures.variant c.pop_first.ensures.removal

fronted_once : (c : goal.After-pop_first) → IsFronted (c.in_ok-least.least.now ∷ c.pop_first.new.self.keys) c.self.inside.again
fronted_once c = subst (λ (l : List Event). IsFronted l c.self.inside.again) (taken c).1 c.self.invariant

view_once : (c : goal.After-pop_first) → all_todo (c.in_ok-least.least.now ∷ c.pop_first.new.self.keys) c.self.inside.again ≡ c.args.self.now
view_once c = ap (λ (l : List Event). all_todo l c.self.inside.again) (sym (taken c).1) ∙ c.self.view_is

pub invariant_of-self-2 : goal.invariant_of-self-2
invariant_of-self-2 c =
    let k = c.in_ok-least.least.now in
    let ks = c.pop_first.new.self.keys in
    subst (IsFronted ks) (sym (again_is c)) (fronted_first k ks c.self.inside.again (fronted_once c) (away c) c.pop_first.ensures.ordered)

pub returns-clause-least : goal.returns-clause-least
returns-clause-least c =
    let k = c.in_ok-least.least.now in
    let ks = c.pop_first.new.self.keys in
    (taken c).0 ∙ ap (λ (l : List Event). slice_get l 0) (sym (least_is k ks c.self.inside.again (fronted_once c)) ∙ view_once c)

pub returns-clause-rest : goal.returns-clause-rest
returns-clause-rest c =
    let k = c.in_ok-least.least.now in
    let ks = c.pop_first.new.self.keys in
    ap (all_todo ks) (again_is c) ∙ least_first k ks c.self.inside.again (fronted_once c) ∙ ap (λ (l : List Event). drop 1 l) (view_once c)
