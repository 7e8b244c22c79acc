use Rattle.std.proofs.Common.{◌≡◌, List, ◌++◌, map, ap, ◌∙◌}
use Rattle.dn_model.specs.declared.event.Event.{Event}
use Rattle.dn_model.specs.declared.key.Key.{Key}
use Rattle.dn_queue.proofs.Todos.{keys_are}
use Rattle.dn_queue.proofs.todo.Todo.keys.Goals as goal

pub returns : goal.returns
returns c =
    let again = c.self.inside.again in
    let added : map {A = Event} {B = Key} (λ e. e.key) c.as_slice.result.now ≡ map {A = Event} {B = Key} (λ e. e.key) again = ap (λ (l : List Event). map {A = Event} {B = Key} (λ e. e.key) l) c.as_slice.ensures in
    keys_are c.self.inside.first.keys again c.push_keys.new.keys.items c.sort.new.self.items
    (c.in_ok-push_keys.ensures ∙ (λ i. c.in_ok-keys.ensures i ++ added i))
    c.in_ok-sort.ensures.permutation c.in_ok-sort.ensures.sorted
    ∙ ap (λ (l : List Event). map {A = Event} {B = Key} (λ e. e.key) l) c.self.view_is
