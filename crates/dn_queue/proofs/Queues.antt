-- What waits, after an event or an unsend has come.
use Rattle.std.proofs.Common.{◌≡◌, true, false, List, [], ◌∷◌, ◌++◌, drop, sym, ap, ◌∙◌, arith}
use Rattle.std.specs.List.Sorted.{IsSorted}
use Rattle.dn_lists.specs.InOrder.{put_in_order}
use Rattle.dn_lists.proofs.Lists.{all_weaker}
use Rattle.dn_lists.proofs.Sorting.{count_append, rises_from_sorted, sorted_from_rises}
use Rattle.dn_model.specs.declared.event.Event.{Event}
use Rattle.dn_model.specs.Order.{event_cmp, event_total}
use Rattle.dn_world.specs.World.{Part, no_part, is_same, stands, without, with_todo, with_void}
use Rattle.dn_world.specs.Runs.{IsTidy}
use Rattle.dn_world.proofs.Parts.{count_todo, todo_done}
use Rattle.dn_world.proofs.Tidy.{todo_tidy, todo_cancels, todo_stays, void_cancels_one, void_stays}
use Rattle.dn_world.proofs.Canonical.{tidy_same}
use Rattle.dn_queue.proofs.Counts.{absent_parts}

abbrev pub waits : List Event → List Event → Part
waits todo voids = record no_part { todo = todo; voids = voids }

pub todo_vanishes : (e : Event) (todo voids left : List Event) → IsTidy (waits todo voids) → stands e voids ≡ true → left ≡ without e voids → waits todo left ≡ with_todo (e ∷ []) (waits todo voids)
todo_vanishes e todo voids left t s h = ap (waits todo) h ∙ sym (todo_cancels e (waits todo voids) t s)

pub todo_comes : (e : Event) (todo voids more : List Event) → IsTidy (waits todo voids) → stands e voids ≡ false → more ≡ put_in_order event_cmp e todo → waits more voids ≡ with_todo (e ∷ []) (waits todo voids)
todo_comes e todo voids more t s h = ap (λ l. waits l voids) h ∙ sym (todo_stays e (waits todo voids) t s)

pub void_vanishes : (e : Event) (todo voids left : List Event) → IsTidy (waits todo voids) → stands e todo ≡ true → left ≡ without e todo → waits left voids ≡ with_void e (waits todo voids)
void_vanishes e todo voids left t s h = ap (λ l. waits l voids) h ∙ sym (void_cancels_one e (waits todo voids) t s)

pub void_comes : (e : Event) (todo voids more : List Event) → IsTidy (waits todo voids) → stands e todo ≡ false → more ≡ put_in_order event_cmp e voids → waits todo more ≡ with_void e (waits todo voids)
void_comes e todo voids more t s h = ap (waits todo) h ∙ sym (void_stays e (waits todo voids) t s)

-- one event more has come
pub one_more : (e : Event) (es : List Event) (p : Part) → IsTidy p → with_todo (e ∷ []) (with_todo es p) ≡ with_todo (es ++ e ∷ []) p
one_more e es p t =
    tidy_same (with_todo (e ∷ []) (with_todo es p)) (with_todo (es ++ e ∷ []) p)
    (todo_tidy (e ∷ []) (with_todo es p) (todo_tidy es p t)) (todo_tidy (es ++ e ∷ []) p t)
    (todo_done (e ∷ []) (with_todo es p) ∙ todo_done es p ∙ sym (todo_done (es ++ e ∷ []) p))
    (λ x.
    let a = count_todo (is_same x) (e ∷ []) (with_todo es p) in
    let b = count_todo (is_same x) es p in
    let c = count_todo (is_same x) (es ++ e ∷ []) p in
    let d = count_append (is_same x) es (e ∷ []) in
    omega (arith, a, b, c, d))

-- none have
pub none_come : (p : Part) → IsTidy p → p ≡ with_todo [] p
none_come p t =
    tidy_same p (with_todo [] p) t (todo_tidy [] p t) (sym (todo_done [] p))
    (λ x. let a = count_todo (is_same x) [] p in omega (arith, a))

-- the least has gone
sorted_rest : (xs : List Event) → IsSorted event_cmp xs → IsSorted event_cmp (drop 1 xs)
sorted_rest [] s = s
sorted_rest (x ∷ xs) s = sorted_from_rises event_cmp event_total xs (rises_from_sorted event_cmp event_total (x ∷ xs) s).1

absent_rest : (v : Event) (xs : List Event) → stands v xs ≡ false → stands v (drop 1 xs) ≡ false
absent_rest v [] h = h
absent_rest v (x ∷ xs) h = (absent_parts v x xs h).1

pub least_gone : (p : Part) → IsTidy p → IsTidy (record p { todo = drop 1 p.todo })
least_gone p t = record {
  todo = sorted_rest p.todo t.todo;
  voids = t.voids;
  apart = all_weaker (λ v. stands v p.todo ≡ false) (λ v. stands v (drop 1 p.todo) ≡ false) p.voids (λ v h. absent_rest v p.todo h) t.apart;
}
