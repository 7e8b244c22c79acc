-- The order that a router gives.
use Rattle.std.proofs.Common.{◌≡◌, ℕ, ◌<◌, List, [], ◌∷◌, ◌++◌, length, take, drop, refl, sym, ap, ◌∙◌, arith}
use Rattle.std.specs.Prelude.{Some, slice_get}
use Rattle.dn_guest.specs.declared.node.Node.{Node}
use Rattle.dn_guest.specs.declared.node.Sent.{Sent}
use Rattle.dn_guest.specs.Meaning.{Meaning}
use Rattle.dn_guest.specs.Node.{node_after, node_sent}
use Rattle.dn_model.specs.declared.event.Event.{Event}
use Rattle.dn_model.specs.Network.{emitted_by}
use Rattle.dn_world.specs.World.{Part}
use Rattle.dn_router.specs.Replays.{node_over, last_sent, emitted_at}
use Rattle.dn_router.specs.Orders.{Task}
use Rattle.dn_router.specs.Routers.{Speculation, order_of, node_of, emits_first, emits_next}
use Rattle.dn_router.proofs.Replays.{none_from, node_append}
use Rattle.dn_router.proofs.Sound.{beside}

pub first_alone : (todo : List Event) (e : Event) → Some e ≡ slice_get todo 0 → take 1 todo ≡ e ∷ []
first_alone [] e h = absurd (cc)
first_alone (x ∷ xs) e h = let same : e ≡ x = cc in ap (λ z. z ∷ []) (sym same)

pub first_rest : (todo : List Event) (e : Event) → Some e ≡ slice_get todo 0 → todo ≡ e ∷ drop 1 todo
first_rest [] e h = absurd (cc)
first_rest (x ∷ xs) e h = let same : e ≡ x = cc in ap (λ z. z ∷ xs) (sym same)

pub first_of : (todo : List Event) → 0 < length todo → (e : Event) × (Some e ≡ slice_get todo 0)
first_of [] l = absurd (omega (arith, l))
first_of (x ∷ xs) l = (x, refl)

take_whole : (xs : List Event) → take (length xs) xs ≡ xs
take_whole [] = refl
take_whole (x ∷ xs) = ap (λ l. x ∷ l) (take_whole xs)

module _ {S : Type 0} (guests : Meaning S) where
  -- the order by its parts
  pub order_parts : (s : Speculation S) (router place : ℕ) (base : Node S) (inputs : List Event) (least : Event) → router ≡ s.number → place ≡ length s.part.done → base ≡ node_over guests s.opening s.part.done → Some least ≡ slice_get s.part.todo 0 → inputs ≡ drop place s.part.done ++ least ∷ [] → record { router = router; place = place; base = base; inputs = inputs } ≡ order_of guests s
  order_parts s router place base inputs least r p b first i =
      let on_base : base ≡ node_over guests s.opening (take (length s.part.done) s.part.done) = b ∙ ap (node_over guests s.opening) (sym (take_whole s.part.done)) in
      let on_inputs : inputs ≡ drop (length s.part.done) s.part.done ++ take 1 s.part.todo = i ∙ (λ j. drop (p j) s.part.done ++ sym (first_alone s.part.todo least first) j) in
      λ j. record { router = r j; place = p j; base = on_base j; inputs = on_inputs j }

  -- and back
  pub order_base : (s : Speculation S) → (order_of guests s).base ≡ node_over guests s.opening s.part.done
  order_base s = ap (node_over guests s.opening) (take_whole s.part.done)

  pub order_inputs : (s : Speculation S) → (order_of guests s).inputs ≡ take 1 s.part.todo
  order_inputs s = ap (λ l. l ++ take 1 s.part.todo) (none_from s.part.done (length s.part.done) (omega arith))

  -- the node and the outputs of the outcome of that order
  pub outcome_node : (s : Speculation S) (task : Task S) (node : Node S) → task ≡ order_of guests s → node ≡ node_over guests task.base task.inputs → node ≡ node_over guests (node_of guests s) (take 1 s.part.todo)
  outcome_node s task node is h =
      h ∙ ap (λ t. node_over guests t.base t.inputs) is ∙ (λ i. node_over guests (order_base s i) (order_inputs s i))

  pub outcome_sent : (s : Speculation S) (task : Task S) (sent : List Sent) → task ≡ order_of guests s → sent ≡ last_sent guests task.base [] task.inputs → sent ≡ last_sent guests (node_of guests s) [] (take 1 s.part.todo)
  outcome_sent s task sent is h =
      h ∙ ap (λ t. last_sent guests t.base [] t.inputs) is ∙ (λ i. last_sent guests (order_base s i) [] (order_inputs s i))

  -- what one event leads to
  pub node_one : (node : Node S) (e : Event) → node_over guests node (e ∷ []) ≡ node_after guests node e.input
  unfolding node_over
  node_one node e = refl

  pub sent_one : (node : Node S) (e : Event) → last_sent guests node [] (e ∷ []) ≡ node_sent guests node e.input
  unfolding last_sent
  sent_one node e = refl

-- ---- handling

-- the part after handling, from its lists
pub handled_is : (done : List Event) (q r : Part) (new : List Event) (e : Event) → Some e ≡ slice_get q.todo 0 → r ≡ record q { todo = drop 1 q.todo } → new ≡ done ++ take 1 q.todo → beside new r ≡ record (beside done q) { done = done ++ e ∷ []; todo = drop 1 q.todo }
handled_is done q r new e first rest more =
    let all : new ≡ done ++ e ∷ [] = more ∙ ap (λ l. done ++ l) (first_alone q.todo e first) in
    λ i. beside (all i) (rest i)

emits_first_is : {S : Type 0} → (guests : Meaning S) (s : Speculation S) (todo : List Event) (e : Event) → Some e ≡ slice_get todo 0 → emits_first guests s todo ≡ emitted_at guests s.timing s.ends (node_of guests s) e
emits_first_is guests s [] e h = absurd (cc)
emits_first_is guests s (x ∷ xs) e h = let same : e ≡ x = cc in ap (emitted_at guests s.timing s.ends (node_of guests s)) (sym same)

-- what handling emits
pub emits_is : {S : Type 0} → (guests : Meaning S) (s : Speculation S) (e : Event) (sent : List Sent) (events : List Event) → Some e ≡ slice_get s.part.todo 0 → sent ≡ last_sent guests (node_of guests s) [] (take 1 s.part.todo) → events ≡ emitted_by s.timing s.ends e sent → events ≡ emits_next guests s
emits_is guests s e sent events first h is =
    let one : sent ≡ node_sent guests (node_of guests s) e.input = h ∙ ap (last_sent guests (node_of guests s) []) (first_alone s.part.todo e first) ∙ sent_one guests (node_of guests s) e in
    is ∙ ap (emitted_by s.timing s.ends e) one ∙ sym (emits_first_is guests s s.part.todo e first)

-- the node after handling
pub node_is : {S : Type 0} → (guests : Meaning S) (opening : Node S) (done todo : List Event) (e : Event) (node : Node S) → Some e ≡ slice_get todo 0 → node ≡ node_over guests (node_over guests opening done) (take 1 todo) → node ≡ node_over guests opening (done ++ e ∷ [])
node_is guests opening done todo e node first h =
    h ∙ ap (node_over guests (node_over guests opening done)) (first_alone todo e first) ∙ sym (node_append guests opening done (e ∷ []))
