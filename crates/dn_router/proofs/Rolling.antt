-- What a rollback leaves.
use Rattle.std.proofs.Common.{◌≡◌, ℕ, ◌≤◌, List, ◌++◌, length, take, drop, refl, sym, ap, ◌∙◌, subst, arith}
use Rattle.dn_guest.specs.declared.node.Node.{Node}
use Rattle.dn_guest.specs.Meaning.{Meaning}
use Rattle.dn_model.specs.declared.event.Event.{Event}
use Rattle.dn_model.specs.declared.key.Key.{Key}
use Rattle.dn_world.specs.World.{Part, with_todo}
use Rattle.dn_world.specs.Steps.{until, since, is_wrong}
use Rattle.dn_ckpt.specs.Shelves.{kept_from, kept_up_to}
use Rattle.dn_router.specs.Replays.{node_over, nodes_over, emitted_over}
use Rattle.dn_router.specs.Routers.{Speculation, rolled_back, staying, taken_back, unsent}
use Rattle.dn_router.specs.Sound.{IsSound}
use Rattle.dn_router.proofs.Until.{until_same, until_short, take_until, drop_until}
use Rattle.dn_router.proofs.Kept.{cut_from}
use Rattle.dn_router.proofs.Replays.{kept_cut}
use Rattle.dn_router.proofs.Sound.{beside, todo_beside, sound_rolled, stay_reached}

wrong_beside : (done : List Event) (q : Part) (e : Event) → is_wrong q e ≡ is_wrong (beside done q) e
unfolding is_wrong
wrong_beside done q e = refl

-- the place of the first wrong entry
pub place_is : (done : List Event) (q : Part) (place : ℕ) → place ≡ length (until (is_wrong q) done) → place ≡ length (staying (beside done q))
place_is done q place h = h ∙ ap length (until_same (is_wrong q) (is_wrong (beside done q)) done (wrong_beside done q))

pub place_short : (done : List Event) (q : Part) (place : ℕ) → place ≡ length (until (is_wrong q) done) → place ≤ length done
place_short done q place h = let s = until_short (is_wrong q) done in omega (arith, h, s)

pub front_is : (done : List Event) (q : Part) (place : ℕ) → place ≡ length (until (is_wrong q) done) → take place done ≡ staying (beside done q)
front_is done q place h = ap (λ n. take n done) (place_is done q place h) ∙ take_until (is_wrong (beside done q)) done

pub back_is : (done : List Event) (q : Part) (place : ℕ) → place ≡ length (until (is_wrong q) done) → drop place done ≡ taken_back (beside done q)
back_is done q place h = ap (λ n. drop n done) (place_is done q place h) ∙ drop_until (is_wrong (beside done q)) done

-- the part after a front of the events has come back
pub part_is : (done : List Event) (q after : Part) (place : ℕ) (left came : List Event) → place ≡ length (until (is_wrong q) done) → left ≡ take place done → after ≡ with_todo came q → beside left after ≡ with_todo came (beside (staying (beside done q)) (beside done q))
part_is done q after place left came h l a =
    (λ i. beside ((l ∙ front_is done q place h) i) (a i)) ∙ sym (todo_beside came (staying (beside done q)) q)

-- the part after all have
pub rolled_is : (done : List Event) (q after : Part) (place : ℕ) (left taken : List Event) → place ≡ length (until (is_wrong q) done) → left ≡ take place done → taken ≡ drop place done → after ≡ with_todo taken q → beside left after ≡ rolled_back (beside done q)
rolled_is done q after place left taken h l t a =
    part_is done q after place left taken h l a
    ∙ ap (λ es. with_todo es (beside (staying (beside done q)) (beside done q))) (t ∙ back_is done q place h)

module _ {S : Type 0} (guests : Meaning S) where
  -- a node is kept for the entries before the first wrong one
  pub place_reached : (number period : ℕ) (opening : Node S) (done : List Event) (q : Part) (place : ℕ) (shelf : List (ℕ × Node S)) (w c : ℕ) (bound : Key) → IsSound guests number period opening (beside done q) shelf w c bound → place ≡ length (until (is_wrong q) done) → c ≤ place
  place_reached number period opening done q place shelf w c bound s h =
      let stay = stay_reached guests number period opening (beside done q) shelf w c bound s in
      let is = place_is done q place h in
      omega (arith, stay, is)

  pub sound_after : (number period : ℕ) (opening : Node S) (done : List Event) (q after : Part) (place : ℕ) (left taken came lost : List Event) (shelf cut : List (ℕ × Node S)) (w c : ℕ) (bound : Key) → IsSound guests number period opening (beside done q) shelf w c bound → place ≡ length (until (is_wrong q) done) → left ≡ take place done → taken ≡ drop place done → taken ≡ came ++ lost → after ≡ with_todo came q → cut ≡ kept_up_to place shelf → IsSound guests number period opening (beside left after) cut 0 c bound
  sound_after number period opening done q after place left taken came lost shelf cut w c bound s h l t parts a k =
      let p = beside done q in
      let off : since (is_wrong p) p.done ≡ came ++ lost = sym (back_is done q place h) ∙ sym t ∙ parts in
      let sound = sound_rolled guests number period opening p came lost shelf w c bound s off in
      let nodes = nodes_over guests 0 opening (staying p) in
      let front : kept_up_to place (nodes_over guests 0 opening done) ≡ nodes =
      kept_cut guests 0 opening done place place (omega arith) (place_short done q place h)
      ∙ ap (nodes_over guests 0 opening) (front_is done q place h) in
      let kept : cut ≡ kept_from c nodes =
      k ∙ ap (kept_up_to place) s.kept ∙ cut_from c place (nodes_over guests 0 opening done) ∙ ap (kept_from c) front in
      let on_part = subst (λ (x : Part). IsSound guests number period opening x (kept_from c nodes) 0 c bound) (sym (part_is done q after place left came h l a)) sound in
      subst (λ (x : List (ℕ × Node S)). IsSound guests number period opening (beside left after) x 0 c bound) (sym kept) on_part

  -- what is unsent
  pub unsent_is : (s : Speculation S) (done : List Event) (q : Part) (place : ℕ) (node : Node S) (off events : List Event) → s.part ≡ beside done q → place ≡ length (until (is_wrong q) done) → node ≡ node_over guests s.opening (take place done) → off ≡ drop place done → events ≡ emitted_over guests s.timing s.ends node off → events ≡ unsent guests s
  unsent_is s done q place node off events part h n o is =
      is
      ∙ (λ i. emitted_over guests s.timing s.ends ((n ∙ ap (node_over guests s.opening) (front_is done q place h)) i) ((o ∙ back_is done q place h) i))
      ∙ ap (λ p. emitted_over guests s.timing s.ends (node_over guests s.opening (staying p)) (taken_back p)) (sym part)
