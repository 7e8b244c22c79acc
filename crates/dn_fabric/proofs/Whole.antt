-- What holds of a world's routers after a call at one of them, or at all, and the world as plain data.
use Rattle.std.proofs.Common.{◌≡◌, ℕ, zero, suc, ◌-◌, ◌^◌, ◌<◌, ◌≤◌, Bool, true, false, if◌then◌else◌, is_ok, List, [], ◌∷◌, ◌++◌, length, get_or, set, take, drop, map, append-nil, refl, sym, ap, ◌∙◌, subst, arith}
use Rattle.std.specs.Prelude.{Some, slice_get, Result, Ok, Err, OnOk, OnErr, IfOk}
use Rattle.std.proofs.Math.Seq.{map-set_same}
use Rattle.std.proofs.lemmas.List.{take_all, drop_all, length-set, get_or-map, map-set}
use Rattle.std.proofs.lemmas.Option.{get_or_from_slice_get, slice_get_read}
use Rattle.dn_guest.specs.Meaning.{Meaning}
use Rattle.dn_model.specs.declared.event.Event.{Event}
use Rattle.dn_model.specs.declared.key.Key.{Key}
use Rattle.dn_model.specs.Cases.{Heading}
use Rattle.dn_model.specs.Links.{ports_of}
use Rattle.dn_model.specs.Network.{Network, opening_node, routers}
use Rattle.dn_model.specs.Settled.{row_limit}
use Rattle.dn_router.specs.Answers.{HasLost}
use Rattle.dn_router.specs.Routers.{Speculation}
use Rattle.dn_world.specs.World.{World, no_part, part}
use Rattle.dn_fabric.specs.Commits.{AreAsHandled}
use Rattle.dn_fabric.specs.Fabrics.{IsNetworkOf, router_of}
use Rattle.dn_fabric.specs.Holds.{IsRouterAt, IsWhole}
use Rattle.dn_fabric.proofs.Commits.{Keeps}

-- ---- what a call answered

pub ok_fact : {T E P : Type 0} (r : Result T E) (x : T) → r ≡ Ok x → OnOk r P → P
ok_fact (Ok y) x e p = p
ok_fact (Err y) x e p = absurd (cc)

pub ok_value : {T E : Type 0} (Q : T → Type 0) (r : Result T E) (x : T) → r ≡ Ok x → IfOk r Q → Q x
ok_value Q r x e q = subst (λ z. IfOk z Q) e q

pub err_fact : {T E P : Type 0} (r : Result T E) (x : E) → r ≡ Err x → OnErr r P → P
err_fact (Ok y) x e p = absurd (cc)
err_fact (Err y) x e p = p

pub marked_err : {T E : Type 0} (r : Result T E) (x : E) (s t : Bool) → r ≡ Err x → t ≡ (if is_ok r then s else true) → t ≡ true
marked_err (Ok y) x s t e h = absurd (cc)
marked_err (Err y) x s t e h = h

pub marked_ok : {T E : Type 0} (r : Result T E) (x : T) (s t : Bool) → r ≡ Ok x → t ≡ (if is_ok r then s else true) → t ≡ s
marked_ok (Ok y) x s t e h = h
marked_ok (Err y) x s t e h = absurd (cc)

pub through : {T E P R : Type 0} (r q : Result T E) (s t : Bool) → q ≡ r → t ≡ (if is_ok r then s else true) → OnOk r P → (P → t ≡ s → R) → OnOk q R
through {T} {E} {P} {R} r q s t e h p f = subst (λ z. OnOk z R) (sym e) (go r h p)
  where
    go : (r : Result T E) → t ≡ (if is_ok r then s else true) → OnOk r P → OnOk r R
    go (Ok x) h p = f p h
    go (Err y) h p = tt

pub through_err : {T E R : Type 0} (r q : Result T E) (s t : Bool) → q ≡ r → t ≡ (if is_ok r then s else true) → (t ≡ true → R) → OnErr q R
through_err {T} {E} {R} r q s t e h f = subst (λ z. OnErr z R) (sym e) (go r h)
  where
    go : (r : Result T E) → t ≡ (if is_ok r then s else true) → OnErr r R
    go (Ok x) h = tt
    go (Err y) h = f h

-- a list that was lent whole comes back
pub back_is : {X : Type 0} (xs items : List X) (n : ℕ) → length xs ≡ length items → n ≡ length items → take n (xs ++ drop (length xs) items) ≡ xs
back_is xs items n same len =
    ap (λ l. take n (xs ++ l)) (drop_all (length xs) items (omega (arith, same)))
    ∙ ap (take n) (append-nil xs)
    ∙ take_all n xs (omega (arith, same, len))

-- ---- a list in which one element was replaced

set_each : {X : Type 0} (P : ℕ → X → Type 0) (xs : List X) (i : ℕ) (new : X) → ((r : ℕ) (x : X) → slice_get xs r ≡ Some x → P r x) → P i new → (r : ℕ) (x : X) → slice_get (set xs i new) r ≡ Some x → P r x
set_each P [] i new all at r x g = all r x g
set_each P (y ∷ ys) zero new all at zero x g = let e : new ≡ x = cc in subst (P 0) e at
set_each P (y ∷ ys) zero new all at (suc r) x g = all (suc r) x g
set_each P (y ∷ ys) (suc i) new all at zero x g = all zero x g
set_each P (y ∷ ys) (suc i) new all at (suc r) x g = set_each (λ k. P (suc k)) ys i new (λ k z h. all (suc k) z h) at r x g

module _ {S : Type 0} where
  -- ---- routers that a call has changed

  at_lost : (h : Heading) (r : ℕ) (old new : Speculation S) → IsRouterAt h r old → HasLost old new → IsRouterAt h r new
  at_lost h r old new a l =
      subst (IsRouterAt h r) (sym l.is) (record { number = a.number; ends = a.ends; timing = a.timing; ports = a.ports; sends = a.sends })

  at_kept : (h : Heading) (r : ℕ) (old new : Speculation S) → IsRouterAt h r old → Keeps old new → IsRouterAt h r new
  at_kept h r old new a k =
      subst (IsRouterAt h r) (sym k) (record { number = a.number; ends = a.ends; timing = a.timing; ports = a.ports; sends = a.sends })

  -- after a call at one router
  pub whole_set : (h : Heading) (rs : List (Speculation S)) (b : Key) (rows : List Event) (cut s t : Bool) (i : ℕ) (old new : Speculation S) → IsWhole h rs b rows cut s → i < length rs → old ≡ get_or rs i old → HasLost old new → (t ≡ false → s ≡ false) → IsWhole h (set rs i new) b rows cut t
  whole_set h rs b rows cut s t i old new w l is lost on =
      let here : slice_get rs i ≡ Some old = slice_get_read rs (length rs) i old refl l is in
      record {
        rules = w.rules;
        count = length-set rs i new ∙ w.count;
        routers = set_each (IsRouterAt h) rs i new w.routers (at_lost h i old new (w.routers i old here) lost);
        bounds = λ e. set_each (λ r x. x.bound ≡ b) rs i new (w.bounds (on e)) (ap (λ x. x.bound) lost.is ∙ w.bounds (on e) i old here);
        few = w.few;
        full = w.full;
      }

  handled_at : (h : Heading) (rs now : List (Speculation S)) → AreAsHandled rs now → ((r : ℕ) (x : Speculation S) → slice_get rs r ≡ Some x → IsRouterAt h r x) → (r : ℕ) (x : Speculation S) → slice_get now r ≡ Some x → IsRouterAt h r x
  handled_at h rs now a all r x g = let old = a.each r x g in at_kept h r old.0 x (all r old.0 old.1) old.2

  -- after a commit at all, or at some where no memory was found
  pub whole_handled : (h : Heading) (rs now : List (Speculation S)) (b c : Key) (rows more : List Event) (cut out s t : Bool) → IsWhole h rs b rows cut s → AreAsHandled rs now → (t ≡ false → (r : ℕ) (x : Speculation S) → slice_get now r ≡ Some x → x.bound ≡ c) → length more ≤ row_limit → (out ≡ true → length more ≡ row_limit) → IsWhole h now c more out t
  whole_handled h rs now b c rows more cut out s t w a bounds few full =
      record { rules = w.rules; count = a.count ∙ w.count; routers = handled_at h rs now a w.routers; bounds = bounds; few = few; full = full }

  pub guests_set : (rs : List (Speculation S)) (i : ℕ) (old new : Speculation S) → old ≡ get_or rs i old → HasLost old new → map (λ r. r.opening.guest) (set rs i new) ≡ map (λ r. r.opening.guest) rs
  guests_set rs i old new is lost =
      map-set_same (λ r. r.opening.guest) rs i new old (ap (λ x. x.opening.guest) lost.is ∙ ap (λ x. x.opening.guest) is)

  pub parts_set : (rs : List (Speculation S)) (i : ℕ) (new : Speculation S) → map (λ r. r.part) (set rs i new) ≡ set (map (λ r. r.part) rs) i new.part
  parts_set rs i new = map-set (λ r. r.part) rs i new

  -- ---- the router at a place

  pub number_is : (h : Heading) (rs : List (Speculation S)) (b : Key) (rows : List Event) (cut t : Bool) (i : ℕ) (s : Speculation S) → IsWhole h rs b rows cut t → i < length rs → s ≡ get_or rs i s → s.number ≡ i
  number_is h rs b rows cut t i s w l is = (w.routers i s (slice_get_read rs (length rs) i s refl l is)).number

  opening_is : (net : Network S) (i : ℕ) (s : Speculation S) → s.opening.guest ≡ net.opening i → s.opening.ports ≡ 2 ^ ports_of net.header.links i - 1 → s.opening.sends ≡ 0 → s.opening ≡ opening_node net i
  unfolding opening_node
  opening_is net i s a b c = λ j. record { guest = a j; ports = b j; sends = c j }

  pub part_is : (rs : List (Speculation S)) (i : ℕ) (s : Speculation S) → i < length rs → s ≡ get_or rs i s → get_or (map (λ r. r.part) rs) i no_part ≡ s.part
  part_is rs i s l is = get_or-map (λ r. r.part) rs i s no_part l ∙ ap (λ x. x.part) (sym is)

  guest_is : (net : Network S) (rs : List (Speculation S)) (i : ℕ) (s : Speculation S) → i < length rs → s ≡ get_or rs i s → slice_get (map (λ r. r.opening.guest) rs) i ≡ Some (net.opening i) → s.opening.guest ≡ net.opening i
  guest_is net rs i s l is h =
      ap (λ x. x.opening.guest) is
      ∙ sym (get_or-map (λ r. r.opening.guest) rs i s s.opening.guest l)
      ∙ get_or_from_slice_get (map (λ r. r.opening.guest) rs) i (net.opening i) s.opening.guest h

  at_place : (net : Network S) (w : World) (i : ℕ) (s : Speculation S) → IsRouterAt net.header i s → s.opening.guest ≡ net.opening i → s.part ≡ part w i → s ≡ record (router_of net w i) { committed = s.committed; bound = s.bound }
  at_place net w i s a g p =
      let o = opening_is net i s g a.ports a.sends in
      λ j. record { number = a.number j; ends = a.ends j; timing = a.timing j; opening = o j; part = p j; committed = s.committed; bound = s.bound }

  pub part_at : (w : World) (rs : List (Speculation S)) (i : ℕ) (s : Speculation S) → w.parts ≡ map (λ r. r.part) rs → i < length rs → s ≡ get_or rs i s → s.part ≡ part w i
  unfolding part
  part_at w rs i s e l is = sym (part_is rs i s l is) ∙ ap (λ ps. get_or ps i no_part) (sym e)

  inside_net : (net : Network S) (h : Heading) (rs : List (Speculation S)) (i : ℕ) → net.header ≡ h → length rs ≡ length h.routers → i < length rs → i < routers net
  unfolding routers
  inside_net net h rs i e n l = let m = ap (λ (x : Heading). length x.routers) e in omega (arith, m, n, l)

  -- it is the network's, but for what was committed
  pub router_is : (net : Network S) (m : Meaning S) (h : Heading) (rs : List (Speculation S)) (b : Key) (rows : List Event) (cut t : Bool) (w : World) (i : ℕ) (s : Speculation S) → IsWhole h rs b rows cut t → IsNetworkOf net m h (map (λ r. r.opening.guest) rs) → w.parts ≡ map (λ r. r.part) rs → i < length rs → s ≡ get_or rs i s → s ≡ record (router_of net w i) { committed = s.committed; bound = s.bound }
  router_is net m h rs b rows cut t w i s whole of ps l is =
      let at = whole.routers i s (slice_get_read rs (length rs) i s refl l is) in
      at_place net w i s (subst (λ z. IsRouterAt z i s) (sym of.header) at)
      (guest_is net rs i s l is (of.openings i (inside_net net h rs i of.header whole.count l)))
      (part_at w rs i s ps l is)
