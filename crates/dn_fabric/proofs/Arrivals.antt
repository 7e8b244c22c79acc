-- Routers to which something comes.
use Rattle.std.proofs.Common.{◌≡◌, ℕ, zero, suc, ◌+◌, ◌-◌, ◌^◌, ◌<◌, ◌≤◌, Bool, true, false, if◌then◌else◌, List, [], ◌∷◌, ◌++◌, length, get_or, set, map, take, drop, refl, sym, ap, ◌∙◌, subst, append_assoc, append-nil, arith}
use Rattle.std.specs.Prelude.{Some, Result, Ok, Err, OnOk, OnErr, is_ok, slice_get, replicate}
use Rattle.std.proofs.lemmas.Bool.{false≢true}
use Rattle.dn_guest.specs.Meaning.{Meaning}
use Rattle.dn_model.specs.declared.key.Key.{Key}
use Rattle.dn_model.specs.declared.event.Event.{Event}
use Rattle.dn_model.specs.declared.feed.External.{External}
use Rattle.dn_model.specs.Cases.{Heading, IsHeading, timing_of}
use Rattle.dn_model.specs.Links.{ends, ports_of}
use Rattle.dn_model.specs.Network.{Network, routers, opening_node, tick, external}
use Rattle.dn_world.specs.declared.packet.Packet.{Packet}
use Rattle.std.specs.List.{remove}
use Rattle.dn_world.specs.World.{Part, World, no_part, part, key_of, with_todo, ticked, opening, floor_bound}
use Rattle.dn_world.specs.Steps.{beacon, inject, arrived, deliver}
use Rattle.dn_world.specs.Runs.{IsPast}
use Rattle.dn_router.specs.Routers.{Speculation}
use Rattle.dn_fabric.specs.Fabrics.{Live, HasHalted, IsNetworkOf, router_of, opening_live}
use Rattle.dn_fabric.specs.Openings.{router_before, routers_from}
use Rattle.dn_fabric.specs.Coming.{all_ticked, AreAsBefore}
use Rattle.dn_fabric.specs.Holds.{IsRouterAt, IsWhole}

-- ---- lists

module _ {X : Type 0} where
  pub set_length : (xs : List X) (i : ℕ) (x : X) → length (set xs i x) ≡ length xs
  set_length [] i x = refl
  set_length (y ∷ ys) zero x = refl
  set_length (y ∷ ys) (suc i) x = ap suc (set_length ys i x)

  pub map_length : {Y : Type 0} (f : X → Y) (xs : List X) → length (map f xs) ≡ length xs
  map_length f [] = refl
  map_length f (x ∷ xs) = ap suc (map_length f xs)

  -- a slice that was written whole
  pub written : (xs ys : List X) (n : ℕ) → length ys ≡ length xs → n ≡ length xs → take n (ys ++ drop (length ys) xs) ≡ ys
  written xs ys n e f =
      let m : n ≡ length ys = omega arith in
      let none : drop (length ys) xs ≡ [] = ap (λ k. drop k xs) e ∙ drop_all xs in
      (λ i. take (m i) (ys ++ none i)) ∙ ap (take (length ys)) (append-nil ys) ∙ take_all ys
    where
      drop_all : (zs : List X) → drop (length zs) zs ≡ []
      drop_all [] = refl
      drop_all (z ∷ zs) = drop_all zs

      take_all : (zs : List X) → take (length zs) zs ≡ zs
      take_all [] = refl
      take_all (z ∷ zs) = ap (λ l. z ∷ l) (take_all zs)

  pub set_past : (xs : List X) (i : ℕ) (x : X) → length xs ≤ i → set xs i x ≡ xs
  set_past [] i x h = refl
  set_past (y ∷ ys) zero x h = absurd (omega arith)
  set_past (y ∷ ys) (suc i) x h = ap (λ l. y ∷ l) (set_past ys i x (omega arith))

  pub set_same : (xs : List X) (i : ℕ) (x : X) → slice_get xs i ≡ Some x → set xs i x ≡ xs
  set_same [] i x h = refl
  set_same (y ∷ ys) zero x h = let e : x ≡ y = cc in ap (λ z. z ∷ ys) e
  set_same (y ∷ ys) (suc i) x h = ap (λ l. y ∷ l) (set_same ys i x h)

  pub set_maps : {Y : Type 0} (f : X → Y) (xs : List X) (i : ℕ) (x : X) → map f (set xs i x) ≡ set (map f xs) i (f x)
  set_maps f [] i x = refl
  set_maps f (y ∷ ys) zero x = refl
  set_maps f (y ∷ ys) (suc i) x = ap (λ l. f y ∷ l) (set_maps f ys i x)

  pub get_mapped : {Y : Type 0} (f : X → Y) (xs : List X) (i : ℕ) (x : X) (d : Y) → slice_get xs i ≡ Some x → get_or (map f xs) i d ≡ f x
  get_mapped f [] i x d h = absurd (cc)
  get_mapped f (y ∷ ys) zero x d h = let e : y ≡ x = cc in ap f e
  get_mapped f (y ∷ ys) (suc i) x d h = get_mapped f ys i x d h

-- ---- routers that are as before

module _ {S : Type 0} where
  abbrev pub given : Speculation S → Part → Speculation S
  given s p = record s { part = p }

  abbrev pub Was : List (Speculation S) → ℕ → Speculation S → Type 0
  Was ss r s = (old : Speculation S) × (slice_get ss r ≡ Some old) × (s ≡ record old { part = s.part })

  -- the router when the event has come to it
  abbrev pub coming_to : Event → Speculation S → Speculation S
  coming_to e s = given s (with_todo (e ∷ []) s.part)

  given_is : (s t : Speculation S) (p : Part) → given s p ≡ t → t ≡ record s { part = t.part }
  given_is s t p e = subst (λ (u : Speculation S). u ≡ record s { part = u.part }) e refl

  same_was : (ss : List (Speculation S)) (r : ℕ) (s : Speculation S) → slice_get ss r ≡ Some s → Was ss r s
  same_was ss r s h = (s, h, refl)

  pub before_same : (ss : List (Speculation S)) → AreAsBefore ss ss
  before_same ss = record { count = refl; each = same_was ss }

  set_was : (ss : List (Speculation S)) (r : ℕ) (old : Speculation S) (p : Part) → slice_get ss r ≡ Some old → (i : ℕ) (s : Speculation S) → slice_get (set ss r (given old p)) i ≡ Some s → Was ss i s
  set_was [] r old p e i s h = absurd (cc)
  set_was (x ∷ xs) zero old p e zero s h = let k : given old p ≡ s = cc in (old, e, given_is old s p k)
  set_was (x ∷ xs) zero old p e (suc i) s h = (s, h, refl)
  set_was (x ∷ xs) (suc r) old p e zero s h = (s, h, refl)
  set_was (x ∷ xs) (suc r) old p e (suc i) s h = set_was xs r old p e i s h

  pub before_set : (ss : List (Speculation S)) (r : ℕ) (old : Speculation S) (p : Part) → slice_get ss r ≡ Some old → AreAsBefore ss (set ss r (given old p))
  before_set ss r old p e = record { count = set_length ss r (given old p); each = set_was ss r old p e }

  pub before_guests : (ss ns : List (Speculation S)) → AreAsBefore ss ns → map (λ s. s.opening.guest) ns ≡ map (λ s. s.opening.guest) ss
  before_guests [] [] b = refl
  before_guests [] (n ∷ ns) b = absurd (let c = b.count in omega (arith, c))
  before_guests (s ∷ ss) [] b = absurd (let c = b.count in omega (arith, c))
  before_guests (s ∷ ss) (n ∷ ns) b =
      let w = b.each 0 n refl in
      let old : s ≡ w.0 = (let h = w.1 in cc) in
      let first : n.opening.guest ≡ s.opening.guest = ap (λ t. t.opening.guest) w.2 ∙ ap (λ t. t.opening.guest) (sym old) in
      let rest = before_guests ss ns (record { count = (let c = b.count in omega (arith, c)); each = λ r t h. b.each (suc r) t h }) in
      λ i. first i ∷ rest i

  -- what holds of a world holds with routers that are as before, and after a call that found no memory
  pub before_whole : (h : Heading) (ss ns : List (Speculation S)) (b : Key) (rows : List Event) (cut was now : Bool) → AreAsBefore ss ns → (now ≡ false → was ≡ false) → IsWhole h ss b rows cut was → IsWhole h ns b rows cut now
  before_whole h ss ns b rows cut was now a runs w = record {
    rules = w.rules;
    count = a.count ∙ w.count;
    routers = λ r t g.
        let o = a.each r t g in
        let at = w.routers r o.0 o.1 in record {
          number = ap (λ u. u.number) o.2 ∙ at.number;
          ends = ap (λ u. u.ends) o.2 ∙ at.ends;
          timing = ap (λ u. u.timing) o.2 ∙ at.timing;
          ports = ap (λ u. u.opening.ports) o.2 ∙ at.ports;
          sends = ap (λ u. u.opening.sends) o.2 ∙ at.sends;
        };
    bounds = λ run r t g. let o = a.each r t g in ap (λ u. u.bound) o.2 ∙ w.bounds (runs run) r o.0 o.1;
    few = w.few;
    full = w.full;
  }

  -- ---- ticks

  -- the first n of the routers were ticked
  unfoldable pub ticked_to : ℕ → ℕ → ℕ → List (Speculation S) → List (Speculation S)
  ticked_to group r zero ss = ss
  ticked_to group r (suc n) [] = []
  ticked_to group r (suc n) (s ∷ ss) = given s (with_todo (tick group r ∷ []) s.part) ∷ ticked_to group (suc r) n ss

  pub ticked_none : (group : ℕ) (ss : List (Speculation S)) → ss ≡ ticked_to group 0 0 ss
  unfolding ticked_to
  ticked_none group ss = refl

  pub ticked_get : (group r n : ℕ) (ss : List (Speculation S)) → slice_get (ticked_to group r n ss) n ≡ slice_get ss n
  unfolding ticked_to
  ticked_get group r zero ss = refl
  ticked_get group r (suc n) [] = refl
  ticked_get group r (suc n) (s ∷ ss) = ticked_get group (suc r) n ss

  pub ticked_length : (group r n : ℕ) (ss : List (Speculation S)) → length (ticked_to group r n ss) ≡ length ss
  unfolding ticked_to
  ticked_length group r zero ss = refl
  ticked_length group r (suc n) [] = refl
  ticked_length group r (suc n) (s ∷ ss) = ap suc (ticked_length group (suc r) n ss)

  pub ticked_next : (group r n m : ℕ) (ss : List (Speculation S)) (s : Speculation S) → m ≡ r + n → slice_get ss n ≡ Some s → set (ticked_to group r n ss) n (given s (with_todo (tick group m ∷ []) s.part)) ≡ ticked_to group r (suc n) ss
  unfolding ticked_to
  ticked_next group r zero m [] s e h = absurd (cc)
  ticked_next group r zero m (x ∷ xs) s e h =
      let is : s ≡ x = cc in
      let at : m ≡ r = omega arith in
      λ i. given (is i) (with_todo (tick group (at i) ∷ []) (is i).part) ∷ xs
  ticked_next group r (suc n) m [] s e h = absurd (cc)
  ticked_next group r (suc n) m (x ∷ xs) s e h =
      ap (λ l. given x (with_todo (tick group r ∷ []) x.part) ∷ l) (ticked_next group (suc r) n m xs s (omega arith) h)

  pub ticked_whole : (group r n : ℕ) (ss : List (Speculation S)) → length ss ≤ n → ticked_to group r n ss ≡ all_ticked group r ss
  unfolding ticked_to all_ticked
  ticked_whole group r zero [] h = refl
  ticked_whole group r zero (s ∷ ss) h = absurd (omega arith)
  ticked_whole group r (suc n) [] h = refl
  ticked_whole group r (suc n) (s ∷ ss) h = ap (λ l. given s (with_todo (tick group r ∷ []) s.part) ∷ l) (ticked_whole group (suc r) n ss (omega arith))

  ticked_was : (group r n : ℕ) (ss : List (Speculation S)) (i : ℕ) (s : Speculation S) → slice_get (ticked_to group r n ss) i ≡ Some s → Was ss i s
  unfolding ticked_to
  ticked_was group r zero ss i s h = (s, h, refl)
  ticked_was group r (suc n) [] i s h = absurd (cc)
  ticked_was group r (suc n) (x ∷ xs) zero s h =
      let k : given x (with_todo (tick group r ∷ []) x.part) ≡ s = cc in
      (x, refl, given_is x s (with_todo (tick group r ∷ []) x.part) k)
  ticked_was group r (suc n) (x ∷ xs) (suc i) s h = ticked_was group (suc r) n xs i s h

  pub before_ticked : (group r n : ℕ) (ss : List (Speculation S)) → AreAsBefore ss (ticked_to group r n ss)
  before_ticked group r n ss = record { count = ticked_length group r n ss; each = ticked_was group r n ss }

  pub before_all_ticked : (group r : ℕ) (ss : List (Speculation S)) → AreAsBefore ss (all_ticked group r ss)
  before_all_ticked group r ss =
      subst (AreAsBefore ss) (ticked_whole group r (length ss) ss (omega arith)) (before_ticked group r (length ss) ss)

  pub ticked_parts : (group r : ℕ) (ss : List (Speculation S)) → map (λ s. s.part) (all_ticked group r ss) ≡ ticked group r (map (λ s. s.part) ss)
  unfolding all_ticked ticked
  ticked_parts group r [] = refl
  ticked_parts group r (s ∷ ss) = ap (λ l. with_todo (tick group r ∷ []) s.part ∷ l) (ticked_parts group (suc r) ss)

-- ---- marks

pub marked : (ok was now : Bool) → now ≡ (if ok then was else true) → now ≡ false → was ≡ false
marked true was now e h = sym e ∙ h
marked false was now e h = absurd (false≢true (sym h ∙ e))

-- ---- one router of a world

module _ {S : Type 0} where
  pub get_some : {Y : Type 0} (f : Speculation S → Y) (ss : List (Speculation S)) (r : ℕ) (s : Speculation S) → slice_get ss r ≡ Some s → slice_get (map f ss) r ≡ Some (f s)
  get_some f [] r s h = absurd (cc)
  get_some f (x ∷ xs) zero s h = let e : x ≡ s = cc in ap (λ t. Some (f t)) e
  get_some f (x ∷ xs) (suc r) s h = get_some f xs r s h

  pub part_at : (w : World) (ss : List (Speculation S)) (r : ℕ) (s : Speculation S) → w.parts ≡ map (λ s. s.part) ss → slice_get ss r ≡ Some s → part w r ≡ s.part
  unfolding part
  part_at w ss r s e h = ap (λ l. get_or l r no_part) e ∙ get_mapped (λ s. s.part) ss r s no_part h

  pub router_is : (net : Network S) (meaning : Meaning S) (l : Live S) (ss : List (Speculation S)) (r : ℕ) (s : Speculation S) → IsNetworkOf net meaning l.header l.openings → l.openings ≡ map (λ s. s.opening.guest) ss → l.world.parts ≡ map (λ s. s.part) ss → IsRouterAt l.header r s → slice_get ss r ≡ Some s → r < length l.header.routers → s ≡ record (router_of net l.world r) { committed = s.committed; bound = s.bound }
  unfolding routers opening_node
  router_is net meaning l ss r s is opens parts at h within =
      let links : ends net.header.links r ≡ ends l.header.links r = ap (λ x. ends x.links r) is.header in
      let inside : r < routers net = subst (λ x. r < length x.routers) (sym is.header) within in
      let own : Some s.opening.guest ≡ Some (net.opening r) =
      sym (get_some (λ s. s.opening.guest) ss r s h) ∙ ap (λ x. slice_get x r) (sym opens) ∙ is.openings r inside in
      let guest : s.opening.guest ≡ net.opening r = cc in
      let ports : s.opening.ports ≡ 2 ^ ports_of net.header.links r - 1 = at.ports ∙ ap (λ x. 2 ^ ports_of x.links r - 1) (sym is.header) in
      let far : s.ends ≡ ends net.header.links r = at.ends ∙ sym links in
      let timing : s.timing ≡ timing_of net.header = at.timing ∙ ap timing_of (sym is.header) in
      let here : s.part ≡ part l.world r = sym (part_at l.world ss r s parts h) in
      λ i. record {
        number = at.number i;
        ends = far i;
        timing = timing i;
        opening = record { guest = guest i; ports = ports i; sends = at.sends i };
        part = here i;
        committed = s.committed;
        bound = s.bound;
      }

  -- ---- routers before their first event

  pub opening_more : (h : Heading) (n : ℕ) (guest : S) (rest all : List S) (done made : List (Speculation S)) (router : Speculation S) → all ≡ guest ∷ rest → router ≡ router_before h n guest → done ++ routers_from h n all ≡ made → (done ++ router ∷ []) ++ routers_from h (n + 1) rest ≡ made
  unfolding routers_from
  opening_more h n guest rest all done made router e f k =
      let next : n + 1 ≡ suc n = omega arith in
      append_assoc done (router ∷ []) (routers_from h (n + 1) rest)
      ∙ (λ i. done ++ f i ∷ routers_from h (next i) rest)
      ∙ ap (λ l. done ++ routers_from h n l) (sym e)
      ∙ k

  pub opening_guests : (h : Heading) (r : ℕ) (gs : List S) → map (λ s. s.opening.guest) (routers_from h r gs) ≡ gs
  unfolding routers_from
  opening_guests h r [] = refl
  opening_guests h r (x ∷ xs) = ap (λ l. x ∷ l) (opening_guests h (suc r) xs)

  pub opening_parts : (h : Heading) (r n : ℕ) (gs : List S) → length gs ≡ n → map (λ s. s.part) (routers_from h r gs) ≡ ticked 0 r (replicate n no_part)
  unfolding routers_from ticked
  opening_parts h r zero [] e = refl
  opening_parts h r (suc n) [] e = absurd (omega arith)
  opening_parts h r zero (x ∷ xs) e = absurd (omega arith)
  opening_parts h r (suc n) (x ∷ xs) e = ap (λ l. with_todo (tick 0 r ∷ []) no_part ∷ l) (opening_parts h (suc r) n xs (omega arith))

  opening_length : (h : Heading) (r : ℕ) (gs : List S) → length (routers_from h r gs) ≡ length gs
  unfolding routers_from
  opening_length h r [] = refl
  opening_length h r (x ∷ xs) = ap suc (opening_length h (suc r) xs)

  opening_is : (h : Heading) (r m : ℕ) (gs : List S) (i : ℕ) (s : Speculation S) → m ≡ r + i → slice_get (routers_from h r gs) i ≡ Some s → IsRouterAt h m s × (s.bound ≡ key_of 0 0)
  unfolding routers_from
  opening_is h r m [] i s e k = absurd (cc)
  opening_is h r m (x ∷ xs) zero s e k =
      let at : r ≡ m = omega arith in
      let is : router_before h r x ≡ s = cc in
      subst (λ (n : ℕ). IsRouterAt h n s × (s.bound ≡ key_of 0 0)) at
      (subst (λ (t : Speculation S). IsRouterAt h r t × (t.bound ≡ key_of 0 0)) is (record { number = refl; ends = refl; timing = refl; ports = refl; sends = refl }, refl))
  opening_is h r m (x ∷ xs) (suc i) s e k = opening_is h (suc r) m xs i s (omega arith) k

  pub opening_whole : (h : Heading) (gs : List S) → IsHeading h → length gs ≡ length h.routers → IsWhole h (routers_from h 0 gs) (key_of 0 0) [] false false
  opening_whole h gs rules e = record {
    rules = rules;
    count = opening_length h 0 gs ∙ e;
    routers = λ r s k. (opening_is h 0 r gs r s (omega arith) k).0;
    bounds = λ run r s k. (opening_is h 0 r gs r s (omega arith) k).1;
    few = omega arith;
    full = λ k. absurd (false≢true k);
  }

-- ---- the value of a world

module _ {S : Type 0} where
  abbrev pub seen : Heading → List (Speculation S) → List Packet → ℕ → Bool → List External → Key → List Event → Bool → Bool → Live S
  seen h ss flight floor closed accepted boundary rows cut stopped =
      record {
        header = h;
        openings = map (λ s. s.opening.guest) ss;
        world = record { parts = map (λ s. s.part) ss; flight = flight; floor = floor; closed = closed; accepted = accepted; boundary = boundary };
        rows = rows;
        cut = cut;
        stopped = stopped;
      }

  pub opened : (h : Heading) (gs : List S) → length gs ≡ length h.routers → seen h (routers_from h 0 gs) [] 0 false [] (key_of 0 0) [] false false ≡ opening_live h gs
  unfolding opening
  opened h gs e =
      let guests = opening_guests h 0 gs in
      let parts = opening_parts h 0 (length h.routers) gs e in
      λ i. record {
        header = h;
        openings = guests i;
        world = record { parts = parts i; flight = []; floor = 0; closed = false; accepted = []; boundary = key_of 0 0 };
        rows = [];
        cut = false;
        stopped = false;
      }

  -- the next group has begun
  pub beaconed : (h : Heading) (ss : List (Speculation S)) (flight : List Packet) (floor : ℕ) (closed : Bool) (accepted : List External) (boundary : Key) (rows : List Event) (cut stopped : Bool) (group : ℕ) → group ≡ floor + 1 → seen h (all_ticked group 0 ss) flight group closed accepted boundary rows cut stopped ≡ record (seen h ss flight floor closed accepted boundary rows cut stopped) { world = beacon (seen h ss flight floor closed accepted boundary rows cut stopped).world }
  unfolding beacon
  beaconed h ss flight floor closed accepted boundary rows cut stopped group e =
      let next : group ≡ suc floor = omega arith in
      let guests = before_guests ss (all_ticked group 0 ss) (before_all_ticked group 0 ss) in
      let parts : map (λ s. s.part) (all_ticked group 0 ss) ≡ ticked (suc floor) 0 (map (λ s. s.part) ss) = ticked_parts group 0 ss ∙ ap (λ n. ticked n 0 (map (λ s. s.part) ss)) next in
      λ i. record {
        header = h;
        openings = guests i;
        world = record { parts = parts i; flight = flight; floor = next i; closed = closed; accepted = accepted; boundary = boundary };
        rows = rows;
        cut = cut;
        stopped = stopped;
      }

  -- an external has come to its router
  pub injected_to : (h : Heading) (ss : List (Speculation S)) (flight : List Packet) (floor : ℕ) (closed : Bool) (accepted : List External) (boundary : Key) (rows : List Event) (cut stopped : Bool) (r : ℕ) (s : Speculation S) (x : External) → r ≡ x.router → slice_get ss r ≡ Some s → seen h (set ss r (coming_to (external (length accepted) x) s)) flight floor closed (accepted ++ x ∷ []) boundary rows cut stopped ≡ record (seen h ss flight floor closed accepted boundary rows cut stopped) { world = inject (seen h ss flight floor closed accepted boundary rows cut stopped).world x }
  unfolding inject
  injected_to h ss flight floor closed accepted boundary rows cut stopped r s x e at =
      let new = with_todo (external (length accepted) x ∷ []) s.part in
      let w = (seen h ss flight floor closed accepted boundary rows cut stopped).world in
      let guests = before_guests ss (set ss r (given s new)) (before_set ss r s new at) in
      let here : s.part ≡ part w x.router = sym (part_at w ss r s refl at) ∙ ap (part w) e in
      let parts : map (λ s. s.part) (set ss r (given s new)) ≡ set (map (λ s. s.part) ss) x.router (with_todo (external (length accepted) x ∷ []) (part w x.router)) =
      set_maps (λ s. s.part) ss r (given s new) ∙ (λ i. set (map (λ s. s.part) ss) (e i) (with_todo (external (length accepted) x ∷ []) (here i))) in
      λ i. record {
        header = h;
        openings = guests i;
        world = record { parts = parts i; flight = flight; floor = floor; closed = closed; accepted = accepted ++ x ∷ []; boundary = boundary };
        rows = rows;
        cut = cut;
        stopped = stopped;
      }

  -- a packet has come to its router, or vanished
  pub delivered_to : (h : Heading) (ss : List (Speculation S)) (flight : List Packet) (floor : ℕ) (closed : Bool) (accepted : List External) (boundary : Key) (rows : List Event) (cut stopped : Bool) (place r : ℕ) (s : Speculation S) (k : Packet) → r ≡ k.event.router → slice_get flight place ≡ Some k → slice_get ss r ≡ Some s → seen h (set ss r (given s (arrived k s.part))) (remove flight place) floor closed accepted boundary rows cut stopped ≡ record (seen h ss flight floor closed accepted boundary rows cut stopped) { world = deliver (seen h ss flight floor closed accepted boundary rows cut stopped).world place (slice_get flight place) }
  unfolding deliver
  delivered_to h ss flight floor closed accepted boundary rows cut stopped place r s k e f at =
      let new = arrived k s.part in
      let w = (seen h ss flight floor closed accepted boundary rows cut stopped).world in
      let guests = before_guests ss (set ss r (given s new)) (before_set ss r s new at) in
      let here : s.part ≡ part w k.event.router = sym (part_at w ss r s refl at) ∙ ap (part w) e in
      let parts : map (λ s. s.part) (set ss r (given s new)) ≡ set (map (λ s. s.part) ss) k.event.router (arrived k (part w k.event.router)) =
      set_maps (λ s. s.part) ss r (given s new) ∙ (λ i. set (map (λ s. s.part) ss) (e i) (arrived k (here i))) in
      (λ i. record {
        header = h;
        openings = guests i;
        world = record { parts = parts i; flight = remove flight place; floor = floor; closed = closed; accepted = accepted; boundary = boundary };
        rows = rows;
        cut = cut;
        stopped = stopped;
      })
      ∙ ap (λ o. record (seen h ss flight floor closed accepted boundary rows cut stopped) { world = deliver w place o }) (sym f)

  pub vanished : (h : Heading) (ss : List (Speculation S)) (flight : List Packet) (floor : ℕ) (closed : Bool) (accepted : List External) (boundary : Key) (rows : List Event) (cut stopped : Bool) (place : ℕ) (k : Packet) → length ss ≤ k.event.router → slice_get flight place ≡ Some k → seen h ss (remove flight place) floor closed accepted boundary rows cut stopped ≡ record (seen h ss flight floor closed accepted boundary rows cut stopped) { world = deliver (seen h ss flight floor closed accepted boundary rows cut stopped).world place (slice_get flight place) }
  unfolding deliver
  vanished h ss flight floor closed accepted boundary rows cut stopped place k past f =
      let w = (seen h ss flight floor closed accepted boundary rows cut stopped).world in
      let far : length (map (λ s. s.part) ss) ≤ k.event.router = (let n = map_length (λ (s : Speculation S). s.part) ss in omega (arith, n)) in
      let parts = set_past (map (λ s. s.part) ss) k.event.router (arrived k (part w k.event.router)) far in
      (λ i. record {
        header = h;
        openings = map (λ s. s.opening.guest) ss;
        world = record { parts = sym parts i; flight = remove flight place; floor = floor; closed = closed; accepted = accepted; boundary = boundary };
        rows = rows;
        cut = cut;
        stopped = stopped;
      })
      ∙ ap (λ o. record (seen h ss flight floor closed accepted boundary rows cut stopped) { world = deliver w place o }) (sym f)

-- ---- what may still come

pub open_past : (h : Heading) (w : World) (b : Key) → w.closed ≡ false → IsPast b (floor_bound h w) → IsPast b (key_of w.floor 1)
unfolding floor_bound
open_past h w b e p = simp e at p

-- ---- a call that found no memory

pub marked_err : {T E : Type 0} (o p : Result T E) (was now : Bool) (e : E) → p ≡ o → p ≡ Err e → now ≡ (if is_ok o then was else true) → now ≡ true
marked_err o p was now e s h k = k ∙ ap (λ x. if is_ok x then was else true) (sym s ∙ h)

pub marked_ok : {T E : Type 0} (o p : Result T E) (was now : Bool) (x : T) → p ≡ o → p ≡ Ok x → now ≡ (if is_ok o then was else true) → now ≡ was
marked_ok o p was now e s h k = k ∙ ap (λ x. if is_ok x then was else true) (sym s ∙ h)

pub at_ok : {T E P : Type 0} (o p : Result T E) (x : T) → p ≡ o → p ≡ Ok x → OnOk o P → P
at_ok (Ok y) p x s h k = k
at_ok (Err d) p x s h k = absurd (cc)

pub at_err : {T E P : Type 0} (o p : Result T E) (e : E) → p ≡ o → p ≡ Err e → OnErr o P → P
at_err (Ok y) p e s h k = absurd (cc)
at_err (Err d) p e s h k = k

pub ok_marked : {T E P R : Type 0} (o p : Result T E) (was now : Bool) → p ≡ o → now ≡ (if is_ok o then was else true) → OnOk o P → (now ≡ was → P → R) → OnOk p R
ok_marked o (Ok y) was now s k h f = f (marked_ok o (Ok y) was now y s refl k) (at_ok o (Ok y) y s refl h)
ok_marked o (Err d) was now s k h f = tt

pub err_marked : {T E R : Type 0} (o p : Result T E) (was now : Bool) → p ≡ o → now ≡ (if is_ok o then was else true) → (now ≡ true → R) → OnErr p R
err_marked o (Ok y) was now s k f = tt
err_marked o (Err d) was now s k f = f (marked_err o (Err d) was now d s refl k)

module _ {S : Type 0} where
  pub before_either : {T E : Type 0} (ss : List (Speculation S)) (r : ℕ) (s new : Speculation S) (p : Part) (o : Result T E) → slice_get ss r ≡ Some s → OnOk o (new ≡ given s p) → OnErr o (new ≡ s) → AreAsBefore ss (set ss r new)
  before_either ss r s new p (Ok x) at h k = subst (λ (t : Speculation S). AreAsBefore ss (set ss r t)) (sym h) (before_set ss r s p at)
  before_either ss r s new p (Err d) at h k =
      subst (λ (t : Speculation S). AreAsBefore ss (set ss r t)) (sym k) (subst (λ (l : List (Speculation S)). AreAsBefore ss l) (sym (set_same ss r s at)) (before_same ss))

  pub halted : (before now : Live S) → now.stopped ≡ true → now.header ≡ before.header → now.openings ≡ before.openings → HasHalted before now
  halted before now s h o = record { stopped = s; header = h; openings = o }
