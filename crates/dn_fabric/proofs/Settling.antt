-- What a commit at all routers is to the network's world.
use Rattle.std.proofs.Common.{◌≡◌, ℕ, zero, suc, ◌+◌, ◌<◌, ◌≤◌, Bool, true, false, not, ◌||◌, List, [], ◌∷◌, ◌++◌, length, get_or, take, map, length-append, length-take, refl, sym, ap, ◌∙◌, subst, arith}
use Rattle.std.specs.Prelude.{Some, slice_get, nat_lt}
use Rattle.std.specs.List.{AllByRecursion, filter}
use Rattle.std.proofs.lemmas.Bool.{ltb-true}
use Rattle.std.proofs.lemmas.List.{take_all, take_more, length-map, get_or-map}
use Rattle.std.proofs.lemmas.Option.{get_or_from_slice_get, slice_get_within}
use Rattle.dn_guest.specs.Meaning.{Meaning}
use Rattle.dn_model.specs.declared.event.Event.{Event}
use Rattle.dn_model.specs.declared.feed.External.{External}
use Rattle.dn_model.specs.declared.key.Key.{Key}
use Rattle.dn_model.specs.Cases.{Heading}
use Rattle.dn_model.specs.Network.{Network, joined, routers}
use Rattle.dn_model.specs.Order.{is_below, sorted}
use Rattle.dn_model.specs.Settled.{below, row_limit}
use Rattle.dn_router.specs.Routers.{Speculation}
use Rattle.dn_world.specs.declared.packet.Packet.{Packet}
use Rattle.dn_world.specs.declared.step.Step.TheVariants.{Commit}
use Rattle.dn_world.specs.Runs.{IsPast, IsAllPast, fresh_rows}
use Rattle.dn_world.specs.Steps.{after}
use Rattle.dn_world.specs.World.{World, part, horizon, waiting}
use Rattle.dn_fabric.specs.Commits.{committed_to, fresh_of, AreAsHandled}
use Rattle.dn_fabric.proofs.Commits.{Keeps, fresh_none, fresh_push, same_lists}
use Rattle.dn_fabric.proofs.Turns.{live_of, world_of}
use Rattle.dn_fabric.proofs.Whole.{part_at}

some_at : {X : Type 0} (xs : List X) (i : ℕ) → i < length xs → (x : X) × (slice_get xs i ≡ Some x)
some_at [] i l = absurd (omega (arith, l))
some_at (x ∷ xs) zero l = (x, refl)
some_at (x ∷ xs) (suc i) l = some_at xs i (omega (arith, l))

-- where nothing that waits in a world is before a bound, nothing that waits at a router is
abbrev pub WaitAt : Type 0
WaitAt = (bound : Key) (w : World) (r : ℕ) → AllByRecursion (λ e. IsPast bound e.key) (waiting w) → AllByRecursion (λ e. IsPast bound e.key) ((part w r).todo ++ (part w r).voids)

module _ {S : Type 0} where
  -- ---- what no commit changes

  handled_map : {Y : Type 0} (f : Speculation S → Y) (rs now : List (Speculation S)) → ((old s : Speculation S) → Keeps old s → f s ≡ f old) → AreAsHandled rs now → map f now ≡ map f rs
  handled_map f rs now keeps a =
      same_lists (map f now) (map f rs) (length-map now f ∙ a.count ∙ sym (length-map rs f))
      (λ i d l.
      let n = length-map now f in
      let within : i < length now = omega (arith, l, n) in
      let old_within : i < length rs = omega (arith, within, a.count) in
      let x = some_at now i within in
      let old = a.each i x.0 x.1 in
      get_or-map f now i x.0 d within
      ∙ ap f (get_or_from_slice_get now i x.0 x.0 x.1)
      ∙ keeps old.0 x.0 old.2
      ∙ ap f (sym (get_or_from_slice_get rs i old.0 old.0 old.1))
      ∙ sym (get_or-map f rs i old.0 d old_within))

  pub guests_handled : (rs now : List (Speculation S)) → AreAsHandled rs now → map (λ r. r.opening.guest) now ≡ map (λ r. r.opening.guest) rs
  guests_handled rs now a = handled_map (λ r. r.opening.guest) rs now (λ old s k. ap (λ x. x.opening.guest) k) a

  pub parts_handled : (rs now : List (Speculation S)) → AreAsHandled rs now → map (λ r. r.part) now ≡ map (λ r. r.part) rs
  parts_handled rs now a = handled_map (λ r. r.part) rs now (λ old s k. ap (λ x. x.part) k) a

  -- each has committed up to the key
  bound_of : (key : Key) (rs : List (Speculation S)) (r : ℕ) (x : Speculation S) → slice_get (map (committed_to key) rs) r ≡ Some x → x.bound ≡ key
  bound_of key [] r x g = absurd (cc)
  bound_of key (y ∷ ys) zero x g = let e : committed_to key y ≡ x = cc in sym (ap (λ s. s.bound) e)
  bound_of key (y ∷ ys) (suc r) x g = bound_of key ys r x g

  pub bounds_are : (key : Key) (rs now : List (Speculation S)) → now ≡ map (committed_to key) rs → (r : ℕ) (x : Speculation S) → slice_get now r ≡ Some x → x.bound ≡ key
  bounds_are key rs now e r x g = bound_of key rs r x (ap (λ l. slice_get l r) (sym e) ∙ g)

  -- ---- nothing that waits is below the horizon

  pub waits_past : ((net : Network S) (w : World) → IsAllPast net (horizon net.header w) w) → WaitAt → (m : Meaning S) (h : Heading) (w : World) (rs : List (Speculation S)) (key : Key) → w.parts ≡ map (λ r. r.part) rs → key ≡ horizon h w → (r : ℕ) (s : Speculation S) → slice_get rs r ≡ Some s → AllByRecursion (λ e. IsPast key e.key) (s.part.todo ++ s.part.voids)
  waits_past lower wait m h w rs key ps e r s g =
      let net : Network S = record { header = h; guests = m; opening = λ _. s.opening.guest } in
      let all : AllByRecursion (λ e. IsPast key e.key) (waiting w) = subst (λ k. AllByRecursion (λ e. IsPast k e.key) (waiting w)) (sym e) (lower net w).waiting in
      let same = part_at w rs r s ps (slice_get_within rs r s g) (sym (get_or_from_slice_get rs r s s g)) in
      subst (λ p. AllByRecursion (λ e. IsPast key e.key) (p.todo ++ p.voids)) (sym same) (wait key w r all)

  -- ---- the fresh rows

  joined_upto : (key b : Key) (rs : List (Speculation S)) (w : World) → w.parts ≡ map (λ r. r.part) rs → ((r : ℕ) (x : Speculation S) → slice_get rs r ≡ Some x → x.bound ≡ b) → (n : ℕ) → n ≤ length rs → joined n (λ r. filter (λ e. not (is_below b e)) (below key (part w r).done)) ≡ fresh_of key (take n rs)
  unfolding joined
  joined_upto key b rs w ps bounds zero l = sym (fresh_none key rs)
  joined_upto key b rs w ps bounds (suc n) l =
      let within : n < length rs = omega (arith, l) in
      let x = some_at rs n within in
      let s = x.0 in
      let is : s ≡ get_or rs n s = sym (get_or_from_slice_get rs n s s x.1) in
      let ih = joined_upto key b rs w ps bounds n (omega (arith, l)) in
      let bound = bounds n s x.1 in
      let same = part_at w rs n s ps within is in
      let next : n + 1 ≡ suc n = omega arith in
      (λ j. ih j ++ filter (λ e. not (is_below (sym bound j) e)) (below key (sym same j).done))
      ∙ sym (fresh_push key (take n rs) s)
      ∙ ap (λ z. fresh_of key (take n rs ++ z ∷ [])) is
      ∙ ap (fresh_of key) (sym (take_more rs n s within))
      ∙ ap (λ k. fresh_of key (take k rs)) next

module _ {S : Type 0} (net : Network S) where
  commit_after : (w : World) → after net w Commit ≡ record w { boundary = horizon net.header w }
  unfolding after
  commit_after w = refl

  rows_at : (b : Key) (w : World) (rs : List (Speculation S)) → w.parts ≡ map (λ r. r.part) rs → ((r : ℕ) (x : Speculation S) → slice_get rs r ≡ Some x → x.bound ≡ b) → length rs ≡ routers net → fresh_rows net b w ≡ sorted (fresh_of w.boundary rs)
  unfolding fresh_rows
  rows_at b w rs ps bounds n =
      ap sorted
      (joined_upto w.boundary b rs w ps bounds (routers net) (omega (arith, n))
      ∙ ap (fresh_of w.boundary) (take_all (routers net) rs (omega (arith, n))))

  fresh_is : (key b : Key) (h : Heading) (w : World) (rs : List (Speculation S)) → w.parts ≡ map (λ r. r.part) rs → ((r : ℕ) (x : Speculation S) → slice_get rs r ≡ Some x → x.bound ≡ b) → length rs ≡ routers net → net.header ≡ h → key ≡ horizon h w → fresh_rows net b (after net w Commit) ≡ sorted (fresh_of key rs)
  fresh_is key b h w rs ps bounds n head e =
      ap (fresh_rows net b) (commit_after w)
      ∙ rows_at b (record w { boundary = horizon net.header w }) rs ps bounds n
      ∙ ap (λ k. sorted (fresh_of k rs)) (ap (λ z. horizon z w) head ∙ sym e)

  same_count : (h : Heading) (rs : List (Speculation S)) → net.header ≡ h → length rs ≡ length h.routers → length rs ≡ routers net
  unfolding routers
  same_count h rs head n = n ∙ ap (λ (z : Heading). length z.routers) (sym head)

  pub committed_is : (h : Heading) (rs now : List (Speculation S)) (flight : List Packet) (floor : ℕ) (closed : Bool) (accepted : List External) (b key : Key) (rows all fresh : List Event) (limit : ℕ) (cut more out t u : Bool) →
      net.header ≡ h →
      length rs ≡ length h.routers →
      ((r : ℕ) (x : Speculation S) → slice_get rs r ≡ Some x → x.bound ≡ b) →
      key ≡ horizon h (world_of rs flight floor closed accepted b) →
      AreAsHandled rs now →
      fresh ≡ sorted (fresh_of key rs) →
      limit ≡ row_limit →
      all ≡ take limit (rows ++ fresh) →
      more ≡ nat_lt limit (length rows + length fresh) →
      out ≡ (cut || more) →
      u ≡ t →
      live_of h now (world_of now flight floor closed accepted key) all out u ≡ record (live_of h rs (world_of rs flight floor closed accepted b) rows cut t) { world = after net (world_of rs flight floor closed accepted b) Commit; rows = take row_limit (rows ++ fresh_rows net b (after net (world_of rs flight floor closed accepted b) Commit)); cut = cut || nat_lt row_limit (length rows + length (fresh_rows net b (after net (world_of rs flight floor closed accepted b) Commit))) }
  committed_is h rs now flight floor closed accepted b key rows all fresh limit cut more out t u head n bounds e a is_fresh is_limit is_all is_more is_out is_u =
      let w = world_of rs flight floor closed accepted b in
      let same : fresh ≡ fresh_rows net b (after net w Commit) = is_fresh ∙ sym (fresh_is key b h w rs refl bounds (same_count h rs head n) head e) in
      let bound : key ≡ horizon net.header w = e ∙ ap (λ z. horizon z w) (sym head) in
      let ps = parts_handled rs now a in
      let gs = guests_handled rs now a in
      let world : world_of now flight floor closed accepted key ≡ after net w Commit = (λ j. record { parts = ps j; flight = flight; floor = floor; closed = closed; accepted = accepted; boundary = bound j }) ∙ sym (commit_after w) in
      let shown : all ≡ take row_limit (rows ++ fresh_rows net b (after net w Commit)) = is_all ∙ (λ j. take (is_limit j) (rows ++ same j)) in
      let past : out ≡ (cut || nat_lt row_limit (length rows + length (fresh_rows net b (after net w Commit)))) = is_out ∙ ap (λ z. cut || z) (is_more ∙ (λ j. nat_lt (is_limit j) (length rows + length (same j)))) in
      λ j. record { header = h; openings = gs j; world = world j; rows = shown j; cut = past j; stopped = is_u j }

-- ---- how many rows there are

pub few_shown : (limit : ℕ) (rows all fresh : List Event) → limit ≡ row_limit → all ≡ take limit (rows ++ fresh) → length all ≤ row_limit
few_shown limit rows all fresh is h =
    let n = ap length h in let m = length-take limit (rows ++ fresh) in omega (arith, n, m, is)

pub full_shown : (limit : ℕ) (rows all fresh : List Event) (cut more : Bool) → limit ≡ row_limit → all ≡ take limit (rows ++ fresh) → (cut ≡ true → length rows ≡ row_limit) → more ≡ nat_lt limit (length rows + length fresh) → (cut || more) ≡ true → length all ≡ row_limit
full_shown limit rows all fresh true more is h full m e =
    let n = ap length h in let k = length-take limit (rows ++ fresh) in let j = length-append rows fresh in let f = full refl in omega (arith, n, k, j, f, is)
full_shown limit rows all fresh false more is h full m e =
    let n = ap length h in let k = length-take limit (rows ++ fresh) in let j = length-append rows fresh in let f = ltb-true limit (length rows + length fresh) (sym m ∙ e) in omega (arith, n, k, j, f, is)
