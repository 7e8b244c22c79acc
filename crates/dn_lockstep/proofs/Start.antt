-- How a run begins: what waits is all that is injected, and the nodes are the opening ones.
use Rattle.std.proofs.Common.{◌≡◌, ℕ, zero, suc, ◌+◌, ◌-◌, ◌^◌, ◌<◌, Bool, true, false, Some, None, List, [], ◌∷◌, ◌++◌, length, ltb, refl, sym, ap, ◌∙◌, subst, arith}
use Rattle.std.specs.Prelude.{slice_get}
use Rattle.std.specs.FinMap.{IsAntisymmetric}
use Rattle.std.specs.List.{AllByRecursion}
use Rattle.std.specs.List.Sorted.{IsPermutation}
use Rattle.std.proofs.lemmas.List.Sorted.{IsPermutation-trans}
use Rattle.dn_guest.specs.declared.node.Node.{Node}
use Rattle.dn_model.specs.declared.event.Event.{Event}
use Rattle.dn_model.specs.declared.feed.External.{External}
use Rattle.dn_model.specs.declared.link.Link.{Link}
use Rattle.dn_model.specs.Cases.{Heading, Recording, IsRecording, AreExternals}
use Rattle.dn_model.specs.Links.{ports_of}
use Rattle.dn_model.specs.Order.{event_cmp, event_total}
use Rattle.dn_model.specs.Network.{Network, Family, tick, ticks, externals, injected, joined, routers, opening_node, state_from, state}
use Rattle.dn_model.specs.Settled.{IsTimed, IsFeedOf}
use Rattle.dn_model.specs.SoFar.{IsRunSoFar, IsWired, all_injected, by_router}
use Rattle.dn_lists.proofs.Lists.{all_weaker, all_append, all_permutation}
use Rattle.dn_lists.proofs.Sorting.{count, count_append, count_permutation, permutation_from_counts}
use Rattle.dn_lockstep.specs.Agendas.{group_ticks, later_ticks}
use Rattle.dn_lockstep.specs.Openings.{opening_from}
use Rattle.dn_lockstep.specs.Running.{StandsIn}
use Rattle.dn_lockstep.specs.Steps.{AreInside}

-- ---- ticks by router, and ticks by group

joined_both : (p : Event → Bool) (n : ℕ) (f g : Family) → count p (joined n (λ r. f r ++ g r)) ≡ count p (joined n f) + count p (joined n g)
unfolding joined
joined_both p zero f g = refl
joined_both p (suc n) f g =
    let all = count_append p (joined n (λ r. f r ++ g r)) (f n ++ g n) in
    let own = count_append p (f n) (g n) in
    let first = count_append p (joined n f) (f n) in
    let second = count_append p (joined n g) (g n) in
    let ih = joined_both p n f g in
    omega (arith, all, own, first, second, ih)

joined_nothing : (p : Event → Bool) (n : ℕ) → count p (joined n (λ r. [])) ≡ 0
unfolding joined
joined_nothing p zero = refl
joined_nothing p (suc n) =
    let all = count_append p (joined n (λ r. [])) [] in
    let ih = joined_nothing p n in
    omega (arith, all, ih)

one_group : (group n : ℕ) → joined n (λ r. tick group r ∷ []) ≡ group_ticks group n
unfolding joined group_ticks
one_group group zero = refl
one_group group (suc n) = ap (λ l. l ++ tick group n ∷ []) (one_group group n)

later_more : (p : Event → Bool) (group left n : ℕ) → count p (later_ticks group (suc left) n) ≡ count p (later_ticks group left n) + count p (group_ticks (group + left) n)
unfolding later_ticks
later_more p group zero n =
    let e : group + 0 ≡ group = omega arith in
    let all = count_append p (group_ticks group n) [] in
    rw e (omega (arith, all))
later_more p group (suc left) n =
    let e : group + suc left ≡ suc group + left = omega arith in
    let ih = later_more p (suc group) left n in
    let all = count_append p (group_ticks group n) (later_ticks (suc group) (suc left) n) in
    let some = count_append p (group_ticks group n) (later_ticks (suc group) left n) in
    rw e (omega (arith, ih, all, some))

ticks_by_group : (p : Event → Bool) (groups n : ℕ) → count p (joined n (ticks groups)) ≡ count p (later_ticks 0 groups n)
unfolding ticks later_ticks
ticks_by_group p zero n = joined_nothing p n
ticks_by_group p (suc groups) n =
    let e : 0 + groups ≡ groups = omega arith in
    let last : count p (joined n (λ r. tick groups r ∷ [])) ≡ count p (group_ticks groups n) = ap (count p) (one_group groups n) in
    let more = later_more p 0 groups n in
    let same : count p (group_ticks (0 + groups) n) ≡ count p (group_ticks groups n) = ap (λ g. count p (group_ticks g n)) e in
    joined_both p n (ticks groups) (λ r. tick groups r ∷ []) ∙ omega (arith, ticks_by_group p groups n, last, more, same)

-- ---- all that waits is at routers of the network

group_ticks_inside : (group n : ℕ) → AreInside n (group_ticks group n)
unfolding group_ticks
group_ticks_inside group zero = tt
group_ticks_inside group (suc n) =
    all_append (λ e. e.router < suc n) (group_ticks group n) (tick group n ∷ [])
    (all_weaker (λ e. e.router < n) (λ e. e.router < suc n) (group_ticks group n) (λ e h. omega (arith, h)) (group_ticks_inside group n))
    (omega arith, tt)

later_ticks_inside : (group left n : ℕ) → AreInside n (later_ticks group left n)
unfolding later_ticks
later_ticks_inside group zero n = tt
later_ticks_inside group (suc left) n =
    all_append (λ e. e.router < n) (group_ticks group n) (later_ticks (suc group) left n) (group_ticks_inside group n) (later_ticks_inside (suc group) left n)

externals_inside : (n place : ℕ) (feed : List External) → AllByRecursion (λ x. x.router < n) feed → AreInside n (externals place feed)
unfolding externals
externals_inside n place [] a = tt
externals_inside n place (x ∷ xs) a = (a.0, externals_inside n (suc place) xs a.1)

feed_inside : (h : Heading) (low : ℕ) (feed : List External) → AreExternals h low feed → AllByRecursion (λ x. x.router < length h.routers) feed
feed_inside h low [] a = tt
feed_inside h low (x ∷ xs) a = (a.0.router, feed_inside h x.group xs a.1)

pub inside_at_start : (case : Recording) → IsRecording case → (waiting : List Event) → IsPermutation (externals 0 case.feed ++ later_ticks 0 case.header.groups (length case.header.routers)) waiting → AreInside (length case.header.routers) waiting
inside_at_start case rules waiting moves =
    let n = length case.header.routers in
    let ticks = later_ticks 0 case.header.groups n in
    all_permutation (λ e. e.router < n) (externals 0 case.feed ++ ticks) waiting moves
    (all_append (λ e. e.router < n) (externals 0 case.feed) ticks (externals_inside n 0 case.feed (feed_inside case.header 0 case.feed rules.feed)) (later_ticks_inside 0 case.header.groups n))

-- ---- the opening nodes

pub opening_count : {S : Type 0} (links : List Link) (k : ℕ) (guests : List S) → length (opening_from links k guests) ≡ length guests
unfolding opening_from
opening_count links k [] = refl
opening_count links k (x ∷ xs) = ap suc (opening_count links (suc k) xs)

opening_at : {S : Type 0} (links : List Link) (k : ℕ) (guests : List S) (r : ℕ) (s : S) → slice_get guests r ≡ Some s → slice_get (opening_from links k guests) r ≡ Some (record { guest = s; ports = 2 ^ ports_of links (k + r) - 1; sends = 0 })
unfolding opening_from
opening_at links k [] r s h = absurd (cc)
opening_at links k (x ∷ xs) zero s h =
    let e : k + 0 ≡ k = omega arith in let same : x ≡ s = cc in rw e (ap (λ g. Some (record { guest = g; ports = 2 ^ ports_of links k - 1; sends = 0 })) same)
opening_at links k (x ∷ xs) (suc r) s h = let e : k + suc r ≡ suc k + r = omega arith in rw e (opening_at links (suc k) xs r s h)

-- ---- the start

-- a list of events of the first n routers is, up to order, its parts by router
abbrev pub Parted : Type 0
Parted = (n : ℕ) (es : List Event) → AreInside n es → IsPermutation (joined n (by_router es)) es

all_waits : {S : Type 0} → IsAntisymmetric event_cmp → Parted → (net : Network S) (feed : List External) → AllByRecursion (λ x. x.router < routers net) feed → IsPermutation (all_injected net feed) (externals 0 feed ++ later_ticks 0 net.header.groups (routers net))
unfolding injected
all_waits apart parted net feed inside =
    permutation_from_counts event_cmp event_total apart (all_injected net feed) (externals 0 feed ++ later_ticks 0 net.header.groups (routers net))
    (λ p.
    let n = routers net in
    let es = externals 0 feed in
    let both = joined_both p n (ticks net.header.groups) (by_router es) in
    let by_groups = ticks_by_group p net.header.groups n in
    let outside = count_permutation p (joined n (by_router es)) es (parted n es (externals_inside n 0 feed inside)) in
    let all = count_append p es (later_ticks 0 net.header.groups n) in
    both ∙ omega (arith, by_groups, outside, all))

-- what the rules of a case give of a network, and how a run of it begins
pub record Begins {S : Type 0} (net : Network S) (feed : List External) : Type 0 where
  pub timed : IsTimed net.header
  pub wired : IsWired net
  pub fed : IsFeedOf net.header feed
  pub first : (waiting : List Event) → IsPermutation (all_injected net feed) waiting → IsRunSoFar net feed [] waiting

pub stands_at_start : {S : Type 0} → IsAntisymmetric event_cmp → Parted → (net : Network S) (case : Recording) → Begins net case.feed → IsRecording case → net.header ≡ case.header → (guests : List S) → ((r : ℕ) → r < routers net → slice_get guests r ≡ Some (net.opening r)) → (header : Heading) → header ≡ case.header → (nodes : List (Node S)) → nodes ≡ opening_from header.links 0 guests → (waiting : List Event) → IsPermutation (externals 0 case.feed ++ later_ticks 0 header.groups (length header.routers)) waiting → StandsIn net case.feed (record { header = header; nodes = nodes; waiting = waiting; place = 0; last = None; spent = false })
unfolding routers state state_from opening_node
stands_at_start {S = S} apart parted net case begins rules same guests openings header header_is nodes nodes_are waiting moves =
    let here : header ≡ net.header = header_is ∙ sym same in
    let Inside : Heading → Type 0 = λ h. AllByRecursion (λ x. x.router < length h.routers) case.feed in
    let inside : AllByRecursion (λ x. x.router < routers net) case.feed = subst Inside (sym same) (feed_inside case.header 0 case.feed rules.feed) in
    let Moves : Heading → Type 0 = λ h. IsPermutation (externals 0 case.feed ++ later_ticks 0 h.groups (length h.routers)) waiting in
    let whole : IsPermutation (externals 0 case.feed ++ later_ticks 0 net.header.groups (routers net)) waiting = subst Moves here moves in
    record {
      timed = begins.timed;
      wired = begins.wired;
      fed = begins.fed;
      header = here;
      within = omega arith;
      so_far =
          begins.first waiting
          (IsPermutation-trans (all_injected net case.feed) (externals 0 case.feed ++ later_ticks 0 net.header.groups (routers net)) waiting (all_waits apart parted net case.feed inside) whole);
      last = refl;
      nodes = λ r l.
          let e : 0 + r ≡ r = omega arith in
          ap (λ (ns : List (Node S)). slice_get ns r) nodes_are
          ∙ opening_at header.links 0 guests r (net.opening r) (openings r l)
          ∙ ap (λ k. Some (record { guest = net.opening r; ports = 2 ^ ports_of header.links k - 1; sends = 0 })) e
          ∙ ap (λ (h : Heading). Some (record { guest = net.opening r; ports = 2 ^ ports_of h.links r - 1; sends = 0 })) here;
      unspent = refl;
    }
