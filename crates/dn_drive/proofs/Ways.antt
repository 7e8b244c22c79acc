-- The way of a fabric through a case, step by step.
use Rattle.std.proofs.Common.{◌≡◌, ℕ, zero, suc, ◌<◌, ◌≤◌, Bool, true, false, List, [], ◌∷◌, ◌++◌, length, refl, sym, ap, ◌∙◌, subst, ◌+◌, take, drop, append-nil, arith}
use Rattle.std.proofs.lemmas.List.{length-replicate, length-take-le, take-append-drop}
use Rattle.std.proofs.lemmas.Bool.{and_parts}
use Rattle.std.proofs.Math.Seq.{drop-cons, take-suc}
use Rattle.std.proofs.Math.ListN.{drop_of_length-le}
use Rattle.std.specs.Prelude.{get_or, replicate}
use Rattle.dn_guest.specs.Meaning.{Meaning}
use Rattle.dn_model.specs.declared.feed.External.{External}
use Rattle.dn_model.specs.Cases.{Heading, IsRecording}
use Rattle.dn_model.specs.Network.{Network, routers}
use Rattle.dn_world.specs.declared.step.Step.{Step}
use Rattle.dn_world.specs.World.{World, opening}
use Rattle.dn_world.specs.Steps.{is_enabled}
use Rattle.dn_world.specs.Runs.{IsFedFrom}
use Rattle.dn_fabric.specs.Fabrics.{Fabric, IsNetworkOf, IsReached, HasStepped, opening_fabric}
use Rattle.dn_drive.specs.Allowed.{is_fed, rest_after, is_allowed_here, is_allowed}
use Rattle.dn_fabric.specs.Driven.{IsOpening}
use Rattle.dn_drive.specs.Driving.{IsDriven, IsOfSameNetwork}
use Rattle.dn_drive.proofs.Going.{InputsApart, IsOn, step_on}
use Rattle.dn_drive.proofs.Following.{Follows, follows_on}
use Rattle.dn_drive.proofs.Allowing.{allowed_is}

module _ {S : Type 0} (net : Network S) (feed : List External) where
  -- a fabric on its way, that isn't cut, with the rest xs of the feed
  pub record IsWay (f : Fabric S) (xs : List External) : Type 0 where
    pub on : IsOn net feed f xs
    pub follows : Follows net feed f xs
    pub uncut : f.live.cut ≡ false

  way_first : (openings : List S) → IsRecording (record { header = net.header; feed = feed }) → IsReached net (opening_fabric net.header openings) → IsWay (opening_fabric net.header openings) feed
  unfolding routers opening IsFedFrom
  way_first openings is r =
      record {
        on = record {
          reached = r;
          fed = refl;
          goes = record { whole = refl; rules = is.feed; floor = let some = is.header.groups.0 in omega (arith, some); no_more = λ c. absurd (cc) };
        };
        follows = record { answer = λ ss. refl; front = λ ss. refl };
        uncut = refl;
      }

  pub way_begins : (m : Meaning S) (f : Fabric S) → IsOpening f → IsNetworkOf net m f.live.header f.live.openings → IsRecording (record { header = f.live.header; feed = feed }) → IsReached net f → IsWay f feed
  way_begins m f o is rec r =
      let e : f ≡ opening_fabric net.header f.live.openings = o.is ∙ ap (λ h. opening_fabric h f.live.openings) (sym is.header) in
      let rec_here : IsRecording (record { header = net.header; feed = feed }) = subst (λ (h : Heading). IsRecording (record { header = h; feed = feed })) (sym is.header) rec in
      subst (λ (g : Fabric S). IsWay g feed) (sym e) (way_first f.live.openings rec_here (subst (IsReached net) e r))

  -- an allowed step is enabled, and the case asks for it
  pub way_allowed : InputsApart → (h : Heading) (f : Fabric S) (xs : List External) (s : Step) (b : Bool) → net.header ≡ h → IsWay f xs → is_allowed_here h f.live.world xs s ≡ b → is_allowed net f.live.world xs s ≡ b
  way_allowed inputs h f xs s b e v a =
      sym (allowed_is inputs net f.live.world xs s v.on.goes.rules) ∙ ap (λ g. is_allowed_here g f.live.world xs s) e ∙ a

  pub allowed_parts : (w : World) (xs : List External) (s : Step) → is_allowed net w xs s ≡ true → (is_enabled net w s ≡ true) × (is_fed w.floor xs s ≡ true)
  unfolding is_allowed
  allowed_parts w xs s a = and_parts (is_enabled net w s) (is_fed w.floor xs s) a

  pub on_on : InputsApart → (f now : Fabric S) (xs : List External) (s : Step) → IsWay f xs → is_allowed net f.live.world xs s ≡ true → HasStepped net f s now → IsOn net feed now (rest_after xs s)
  on_on inputs f now xs s v a h =
      let p = allowed_parts f.live.world xs s a in
      step_on net inputs feed f now xs s v.on p.0 p.1 h

  pub way_on : InputsApart → (f now : Fabric S) (xs : List External) (s : Step) → IsWay f xs → is_allowed net f.live.world xs s ≡ true → HasStepped net f s now → now.live.cut ≡ false → IsWay now (rest_after xs s)
  way_on inputs f now xs s v a h c =
      record { on = on_on inputs f now xs s v a h; follows = follows_on net feed f now xs s v.follows a h.is c; uncut = c }

get_replicate : {X : Type 0} (n r : ℕ) (x : X) → get_or (replicate n x) r x ≡ x
get_replicate zero r x = refl
get_replicate (suc n) zero x = refl
get_replicate (suc n) (suc r) x = get_replicate n r x

-- a fabric before its first step is driven
pub driven_first : {S : Type 0} (m : Meaning S) (f : Fabric S) → IsOpening f → 1 ≤ length f.live.header.routers → (net : Network S) × IsNetworkOf net m f.live.header f.live.openings → ((net : Network S) → IsNetworkOf net m f.live.header f.live.openings → IsReached net f) → IsDriven f
unfolding routers
driven_first {S = S} m f o some found r =
    let leased = ap (λ (g : Fabric S). g.leased) o.is in
    record {
      some = some;
      one_each = o.one_each;
      leases = ap length leased ∙ length-replicate (length f.live.header.routers) false;
      running = ap (λ (g : Fabric S). g.live.stopped) o.is;
      free = λ n. ap (λ l. get_or l n false) leased ∙ get_replicate (length f.live.header.routers) n false;
      parts = (r found.0 found.1).balanced.count ∙ ap (λ (h : Heading). length h.routers) found.1.header;
    }

-- ---- the network stays

pub same_network : {S : Type 0} (net : Network S) (m : Meaning S) (before now : Fabric S) → IsOfSameNetwork before now → IsNetworkOf net m before.live.header before.live.openings → IsNetworkOf net m now.live.header now.live.openings
same_network net m before now s is =
    subst (λ h. IsNetworkOf net m h now.live.openings) (sym s.header) (subst (λ o. IsNetworkOf net m before.live.header o) (sym s.openings) is)

pub network_before : {S : Type 0} (net : Network S) (m : Meaning S) (before now : Fabric S) → IsOfSameNetwork before now → IsNetworkOf net m now.live.header now.live.openings → IsNetworkOf net m before.live.header before.live.openings
network_before net m before now s is =
    subst (λ h. IsNetworkOf net m h before.live.openings) s.header (subst (λ o. IsNetworkOf net m now.live.header o) s.openings is)

pub same_twice : {S : Type 0} (a b c : Fabric S) → IsOfSameNetwork a b → IsOfSameNetwork b c → IsOfSameNetwork a c
same_twice a b c s t = record { header = t.header ∙ s.header; openings = t.openings ∙ s.openings }

-- ---- a journal that is a front of the steps

pub apart : (steps js : List Step) (i : ℕ) (s : Step) → i < length steps → s ≡ get_or steps i s → js ≡ take i steps → steps ≡ js ++ s ∷ drop (suc i) steps
apart steps js i s l is e =
    sym (take-append-drop i steps)
    ∙ ap (λ r. take i steps ++ r) (drop-cons steps i s l ∙ ap (λ x. x ∷ drop (suc i) steps) (sym is))
    ∙ ap (λ r. r ++ s ∷ drop (suc i) steps) (sym e)

pub longer : (steps js now : List Step) (i : ℕ) (s : Step) → i < length steps → s ≡ get_or steps i s → js ≡ take i steps → now ≡ js ++ s ∷ [] → now ≡ take (i + 1) steps
longer steps js now i s l is e n =
    let on : suc i ≡ i + 1 = omega arith in
    n ∙ ap (λ r. r ++ s ∷ []) e ∙ ap (λ x. take i steps ++ x ∷ []) is ∙ sym (take-suc steps i s l) ∙ ap (λ k. take k steps) on

pub as_long : (steps js : List Step) (i : ℕ) → i ≤ length steps → js ≡ take i steps → length js ≡ i
as_long steps js i l e = ap length e ∙ length-take-le i steps l

pub whole_journal : (steps js : List Step) (i : ℕ) → length steps ≤ i → js ≡ take i steps → steps ≡ js
whole_journal steps js i l e =
    sym (e ∙ sym (append-nil (take i steps)) ∙ ap (λ r. take i steps ++ r) (sym (drop_of_length-le steps l)) ∙ take-append-drop i steps)
