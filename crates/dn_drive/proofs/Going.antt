-- Steps that a case asks for, and what they leave of its feed.
use Rattle.std.proofs.Common.{◌≡◌, ℕ, suc, ◌<◌, ◌≤◌, true, false, ◌&&◌, List, [], ◌∷◌, ◌++◌, drop, refl, sym, ap, ◌∙◌, subst, arith, append_assoc}
use Rattle.std.specs.Prelude.{◌==◌, Option, Some, None, slice_get}
use Rattle.std.specs.List.{AllByRecursion}
use Rattle.std.specs.Ordering.{is_eq}
use Rattle.std.specs.declared.cmp.Ordering.{Ordering}
use Rattle.std.specs.declared.cmp.Ordering.TheVariants.{Less, Equal, Greater}
use Rattle.std.proofs.lemmas.Bool.{and_parts, ltb-true, eqb-true}
use Rattle.dn_guest.specs.declared.input.Input.{Input}
use Rattle.dn_guest.specs.InputOrder.{input_cmp}
use Rattle.dn_model.specs.declared.event.Event.{Event}
use Rattle.dn_model.specs.declared.feed.External.{External}
use Rattle.dn_model.specs.Cases.{Heading, AreExternals}
use Rattle.dn_model.specs.Network.{Network, routers}
use Rattle.dn_world.specs.declared.packet.Packet.{Packet}
use Rattle.dn_world.specs.declared.step.Step.{Step}
use Rattle.dn_world.specs.declared.step.Step.TheVariants.{Beacon, Inject, Close, Deliver, Handle, RollBack, Commit}
use Rattle.dn_world.specs.World.{Part, World, part, opening}
use Rattle.dn_world.specs.Steps.{is_enabled, beacon, inject, deliver, handle, roll_back, after}
use Rattle.dn_world.specs.Runs.{injects, run, StartsLater, Feeds, IsFedFrom}
use Rattle.dn_fabric.specs.Fabrics.{Fabric, IsReached, HasStepped, stepped}
use Rattle.dn_drive.specs.Allowed.{is_same_external, starts_later, is_fed, rest_after}
use Rattle.dn_drive.proofs.May.{may}

-- ---- what the case asks

is_equal : (o : Ordering) → is_eq o ≡ true → o ≡ Equal
is_equal Less h = absurd (cc)
is_equal Equal h = refl
is_equal Greater h = absurd (cc)

-- the order of inputs tells them apart
abbrev pub InputsApart : Type 0
InputsApart = (x y : Input) → input_cmp x y ≡ Equal → x ≡ y

pub same_external : InputsApart → (x y : External) → is_same_external x y ≡ true → x ≡ y
same_external apart x y h =
    let a = and_parts ((x.group == y.group) && (x.router == y.router)) (is_eq (input_cmp x.input y.input)) h in
    let b = and_parts (x.group == y.group) (x.router == y.router) a.0 in
    let group : x.group ≡ y.group = eqb-true x.group y.group b.0 in
    let router : x.router ≡ y.router = eqb-true x.router y.router b.1 in
    let input : x.input ≡ y.input = apart x.input y.input (is_equal (input_cmp x.input y.input) a.1) in
    λ k. record { group = group k; router = router k; input = input k }

starts : (floor : ℕ) (xs : List External) → starts_later floor xs ≡ true → StartsLater floor xs
starts floor [] h = tt
starts floor (x ∷ xs) h = ltb-true floor x.group h

pub feeds : InputsApart → (w : World) (xs : List External) (s : Step) → is_fed w.floor xs s ≡ true → Feeds w xs s (rest_after xs s)
feeds apart w xs Beacon h = (starts w.floor xs h, refl)
feeds apart w [] (Inject x) h = absurd (cc)
feeds apart w (y ∷ ys) (Inject x) h = ap (λ z. z ∷ ys) (same_external apart y x h)
feeds apart w [] Close h = (refl, refl)
feeds apart w (y ∷ ys) Close h = absurd (cc)
feeds apart w xs (Deliver place) h = refl
feeds apart w xs (Handle r) h = refl
feeds apart w xs (RollBack r) h = refl
feeds apart w xs Commit h = refl

-- what a step injects stands before the rest after it
pub injects_on : InputsApart → (w : World) (xs further : List External) (s : Step) (ss : List Step) → is_fed w.floor xs s ≡ true → injects ss ++ further ≡ rest_after xs s → injects (s ∷ ss) ++ further ≡ xs
unfolding injects
injects_on apart w xs further Beacon ss fe e = e
injects_on apart w xs further (Inject x) ss fe e = ap (λ l. x ∷ l) e ∙ sym (feeds apart w xs (Inject x) fe)
injects_on apart w xs further Close ss fe e = e
injects_on apart w xs further (Deliver place) ss fe e = e
injects_on apart w xs further (Handle r) ss fe e = e
injects_on apart w xs further (RollBack r) ss fe e = e
injects_on apart w xs further Commit ss fe e = e

-- ---- the world and the rest of the feed go together

pub record Goes (h : Heading) (feed : List External) (w : World) (xs : List External) : Type 0 where
  pub whole : w.accepted ++ xs ≡ feed
  pub rules : AreExternals h w.floor xs
  pub floor : w.floor < h.groups
  pub no_more : w.closed ≡ true → xs ≡ []

-- as far as the feed goes the world is as before
pub record IsSame (v w : World) : Type 0 where
  pub accepted : w.accepted ≡ v.accepted
  pub floor : w.floor ≡ v.floor
  pub closed : w.closed ≡ v.closed

goes_same : (h : Heading) (feed : List External) (v w : World) (xs : List External) → IsSame v w → Goes h feed v xs → Goes h feed w xs
goes_same h feed v w xs s g =
    record {
      whole = ap (λ l. l ++ xs) s.accepted ∙ g.whole;
      rules = subst (λ n. AreExternals h n xs) (sym s.floor) g.rules;
      floor = subst (λ n. n < h.groups) (sym s.floor) g.floor;
      no_more = λ c. g.no_more (sym s.closed ∙ c);
    }

pub deliver_same : (w : World) (place : ℕ) (o : Option Packet) → IsSame w (deliver w place o)
unfolding deliver
deliver_same w place None = record { accepted = refl; floor = refl; closed = refl }
deliver_same w place (Some k) = record { accepted = refl; floor = refl; closed = refl }

later_rules : (h : Heading) (floor : ℕ) (xs : List External) → AreExternals h floor xs → StartsLater floor xs → AreExternals h (suc floor) xs
later_rules h floor [] a s = tt
later_rules h floor (x ∷ xs) a s = (record { rises = s; group = a.0.group; router = a.0.router; asked = a.0.asked }, a.1)

-- no external of the rest is of a group before the first's
groups_from : (h : Heading) (low first : ℕ) (xs : List External) → low ≤ first → AreExternals h first xs → AllByRecursion (λ x. low ≤ x.group) xs
groups_from h low first [] le a = tt
groups_from h low first (x ∷ xs) le a =
    let rises = a.0.rises in
    let here : low ≤ x.group = omega (arith, le, rises) in
    (here, groups_from h low x.group xs here a.1)

pub not_past : (h : Heading) (low : ℕ) (xs : List External) → AreExternals h low xs → AllByRecursion (λ x. low ≤ x.group) xs
not_past h low xs a = groups_from h low low xs (omega arith) a

module _ {S : Type 0} (net : Network S) where
  pub handle_same : (w : World) (r : ℕ) (p : Part) (es : List Event) → IsSame w (handle net w r p es)
  unfolding handle
  handle_same w r p [] = record { accepted = refl; floor = refl; closed = refl }
  handle_same w r p (e ∷ es) = record { accepted = refl; floor = refl; closed = refl }

  pub goes_on : InputsApart → (feed : List External) (w : World) (xs : List External) (s : Step) → is_enabled net w s ≡ true → is_fed w.floor xs s ≡ true → Goes net.header feed w xs → Goes net.header feed (after net w s) (rest_after xs s)
  unfolding after beacon inject roll_back
  goes_on apart feed w xs Beacon en fe g =
      let m = may net w Beacon en in
      record { whole = g.whole; rules = later_rules net.header w.floor xs g.rules (starts w.floor xs fe); floor = omega arith; no_more = g.no_more }
  goes_on apart feed w xs (Inject x) en fe g =
      let m = may net w (Inject x) en in
      let e : xs ≡ x ∷ drop 1 xs = feeds apart w xs (Inject x) fe in
      let r : AreExternals net.header w.floor (x ∷ drop 1 xs) = subst (AreExternals net.header w.floor) e g.rules in
      record {
        whole = append_assoc w.accepted (x ∷ []) (drop 1 xs) ∙ ap (λ l. w.accepted ++ l) (sym e) ∙ g.whole;
        rules = subst (λ n. AreExternals net.header n (drop 1 xs)) m.1 r.1;
        floor = g.floor;
        no_more = λ c. absurd (let no : true ≡ false = sym c ∙ m.0 in cc);
      }
  goes_on apart feed w xs Close en fe g =
      let e = feeds apart w xs Close fe in
      record { whole = g.whole; rules = g.rules; floor = g.floor; no_more = λ _. e.0 }
  goes_on apart feed w xs (Deliver place) en fe g = goes_same net.header feed w (after net w (Deliver place)) xs (deliver_same w place (slice_get w.flight place)) g
  goes_on apart feed w xs (Handle r) en fe g = goes_same net.header feed w (after net w (Handle r)) xs (handle_same w r (part w r) (part w r).todo) g
  goes_on apart feed w xs (RollBack r) en fe g = record { whole = g.whole; rules = g.rules; floor = g.floor; no_more = g.no_more }
  goes_on apart feed w xs Commit en fe g = record { whole = g.whole; rules = g.rules; floor = g.floor; no_more = g.no_more }

  -- once the world is closed nothing is left
  pub no_more_on : InputsApart → (w : World) (xs : List External) (s : Step) → is_enabled net w s ≡ true → is_fed w.floor xs s ≡ true → (w.closed ≡ true → xs ≡ []) → (after net w s).closed ≡ true → rest_after xs s ≡ []
  unfolding after beacon inject roll_back
  no_more_on apart w xs Beacon en fe none c = none c
  no_more_on apart w xs (Inject x) en fe none c = absurd (let no : true ≡ false = sym c ∙ (may net w (Inject x) en).0 in cc)
  no_more_on apart w xs Close en fe none c = (feeds apart w xs Close fe).0
  no_more_on apart w xs (Deliver place) en fe none c = none (sym (deliver_same w place (slice_get w.flight place)).closed ∙ c)
  no_more_on apart w xs (Handle r) en fe none c = none (sym (handle_same w r (part w r) (part w r).todo).closed ∙ c)
  no_more_on apart w xs (RollBack r) en fe none c = none c
  no_more_on apart w xs Commit en fe none c = none c

  fed_more : (w : World) (feed xs ys : List External) (js : List Step) (s : Step) → IsFedFrom net w feed js xs → is_enabled net (run net w js) s ≡ true → Feeds (run net w js) xs s ys → IsFedFrom net w feed (js ++ s ∷ []) ys
  unfolding IsFedFrom run
  fed_more w feed xs ys [] s f en fe = (ys, en, subst (λ l. Feeds w l s ys) f fe, refl)
  fed_more w feed xs ys (j ∷ js) s f en fe = (f.0, f.1, f.2, fed_more (after net w j) f.0 xs ys js s f.3 en fe)

  -- a fabric on its way through the case, with the rest xs of the feed
  pub record IsOn (feed : List External) (f : Fabric S) (xs : List External) : Type 0 where
    pub reached : IsReached net f
    pub fed : IsFedFrom net (opening (routers net)) feed f.journal xs
    pub goes : Goes net.header feed f.live.world xs

  pub step_on : InputsApart → (feed : List External) (f now : Fabric S) (xs : List External) (s : Step) → IsOn feed f xs → is_enabled net f.live.world s ≡ true → is_fed f.live.world.floor xs s ≡ true → HasStepped net f s now → IsOn feed now (rest_after xs s)
  step_on apart feed f now xs s o en fe h =
      let is_now : IsOn feed (stepped net f s) (rest_after xs s) = record {
        reached = subst (IsReached net) h.is h.reached;
        fed = fed_more (opening (routers net)) feed xs (rest_after xs s) f.journal s o.fed
            (subst (λ w. is_enabled net w s ≡ true) (sym o.reached.world) en)
            (subst (λ w. Feeds w xs s (rest_after xs s)) (sym o.reached.world) (feeds apart f.live.world xs s fe));
        goes = goes_on apart feed f.live.world xs s en fe o.goes;
      } in
      subst (λ n. IsOn feed n (rest_after xs s)) (sym h.is) is_now
