-- A run that feeds a case as its groups ask leaves a world that the case goes on from.
use Rattle.std.proofs.Common.{◌≡◌, ℕ, suc, ◌≤◌, true, false, List, [], ◌∷◌, ◌++◌, refl, sym, ap, ◌∙◌, subst, arith, append_assoc}
use Rattle.std.specs.Prelude.{Option, Some, None, slice_get}
use Rattle.std.specs.List.{AllByRecursion}
use Rattle.dn_model.specs.declared.event.Event.{Event}
use Rattle.dn_model.specs.declared.feed.External.{External}
use Rattle.dn_model.specs.Network.{Network, routers}
use Rattle.dn_lists.proofs.Lists.{all_weaker}
use Rattle.dn_world.specs.declared.packet.Packet.{Packet}
use Rattle.dn_world.specs.declared.step.Step.{Step}
use Rattle.dn_world.specs.declared.step.Step.TheVariants.{Beacon, Inject, Close, Deliver, Handle, RollBack, Commit}
use Rattle.dn_world.specs.World.{Part, World, part, opening}
use Rattle.dn_world.specs.Steps.{is_enabled, beacon, inject, deliver, handle, roll_back, after}
use Rattle.dn_world.specs.Runs.{IsLegalFrom, run, world, Continues, DontFall, StartsLater, Feeds, IsFedFrom}
use Rattle.dn_world.proofs.Past.{inject_open}

-- the rest of the feed where the world is
record GoesOn (feed : List External) (w : World) (xs : List External) : Type 0 where
  whole : w.accepted ++ xs ≡ feed
  not_past : AllByRecursion (λ x. w.floor ≤ x.group) xs
  falls : DontFall xs
  no_more : w.closed ≡ true → xs ≡ []

all_later : (floor : ℕ) (xs : List External) → DontFall xs → StartsLater floor xs → AllByRecursion (λ x. suc floor ≤ x.group) xs
all_later floor [] d h = tt
all_later floor (x ∷ xs) d h = (h, all_weaker (λ y. x.group ≤ y.group) (λ y. suc floor ≤ y.group) xs (λ y g. omega (arith, h, g)) d.0)

module _ {S : Type 0} (net : Network S) where
  pub fed_legal : (w : World) (xs zs : List External) (steps : List Step) → IsFedFrom net w xs steps zs → IsLegalFrom net w steps
  unfolding IsLegalFrom IsFedFrom
  fed_legal w xs zs [] f = tt
  fed_legal w xs zs (s ∷ ss) f = (f.1, fed_legal (after net w s) f.0 zs ss f.3)

  deliver_goes : (feed : List External) (w : World) (place : ℕ) (xs : List External) → GoesOn feed w xs → (o : Option Packet) → GoesOn feed (deliver w place o) xs
  unfolding deliver
  deliver_goes feed w place xs g None = g
  deliver_goes feed w place xs g (Some k) = record { whole = g.whole; not_past = g.not_past; falls = g.falls; no_more = g.no_more }

  handle_goes : (feed : List External) (w : World) (r : ℕ) (q : Part) (xs : List External) → GoesOn feed w xs → (es : List Event) → GoesOn feed (handle net w r q es) xs
  unfolding handle
  handle_goes feed w r q xs g [] = g
  handle_goes feed w r q xs g (e ∷ es) = record { whole = g.whole; not_past = g.not_past; falls = g.falls; no_more = g.no_more }

  step_goes : (feed : List External) (w : World) (s : Step) (xs ys : List External) → is_enabled net w s ≡ true → Feeds w xs s ys → GoesOn feed w xs → GoesOn feed (after net w s) ys
  unfolding after beacon inject roll_back
  step_goes feed w Beacon xs ys h f g =
      subst (GoesOn feed (after net w Beacon)) (sym f.1)
      (record { whole = g.whole; not_past = all_later w.floor xs g.falls f.0; falls = g.falls; no_more = g.no_more })
  step_goes feed w (Inject x) xs ys h f g =
      let past : AllByRecursion (λ x. w.floor ≤ x.group) (x ∷ ys) = subst (AllByRecursion (λ x. w.floor ≤ x.group)) f g.not_past in
      let falls : DontFall (x ∷ ys) = subst DontFall f g.falls in
      record {
        whole = append_assoc w.accepted (x ∷ []) ys ∙ ap (λ l. w.accepted ++ l) (sym f) ∙ g.whole;
        not_past = past.1;
        falls = falls.1;
        no_more = λ c. absurd (let no : true ≡ false = sym c ∙ (inject_open net w x h).0 in cc);
      }
  step_goes feed w Close xs ys h f g =
      subst (GoesOn feed (after net w Close)) (f.0 ∙ sym f.1)
      (record { whole = g.whole; not_past = g.not_past; falls = g.falls; no_more = λ _. f.0 })
  step_goes feed w (Deliver place) xs ys h f g = subst (GoesOn feed (after net w (Deliver place))) (sym f) (deliver_goes feed w place xs g (slice_get w.flight place))
  step_goes feed w (Handle r) xs ys h f g = subst (GoesOn feed (after net w (Handle r))) (sym f) (handle_goes feed w r (part w r) xs g (part w r).todo)
  step_goes feed w (RollBack r) xs ys h f g =
      subst (GoesOn feed (after net w (RollBack r))) (sym f) (record { whole = g.whole; not_past = g.not_past; falls = g.falls; no_more = g.no_more })
  step_goes feed w Commit xs ys h f g =
      subst (GoesOn feed (after net w Commit)) (sym f) (record { whole = g.whole; not_past = g.not_past; falls = g.falls; no_more = g.no_more })

  run_goes : (feed : List External) (w : World) (xs zs : List External) (steps : List Step) → IsFedFrom net w xs steps zs → GoesOn feed w xs → GoesOn feed (run net w steps) zs
  unfolding IsFedFrom run
  run_goes feed w xs zs [] f g = subst (GoesOn feed w) (sym f) g
  run_goes feed w xs zs (s ∷ ss) f g = run_goes feed (after net w s) f.0 zs ss f.3 (step_goes feed w s xs f.0 f.1 f.2 g)

  opening_goes : (feed : List External) → DontFall feed → GoesOn feed (opening (routers net)) feed
  unfolding opening
  opening_goes feed d = record { whole = refl; not_past = none_past feed; falls = d; no_more = λ c. absurd (cc) }
    where
      none_past : (xs : List External) → AllByRecursion (λ x. 0 ≤ x.group) xs
      none_past [] = tt
      none_past (x ∷ xs) = (omega arith, none_past xs)

  pub fed_continues : (feed rest : List External) (steps : List Step) → DontFall feed → IsFedFrom net (opening (routers net)) feed steps rest → Continues feed (world net steps)
  fed_continues feed rest steps d f =
      let g = run_goes feed (opening (routers net)) feed rest steps f (opening_goes feed d) in
      record { further = rest; whole = g.whole; not_past = g.not_past; no_more = g.no_more }
