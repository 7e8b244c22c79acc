-- A lease whose outcome comes back at once is the step Handle.
use Rattle.std.proofs.Common.{◌≡◌, ℕ, zero, suc, ◌<◌, Bool, true, false, List, [], ◌∷◌, length, get_or, set, refl, sym, ap, ◌∙◌, subst, arith}
use Rattle.std.proofs.lemmas.List.{set-get_or, get_or-set_same}
use Rattle.dn_guest.specs.Meaning.{Meaning}
use Rattle.dn_model.specs.Network.{Network}
use Rattle.dn_router.specs.Orders.{Task}
use Rattle.dn_router.specs.Routers.{order_of}
use Rattle.dn_world.specs.declared.step.Step.TheVariants.{Handle}
use Rattle.dn_world.specs.World.{part, is_ready}
use Rattle.dn_fabric.specs.declared.answer.Finished.{Finished}
use Rattle.dn_fabric.specs.declared.answer.Finished.TheVariants.{Applied, Stale}
use Rattle.dn_fabric.specs.Fabrics.{Fabric, IsNetworkOf, HasStepped, router_of, with_lease}
use Rattle.dn_fabric.specs.Answers.{IsOrdered, HasFinished}
use Rattle.dn_drive.specs.Driving.{IsDriven}

set_back : {X : Type 0} (xs : List X) (r : ℕ) (x y : X) → set (set xs r x) r y ≡ set xs r y
set_back [] r x y = refl
set_back (z ∷ zs) zero x y = refl
set_back (z ∷ zs) (suc r) x y = ap (λ l. z ∷ l) (set_back zs r x y)

module _ {S : Type 0} (m : Meaning S) (f : Fabric S) (some : (net : Network S) × IsNetworkOf net m f.live.header f.live.openings) (d : IsDriven f) (r : ℕ) where
  -- the task is the order that the router gives
  abbrev pub IsGiven : Task S → Type 0
  IsGiven task = (net : Network S) → IsNetworkOf net m f.live.header f.live.openings → task ≡ order_of m (router_of net f.live.world r)

  pub given_router : (task : Task S) → IsGiven task → task.router ≡ r
  given_router task e = ap (λ (t : Task S). t.router) (e some.0 some.1)

  pub is_leased : (task : Task S) → IsGiven task → r < length f.live.header.routers → get_or (set f.leased r true) task.router false ≡ true
  is_leased task e l =
      let lt : r < length f.leased = omega (arith, d.leases) in
      ap (λ k. get_or (set f.leased r true) k false) (given_router task e) ∙ get_or-set_same f.leased r true false lt

  given_back : set (set f.leased r true) r false ≡ f.leased
  given_back =
      set_back f.leased r true false
      ∙ ap (λ b. set f.leased r b) (sym (d.free r))
      ∙ set-get_or f.leased r false

  pub is_handled : (net : Network S) → IsNetworkOf net m f.live.header f.live.openings → (task : Task S) (fin : Finished) (now : Fabric S) → IsGiven task → is_ready (part f.live.world r) ≡ true → HasFinished net (with_lease f r true) task fin now → HasStepped net f (Handle r) now
  is_handled net is task Stale now e ready h =
      absurd (h.0 (subst (IsOrdered net (with_lease f r true).live) (sym (e net is)) (ready, ap (λ g. order_of g (router_of net f.live.world r)) (sym is.guests))))
  is_handled net is task Applied now e ready h =
      subst (λ (l : List Bool). HasStepped net (record f { leased = l }) (Handle r) now) given_back
      (subst (λ k. HasStepped net (with_lease (with_lease f r true) k false) (Handle k) now) (given_router task e) h.1)
