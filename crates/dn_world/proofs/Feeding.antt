-- Floor, closed and accepted are told by the steps that feed a case alone.
use Rattle.std.proofs.Common.{◌≡◌, ℕ, suc, List, [], ◌∷◌, ◌++◌, refl, ap}
use Rattle.std.specs.Prelude.{Option, Some, None, slice_get}
use Rattle.dn_model.specs.declared.event.Event.{Event}
use Rattle.dn_model.specs.Network.{Network}
use Rattle.dn_world.specs.declared.packet.Packet.{Packet}
use Rattle.dn_world.specs.declared.step.Step.{Step}
use Rattle.dn_world.specs.declared.step.Step.TheVariants.{Beacon, Inject, Close, Deliver, Handle, RollBack, Commit}
use Rattle.dn_world.specs.World.{Part, World, part}
use Rattle.dn_world.specs.Steps.{beacon, inject, deliver, handle, roll_back, after}
use Rattle.dn_world.specs.Runs.{run, injects}
use Rattle.dn_world.specs.Logs.{feeding}

-- two worlds that have come equally far in the feed
pub record AreFedAlike (v w : World) : Type 0 where
  pub floor : v.floor ≡ w.floor
  pub closed : v.closed ≡ w.closed
  pub accepted : v.accepted ≡ w.accepted

pub alike_itself : (w : World) → AreFedAlike w w
alike_itself w = record { floor = refl; closed = refl; accepted = refl }

delivered : (v w : World) (place : ℕ) (o : Option Packet) → AreFedAlike v w → AreFedAlike (deliver v place o) w
unfolding deliver
delivered v w place None a = a
delivered v w place (Some k) a = record { floor = a.floor; closed = a.closed; accepted = a.accepted }

module _ {S : Type 0} (net : Network S) where
  handled : (v w : World) (r : ℕ) (q : Part) (es : List Event) → AreFedAlike v w → AreFedAlike (handle net v r q es) w
  unfolding handle
  handled v w r q [] a = a
  handled v w r q (e ∷ es) a = record { floor = a.floor; closed = a.closed; accepted = a.accepted }

  run_fed : (v w : World) (ss : List Step) → AreFedAlike v w → AreFedAlike (run net v ss) (run net w (feeding ss))
  unfolding run feeding after beacon inject roll_back
  run_fed v w [] a = a
  run_fed v w (Beacon ∷ ss) a =
      run_fed (after net v Beacon) (after net w Beacon) ss (record { floor = ap (λ n. suc n) a.floor; closed = a.closed; accepted = a.accepted })
  run_fed v w (Inject x ∷ ss) a =
      run_fed (after net v (Inject x)) (after net w (Inject x)) ss (record { floor = a.floor; closed = a.closed; accepted = ap (λ xs. xs ++ x ∷ []) a.accepted })
  run_fed v w (Close ∷ ss) a =
      run_fed (after net v Close) (after net w Close) ss (record { floor = a.floor; closed = refl; accepted = a.accepted })
  run_fed v w (Deliver place ∷ ss) a = run_fed (after net v (Deliver place)) w ss (delivered v w place (slice_get v.flight place) a)
  run_fed v w (Handle r ∷ ss) a = run_fed (after net v (Handle r)) w ss (handled v w r (part v r) (part v r).todo a)
  run_fed v w (RollBack r ∷ ss) a = run_fed (after net v (RollBack r)) w ss (record { floor = a.floor; closed = a.closed; accepted = a.accepted })
  run_fed v w (Commit ∷ ss) a = run_fed (after net v Commit) w ss (record { floor = a.floor; closed = a.closed; accepted = a.accepted })

  pub fed_alone : (w : World) (ss : List Step) → AreFedAlike (run net w ss) (run net w (feeding ss))
  fed_alone w ss = run_fed w w ss (alike_itself w)

pub injects_fed : (ss : List Step) → injects (feeding ss) ≡ injects ss
unfolding injects feeding
injects_fed [] = refl
injects_fed (Beacon ∷ ss) = injects_fed ss
injects_fed (Inject x ∷ ss) = ap (λ xs. x ∷ xs) (injects_fed ss)
injects_fed (Close ∷ ss) = injects_fed ss
injects_fed (Deliver place ∷ ss) = injects_fed ss
injects_fed (Handle r ∷ ss) = injects_fed ss
injects_fed (RollBack r ∷ ss) = injects_fed ss
injects_fed (Commit ∷ ss) = injects_fed ss
