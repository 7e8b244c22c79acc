-- A run goes on, and what it has accepted.
use Rattle.std.proofs.Common.{◌≡◌, ℕ, true, List, [], ◌∷◌, ◌++◌, refl, sym, ap, ◌∙◌, append_assoc, append-nil}
use Rattle.std.specs.Prelude.{Option, Some, None, slice_get}
use Rattle.dn_model.specs.declared.feed.External.{External}
use Rattle.dn_model.specs.declared.event.Event.{Event}
use Rattle.dn_model.specs.Network.{Network, routers}
use Rattle.dn_world.specs.declared.packet.Packet.{Packet}
use Rattle.dn_world.specs.declared.step.Step.{Step}
use Rattle.dn_world.specs.declared.step.Step.TheVariants.{Beacon, Inject, Close, Deliver, Handle, RollBack, Commit}
use Rattle.dn_world.specs.World.{Part, World, part, opening}
use Rattle.dn_world.specs.Steps.{is_enabled, beacon, inject, deliver, handle, roll_back, after}
use Rattle.dn_world.specs.Runs.{IsLegalFrom, run, world, injects, Continues, IsLegalOf}

pub own_case : (w : World) → Continues w.accepted w
own_case w = record { further = []; whole = append-nil w.accepted; not_past = tt; no_more = λ _. refl }

module _ {S : Type 0} (net : Network S) where
  pub legal_more : (w : World) (steps : List Step) (s : Step) → IsLegalFrom net w steps → is_enabled net (run net w steps) s ≡ true → IsLegalFrom net w (steps ++ s ∷ [])
  unfolding IsLegalFrom run
  legal_more w [] s l h = (h, tt)
  legal_more w (t ∷ ts) s l h = (l.0, legal_more (after net w t) ts s l.1 h)

  pub world_more : (w : World) (steps : List Step) (s : Step) → run net w (steps ++ s ∷ []) ≡ after net (run net w steps) s
  unfolding run
  world_more w [] s = refl
  world_more w (t ∷ ts) s = world_more (after net w t) ts s

  deliver_accepts : (w : World) (place : ℕ) (o : Option Packet) → (deliver w place o).accepted ≡ w.accepted
  unfolding deliver
  deliver_accepts w place None = refl
  deliver_accepts w place (Some k) = refl

  handle_accepts : (w : World) (r : ℕ) (q : Part) (es : List Event) → (handle net w r q es).accepted ≡ w.accepted
  unfolding handle
  handle_accepts w r q [] = refl
  handle_accepts w r q (e ∷ es) = refl

  run_accepts : (w : World) (steps : List Step) → (run net w steps).accepted ≡ w.accepted ++ injects steps
  unfolding run injects after beacon inject roll_back
  run_accepts w [] = sym (append-nil w.accepted)
  run_accepts w (Beacon ∷ ss) = run_accepts (after net w Beacon) ss
  run_accepts w (Inject x ∷ ss) = run_accepts (after net w (Inject x)) ss ∙ append_assoc w.accepted (x ∷ []) (injects ss)
  run_accepts w (Close ∷ ss) = run_accepts (after net w Close) ss
  run_accepts w (Deliver place ∷ ss) = run_accepts (after net w (Deliver place)) ss ∙ ap (λ l. l ++ injects ss) (deliver_accepts w place (slice_get w.flight place))
  run_accepts w (Handle r ∷ ss) = run_accepts (after net w (Handle r)) ss ∙ ap (λ l. l ++ injects ss) (handle_accepts w r (part w r) (part w r).todo)
  run_accepts w (RollBack r ∷ ss) = run_accepts (after net w (RollBack r)) ss
  run_accepts w (Commit ∷ ss) = run_accepts (after net w Commit) ss

  pub accepted_are : (steps : List Step) → (world net steps).accepted ≡ injects steps
  unfolding opening
  accepted_are steps = run_accepts (opening (routers net)) steps

  pub whole_case : (feed : List External) (steps : List Step) → IsLegalOf net feed steps → (world net steps).closed ≡ true → (world net steps).accepted ≡ feed
  whole_case feed steps l c =
      accepted_are steps ∙ sym (append-nil (injects steps)) ∙ ap (λ xs. injects steps ++ xs) (sym (l.no_more c)) ∙ l.whole
