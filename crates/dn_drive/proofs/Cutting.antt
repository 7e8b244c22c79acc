-- Only a Commit moves the boundary, so no other step cuts a world.
use Rattle.std.proofs.Common.{◌≡◌, ℕ, true, false, nat_lt, List, [], ◌∷◌, length, refl, sym, ap, ◌∙◌}
use Rattle.std.specs.Prelude.{Option, Some, None, slice_get}
use Rattle.dn_model.specs.declared.event.Event.{Event}
use Rattle.dn_model.specs.Network.{Network}
use Rattle.dn_model.specs.Settled.{row_limit}
use Rattle.dn_world.specs.declared.packet.Packet.{Packet}
use Rattle.dn_world.specs.declared.step.Step.{Step}
use Rattle.dn_world.specs.declared.step.Step.TheVariants.{Beacon, Inject, Close, Deliver, Handle, RollBack, Commit}
use Rattle.dn_world.specs.World.{Part, World, part}
use Rattle.dn_world.specs.Steps.{is_enabled, beacon, inject, deliver, handle, roll_back, after}
use Rattle.dn_world.specs.Runs.{IsAllPast, IsBalanced, settled_rows, is_cut_off}

deliver_bound : (w : World) (place : ℕ) (o : Option Packet) → (deliver w place o).boundary ≡ w.boundary
unfolding deliver
deliver_bound w place None = refl
deliver_bound w place (Some k) = refl

module _ {S : Type 0} (net : Network S) where
  handle_bound : (w : World) (r : ℕ) (p : Part) (es : List Event) → (handle net w r p es).boundary ≡ w.boundary
  unfolding handle
  handle_bound w r p [] = refl
  handle_bound w r p (e ∷ es) = refl

  -- where the boundary stays the rows stay
  abbrev RowsStay : Type 0
  RowsStay = (w : World) (s : Step) → is_enabled net w s ≡ true → IsBalanced net w → IsAllPast net w.boundary w → (after net w s).boundary ≡ w.boundary → settled_rows net (after net w s) ≡ settled_rows net w

  same_cut : RowsStay → (w : World) (s : Step) → is_enabled net w s ≡ true → IsBalanced net w → IsAllPast net w.boundary w → (after net w s).boundary ≡ w.boundary → is_cut_off net w ≡ false → is_cut_off net (after net w s) ≡ true → s ≡ Commit
  unfolding is_cut_off
  same_cut stay w s h b p e un cu =
      let same : nat_lt row_limit (length (settled_rows net (after net w s))) ≡ nat_lt row_limit (length (settled_rows net w)) = ap (λ rs. nat_lt row_limit (length rs)) (stay w s h b p e) in
      absurd (let both : true ≡ false = sym cu ∙ same ∙ un in cc)

  pub only_commit_cuts : RowsStay → (w : World) (s : Step) → is_enabled net w s ≡ true → IsBalanced net w → IsAllPast net w.boundary w → is_cut_off net w ≡ false → is_cut_off net (after net w s) ≡ true → s ≡ Commit
  unfolding after beacon inject roll_back
  only_commit_cuts stay w Beacon h b p un cu = same_cut stay w Beacon h b p refl un cu
  only_commit_cuts stay w (Inject x) h b p un cu = same_cut stay w (Inject x) h b p refl un cu
  only_commit_cuts stay w Close h b p un cu = same_cut stay w Close h b p refl un cu
  only_commit_cuts stay w (Deliver place) h b p un cu = same_cut stay w (Deliver place) h b p (deliver_bound w place (slice_get w.flight place)) un cu
  only_commit_cuts stay w (Handle r) h b p un cu = same_cut stay w (Handle r) h b p (handle_bound w r (part w r) (part w r).todo) un cu
  only_commit_cuts stay w (RollBack r) h b p un cu = same_cut stay w (RollBack r) h b p refl un cu
  only_commit_cuts stay w Commit h b p un cu = refl
