-- Lists of steps put together: the runs of them, their fronts, and what stays under every further list.
use Rattle.std.proofs.Common.{◌≡◌, ℕ, true, List, [], ◌∷◌, ◌++◌, refl, sym, ap, ◌∙◌, subst, append-nil}
use Rattle.std.specs.Prelude.{Option, Some, None, slice_get}
use Rattle.dn_model.specs.declared.event.Event.{Event}
use Rattle.dn_model.specs.Network.{Network, routers}
use Rattle.dn_model.specs.Settled.{IsTimed, IsPrefixOf}
use Rattle.dn_world.specs.declared.packet.Packet.{Packet}
use Rattle.dn_world.specs.declared.step.Step.{Step}
use Rattle.dn_world.specs.declared.step.Step.TheVariants.{Beacon, Inject, Close, Deliver, Handle, RollBack, Commit}
use Rattle.dn_world.specs.World.{Part, World, part, opening, horizon, is_quiet}
use Rattle.dn_world.specs.Steps.{beacon, inject, deliver, handle, roll_back, after}
use Rattle.dn_world.specs.Runs.{IsLegalFrom, IsLegal, IsAllPast, run, world, committed, is_cut_off}
use Rattle.dn_world.proofs.Balance.{IsCounted, step_counted}
use Rattle.dn_world.proofs.Growth.{committed_grow, cut_stays, ended_stays}
use Rattle.dn_world.proofs.Past.{boundary_kept}
use Rattle.dn_world.proofs.Prefix.{prefix_trans}
use Rattle.dn_world.proofs.Sound.{opening_counted, opening_past, run_counted, run_past}

module _ {S : Type 0} (net : Network S) where
  -- ---- two lists

  pub run_both : (w : World) (xs ys : List Step) → run net w (xs ++ ys) ≡ run net (run net w xs) ys
  unfolding run
  run_both w [] ys = refl
  run_both w (s ∷ xs) ys = run_both (after net w s) xs ys

  pub legal_both : (w : World) (xs ys : List Step) → IsLegalFrom net w xs → IsLegalFrom net (run net w xs) ys → IsLegalFrom net w (xs ++ ys)
  unfolding IsLegalFrom run
  legal_both w [] ys l m = m
  legal_both w (s ∷ xs) ys l m = (l.0, legal_both (after net w s) xs ys l.1 m)

  legal_parts : (w : World) (xs ys : List Step) → IsLegalFrom net w (xs ++ ys) → IsLegalFrom net w xs × IsLegalFrom net (run net w xs) ys
  unfolding IsLegalFrom run
  legal_parts w [] ys l = (tt, l)
  legal_parts w (s ∷ xs) ys l = let more = legal_parts (after net w s) xs ys l.1 in ((l.0, more.0), more.1)

  pub legal_rest : (xs ys : List Step) → IsLegal net (xs ++ ys) → IsLegalFrom net (world net xs) ys
  legal_rest xs ys l = (legal_parts (opening (routers net)) xs ys l).1

  pub front_legal : (xs ys : List Step) → IsPrefixOf xs ys → IsLegal net ys → IsLegal net xs
  front_legal xs ys p l = (legal_parts (opening (routers net)) xs p.0 (subst (IsLegal net) (sym p.1) l)).0

  -- ---- what stays

  deliver_closed : (w : World) (place : ℕ) (o : Option Packet) → (deliver w place o).closed ≡ w.closed
  unfolding deliver
  deliver_closed w place None = refl
  deliver_closed w place (Some k) = refl

  handle_closed : (w : World) (r : ℕ) (q : Part) (es : List Event) → (handle net w r q es).closed ≡ w.closed
  unfolding handle
  handle_closed w r q [] = refl
  handle_closed w r q (e ∷ es) = refl

  closed_on : (w : World) (s : Step) → w.closed ≡ true → (after net w s).closed ≡ true
  unfolding after beacon inject roll_back
  closed_on w Beacon h = h
  closed_on w (Inject x) h = h
  closed_on w Close h = refl
  closed_on w (Deliver place) h = deliver_closed w place (slice_get w.flight place) ∙ h
  closed_on w (Handle r) h = handle_closed w r (part w r) (part w r).todo ∙ h
  closed_on w (RollBack r) h = h
  closed_on w Commit h = h

  pub closed_stays : (w : World) (ss : List Step) → w.closed ≡ true → (run net w ss).closed ≡ true
  unfolding run
  closed_stays w [] h = h
  closed_stays w (s ∷ ss) h = closed_stays (after net w s) ss (closed_on w s h)

  pub ended_same : (w : World) (ss : List Step) → is_quiet w ≡ true → w.boundary ≡ horizon net.header w → IsLegalFrom net w ss → run net w ss ≡ w
  unfolding IsLegalFrom run
  ended_same w [] q b l = refl
  ended_same w (s ∷ ss) q b l =
      let same : after net w s ≡ w = ended_stays net w s q b l.0 in
      ap (λ v. run net v ss) same ∙ ended_same w ss q b (subst (λ v. IsLegalFrom net v ss) same l.1)

  cut_on : IsTimed net.header → (w : World) → IsCounted net w → IsAllPast net w.boundary w → (ss : List Step) → IsLegalFrom net w ss → is_cut_off net w ≡ true → is_cut_off net (run net w ss) ≡ true
  unfolding IsLegalFrom run
  cut_on t w a p [] l c = c
  cut_on t w a p (s ∷ ss) l c =
      cut_on t (after net w s) (step_counted net w s l.0 a) (boundary_kept net t w s l.0 a.rises p) ss l.1 (cut_stays net w s l.0 a p c)

  rows_on : IsTimed net.header → (w : World) → IsCounted net w → IsAllPast net w.boundary w → (ss : List Step) → IsLegalFrom net w ss → IsPrefixOf (committed net w) (committed net (run net w ss))
  unfolding IsLegalFrom run
  rows_on t w a p [] l = ([], append-nil (committed net w))
  rows_on t w a p (s ∷ ss) l =
      prefix_trans (committed net w) (committed net (after net w s)) (committed net (run net (after net w s) ss)) (committed_grow net w s l.0 a p)
      (rows_on t (after net w s) (step_counted net w s l.0 a) (boundary_kept net t w s l.0 a.rises p) ss l.1)

  module _ (timed : IsTimed net.header) (xs ys : List Step) (legal : IsLegal net (xs ++ ys)) where
    front : IsLegal net xs
    front = front_legal xs (xs ++ ys) (ys, refl) legal

    counted_there : IsCounted net (world net xs)
    counted_there = run_counted net (opening (routers net)) (opening_counted net) xs front

    past_there : IsAllPast net (world net xs).boundary (world net xs)
    past_there = run_past net timed (opening (routers net)) (opening_counted net) (opening_past net) xs front

    pub cut_for_ever : is_cut_off net (world net xs) ≡ true → is_cut_off net (world net (xs ++ ys)) ≡ true
    cut_for_ever c =
        subst (λ w. is_cut_off net w ≡ true) (sym (run_both (opening (routers net)) xs ys)) (cut_on timed (world net xs) counted_there past_there ys (legal_rest xs ys legal) c)

    pub rows_for_ever : IsPrefixOf (committed net (world net xs)) (committed net (world net (xs ++ ys)))
    rows_for_ever =
        subst (λ w. IsPrefixOf (committed net (world net xs)) (committed net w)) (sym (run_both (opening (routers net)) xs ys)) (rows_on timed (world net xs) counted_there past_there ys (legal_rest xs ys legal))
