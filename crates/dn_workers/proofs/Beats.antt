-- One step more of a feed.
use Rattle.std.proofs.Common.{Result, Ok, Err, OnErr, ◌≡◌, ℕ, zero, suc, ◌+◌, ◌-◌, ◌≤◌, true, false, List, [], ◌∷◌, ◌++◌, replicate, refl, sym, ap, ◌∙◌, subst, arith, append_assoc, append-nil}
use Rattle.dn_model.specs.declared.feed.External.{External}
use Rattle.dn_model.specs.Network.{Network}
use Rattle.dn_world.specs.declared.step.Step.{Step}
use Rattle.dn_world.specs.declared.step.Step.TheVariants.{Beacon, Inject, Close}
use Rattle.dn_world.specs.Steps.{after, beacon, inject}
use Rattle.dn_fabric.specs.Fabrics.{Fabric, HasStepped, HasNoted, HasStopped}
use Rattle.dn_workers.specs.Feed.{HasFed, HasStoppedAfter}

-- what holds anyhow holds at an error
pub on_err_all : {T E R : Type 0} (r : Result T E) → R → OnErr r R
on_err_all (Ok x) h = tt
on_err_all (Err e) h = h

replicate_last : {A : Type 0} → (n : ℕ) → (x : A) → replicate n x ++ x ∷ [] ≡ replicate (suc n) x
replicate_last zero x = refl
replicate_last (suc n) x = ap (λ xs. x ∷ xs) (replicate_last n x)

module _ {S : Type 0} (net : Network S) where
  floor_beacon : (f : Fabric S) → (after net f.live.world Beacon).floor ≡ f.live.world.floor + 1
  unfolding after beacon
  floor_beacon f = omega arith

  closed_beacon : (f : Fabric S) → (after net f.live.world Beacon).closed ≡ f.live.world.closed
  unfolding after beacon
  closed_beacon f = refl

  floor_inject : (f : Fabric S) (x : External) → (after net f.live.world (Inject x)).floor ≡ f.live.world.floor
  unfolding after inject
  floor_inject f x = refl

  closed_inject : (f : Fabric S) (x : External) → (after net f.live.world (Inject x)).closed ≡ f.live.world.closed
  unfolding after inject
  closed_inject f x = refl

  floor_close : (f : Fabric S) → (after net f.live.world Close).floor ≡ f.live.world.floor
  unfolding after
  floor_close f = refl

  closed_close : (f : Fabric S) → (after net f.live.world Close).closed ≡ true
  unfolding after
  closed_close f = refl

  pub fed_beacon : (f g : Fabric S) → HasStepped net f Beacon g → HasNoted f Beacon g → f.live.stopped ≡ false → f.live.world.closed ≡ false → HasFed f (Beacon ∷ []) (f.live.world.floor + 1) false g
  fed_beacon f g s n r u = record { journal = n.journal; header = n.header; openings = n.openings; running = n.stopped ∙ r; floor = ap (λ x. x.live.world.floor) s.is ∙ floor_beacon f; closed = ap (λ x. x.live.world.closed) s.is ∙ closed_beacon f ∙ u }

  pub fed_inject : (f g h : Fabric S) (steps : List Step) (group : ℕ) (x : External) → HasFed f steps group false g → HasStepped net g (Inject x) h → HasNoted g (Inject x) h → HasFed f (steps ++ Inject x ∷ []) group false h
  fed_inject f g h steps group x k s n = record { journal = n.journal ∙ ap (λ xs. xs ++ Inject x ∷ []) k.journal ∙ append_assoc f.journal steps (Inject x ∷ []); header = n.header ∙ k.header; openings = n.openings ∙ k.openings; running = n.stopped ∙ k.running; floor = ap (λ y. y.live.world.floor) s.is ∙ floor_inject g x ∙ k.floor; closed = ap (λ y. y.live.world.closed) s.is ∙ closed_inject g x ∙ k.closed }

  pub fed_close : (f g h : Fabric S) (steps : List Step) (group : ℕ) → HasFed f steps group false g → HasStepped net g Close h → HasNoted g Close h → HasFed f (steps ++ Close ∷ []) group true h
  fed_close f g h steps group k s n = record { journal = n.journal ∙ ap (λ xs. xs ++ Close ∷ []) k.journal ∙ append_assoc f.journal steps (Close ∷ []); header = n.header ∙ k.header; openings = n.openings ∙ k.openings; running = n.stopped ∙ k.running; floor = ap (λ y. y.live.world.floor) s.is ∙ floor_close g ∙ k.floor; closed = ap (λ y. y.live.world.closed) s.is ∙ closed_close g }

module _ {S : Type 0} where
  pub fed_none : (f : Fabric S) → f.live.stopped ≡ false → f.live.world.closed ≡ false → HasFed f (replicate 0 Beacon) f.live.world.floor false f
  fed_none f r u = record { journal = sym (append-nil f.journal); header = refl; openings = refl; running = r; floor = refl; closed = u }

  -- one beacon more
  pub fed_more : (f g h : Fabric S) (n : ℕ) (group : ℕ) → HasFed f (replicate n Beacon) group false g → HasFed g (Beacon ∷ []) (g.live.world.floor + 1) false h → HasFed f (replicate (n + 1) Beacon) (group + 1) false h
  fed_more f g h n group k s = record {
    journal = s.journal ∙ ap (λ xs. xs ++ Beacon ∷ []) k.journal ∙ append_assoc f.journal (replicate n Beacon) (Beacon ∷ []) ∙ ap (λ xs. f.journal ++ xs) (replicate_last n Beacon ∙ ap (λ m. replicate m Beacon) (let e : suc n ≡ n + 1 = omega arith in e));
    header = s.header ∙ k.header;
    openings = s.openings ∙ k.openings;
    running = s.running;
    floor = s.floor ∙ ap (λ m. m + 1) k.floor;
    closed = s.closed;
  }

  -- want of memory after some beacons
  pub stopped_after : (f g h : Fabric S) (n : ℕ) (group : ℕ) → HasFed f (replicate n Beacon) group false g → HasStopped g h → HasStoppedAfter f n h
  stopped_after f g h n group k s = record { journal = s.journal ∙ k.journal; halted = record { stopped = s.halted.stopped; header = s.halted.header ∙ k.header; openings = s.halted.openings ∙ k.openings } }

  pub fed_first : (f : Fabric S) → f.live.stopped ≡ false → f.live.world.closed ≡ false → HasFed f (replicate (f.live.world.floor - f.live.world.floor) Beacon) f.live.world.floor false f
  fed_first f r u = let n = f.live.world.floor in let e : 0 ≡ n - n = omega arith in subst (λ m. HasFed f (replicate m Beacon) n false f) e (fed_none f r u)

  pub fed_on : (f g h : Fabric S) (begun : ℕ) → f.live.world.floor ≤ begun → HasFed f (replicate (begun - f.live.world.floor) Beacon) begun false g → HasFed g (Beacon ∷ []) (g.live.world.floor + 1) false h → HasFed f (replicate (begun + 1 - f.live.world.floor) Beacon) (begun + 1) false h
  fed_on f g h begun low k s = let n = f.live.world.floor in let e : begun - n + 1 ≡ begun + 1 - n = omega (arith, low) in subst (λ m. HasFed f (replicate m Beacon) (begun + 1) false h) e (fed_more f g h (begun - n) begun k s)
