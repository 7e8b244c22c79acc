-- What a worker makes of the fabric, and of its seat.
use Rattle.std.proofs.Common.{◌≡◌, ℕ, ◌<◌, length, List, [], ◌∷◌, ◌++◌, map, filter, cond, Bool, true, false, None, Result, Ok, Err, OnOk, OnErr, IfOk, refl, sym, ap, ◌∙◌, subst, inl, inr, ⊎_elim, append-nil, append_assoc}
use Rattle.std.proofs.lemmas.List.Elements.{filter-append}
use Rattle.dn_guest.specs.Meaning.{Meaning}
use Rattle.dn_model.specs.Network.{Network}
use Rattle.dn_model.specs.Settled.{IsPrefixOf}
use Rattle.dn_world.specs.declared.entry.Entry.{Entry}
use Rattle.dn_world.specs.declared.entry.Entry.TheVariants.{Did, Stop}
use Rattle.dn_world.specs.declared.step.Step.{Step}
use Rattle.dn_world.specs.declared.step.Step.TheVariants.{Handle}
use Rattle.dn_world.specs.World.{horizon}
use Rattle.dn_world.specs.Logs.{fed, feeds_step, feeds_entry, log_of}
use Rattle.dn_fabric.specs.Fabrics.{Fabric, IsNetworkOf, IsReached, HasNoted, HasStopped, log_in, with_lease}
use Rattle.dn_router.specs.Orders.{Task}
use Rattle.dn_fabric.specs.declared.answer.Finished.{Finished}
use Rattle.dn_fabric.specs.declared.answer.Finished.TheVariants.{Applied, Stale}
use Rattle.dn_fabric.specs.declared.work.Work.{Work}
use Rattle.dn_fabric.specs.declared.work.Work.TheVariants as work
use Rattle.dn_fabric.specs.Answers.{HasEnded}
use Rattle.dn_fabric.specs.Work.{HasWork, IsFirstBehind, IsFirstFree, IsFree}
use Rattle.dn_turn.specs.Seat.{SeatView, holding, released_seat, MayPut}
use Rattle.dn_workers.specs.Holds.{HasTaken, HasGoneOn, IsOver}
use Rattle.dn_workers.specs.Work.{HasWorked, IsAtEnd, LeadsToEnd, IsDone}

pub prefix_self : {A : Type 0} (xs : List A) → IsPrefixOf xs xs
prefix_self xs = ([], append-nil xs)

pub prefix_trans : {A : Type 0} (xs ys zs : List A) → IsPrefixOf xs ys → IsPrefixOf ys zs → IsPrefixOf xs zs
prefix_trans xs ys zs p q = (p.0 ++ q.0, sym (append_assoc xs p.0 q.0) ∙ (ap (λ w. w ++ q.0) p.1 ∙ q.1))

fed_did : (xs : List Entry) (s : Step) → feeds_step s ≡ false → fed (xs ++ Did s ∷ []) ≡ fed xs
unfolding fed
fed_did xs s plain = filter-append feeds_entry xs (Did s ∷ []) ∙ (ap (λ b. filter feeds_entry xs ++ cond b (Did s ∷ []) []) plain ∙ append-nil (filter feeds_entry xs))

fed_stop : (xs : List Entry) → fed (xs ++ Stop ∷ []) ≡ fed xs
unfolding fed
fed_stop xs = filter-append feeds_entry xs (Stop ∷ []) ∙ append-nil (filter feeds_entry xs)

log_stop : (steps : List Step) → log_of steps true ≡ log_of steps false ++ Stop ∷ []
log_stop steps = ap (λ l. l ++ Stop ∷ []) (sym (append-nil (map Did steps)))

module _ {S : Type 0} where
  pub gone_self : (f : Fabric S) → HasGoneOn f f
  gone_self f = record { header = refl; openings = refl; grown = prefix_self (log_in f); same_fed = refl }

  pub gone_further : (f g h : Fabric S) → HasGoneOn f g → HasGoneOn g h → HasGoneOn f h
  gone_further f g h a b = record {
    header = b.header ∙ a.header;
    openings = b.openings ∙ a.openings;
    grown = prefix_trans (log_in f) (log_in g) (log_in h) a.grown b.grown;
    same_fed = b.same_fed ∙ a.same_fed;
  }

  -- a step that feeds nothing was noted
  pub gone_step : (f g : Fabric S) (s : Step) → feeds_step s ≡ false → HasNoted f s g → HasGoneOn f g
  gone_step f g s plain h = record {
    header = h.header;
    openings = h.openings;
    grown = (Did s ∷ [], sym h.log);
    same_fed = ap fed h.log ∙ fed_did (log_in f) s plain;
  }

  log_stopped : (f g : Fabric S) → f.live.stopped ≡ false → g.live.stopped ≡ true → g.journal ≡ f.journal → log_in g ≡ log_in f ++ Stop ∷ []
  log_stopped f g running stopped same =
      ap (λ b. log_of g.journal b) stopped ∙ (ap (λ ss. log_of ss true) same ∙ (log_stop f.journal ∙ ap (λ b. log_of f.journal b ++ Stop ∷ []) (sym running)))

  pub gone_stopped : (f g : Fabric S) → f.live.stopped ≡ false → HasStopped f g → HasGoneOn f g
  gone_stopped f g running h =
      let log = log_stopped f g running h.halted.stopped h.journal in
      record {
        header = h.halted.header;
        openings = h.halted.openings;
        grown = (Stop ∷ [], sym log);
        same_fed = ap fed log ∙ fed_stop (log_in f);
      }

  pub gone_leased : (f g : Fabric S) (r : ℕ) (on : Bool) → g ≡ with_lease f r on → HasGoneOn f g
  gone_leased f g r on is = subst (HasGoneOn f) (sym is) record { header = refl; openings = refl; grown = prefix_self (log_in f); same_fed = refl }

  -- a call that takes a step, by its answer
  pub gone_by : {X E : Type 0} (f g : Fabric S) (s : Step) (r : Result X E) → f.live.stopped ≡ false → feeds_step s ≡ false → OnOk r (HasNoted f s g) → OnErr r (HasStopped f g) → HasGoneOn f g
  gone_by f g s (Ok x) running plain ok err = gone_step f g s plain ok
  gone_by f g s (Err e) running plain ok err = gone_stopped f g running err

  -- an outcome came back
  pub gone_ended : (f g : Fabric S) (task : Task S) (x : Finished) → HasEnded f task x g → HasGoneOn f g
  gone_ended f g task Applied h = gone_further f (with_lease f task.router false) g (gone_leased f (with_lease f task.router false) task.router false refl) (gone_step (with_lease f task.router false) g (Handle task.router) refl h)
  gone_ended f g task Stale is = gone_leased f g task.router false is

  pub gone_finished : {E : Type 0} (f g : Fabric S) (task : Task S) (r : Result Finished E) → f.live.stopped ≡ false → IfOk r (λ x. HasEnded f task x g) → OnErr r (HasStopped f g) → HasGoneOn f g
  gone_finished f g task (Ok x) running ok err = gone_ended f g task x ok
  gone_finished f g task (Err e) running ok err = gone_stopped f g running err

  pub ended_running : (f g : Fabric S) (task : Task S) (x : Finished) → f.live.stopped ≡ false → HasEnded f task x g → g.live.stopped ≡ false
  ended_running f g task Applied running h = h.stopped ∙ running
  ended_running f g task Stale running is = ap (λ (x : Fabric S). x.live.stopped) is ∙ running

  -- the fabric was stopped
  pub gone_stop : (f g : Fabric S) → f.live.stopped ≡ false → g ≡ record f { live = record f.live { stopped = true } } → HasGoneOn f g
  gone_stop f g running is = subst (HasGoneOn f) (sym is) (gone_stopped f (record f { live = record f.live { stopped = true } }) running record {
    halted = record { stopped = refl; header = refl; openings = refl };
    journal = refl;
  })

  -- what there is to do may be done
  pub may_deliver : (f : Fabric S) (w : Work) (n : ℕ) → w ≡ work.Deliver n → HasWork f w → n < length f.live.world.flight
  may_deliver f w n is has = let h = subst (HasWork f) is has in subst (λ k. k < length f.live.world.flight) (sym h.0) h.1

  pub may_roll_back : (f : Fabric S) (w : Work) (r : ℕ) → w ≡ work.RollBack r → HasWork f w → IsFirstBehind f r
  may_roll_back f w r is has = subst (HasWork f) is has

  pub may_lease : (f : Fabric S) (w : Work) (r : ℕ) → w ≡ work.Handle r → HasWork f w → IsFree f r
  may_lease f w r is has = let h : IsFirstFree f r = subst (HasWork f) is has in h.free

  -- nothing is to be done any more
  pub over_ended : (f : Fabric S) (w : Work) → f.live.stopped ≡ false → w ≡ work.Ended → HasWork f w → IsOver f
  over_ended f w running is has = let h = subst (HasWork f) is has in inr (h.1, h.0.at running)

  -- the seat after the fabric was put back
  pub may_put : (v : SeatView S) (f g : Fabric S) → HasTaken v f → HasGoneOn f g → MayPut v g.live.header g.live.openings (log_in g)
  may_put v f g t w = record { taken = log_in f; holds = t.held; same_header = w.header ∙ t.header; same_opening = w.openings ∙ t.opening; grown = w.grown; same_fed = λ _. w.same_fed }

  pub worked : (v w : SeatView S) (f g : Fabric S) → HasTaken v f → HasGoneOn f g → w ≡ released_seat (log_in g) v → HasWorked v w
  worked v w f g t gone put = subst (HasWorked v) (sym put) record {
    same = record { turn = refl; header = refl; opening = refl; feeds = refl; first = refl; out = refl };
    free = refl;
    seen = prefix_trans v.seen (log_in f) (log_in g) t.seen gone.grown;
    same_fed = λ feeds. gone.same_fed ∙ t.same_fed feeds;
  }

  pub worked_self : (v : SeatView S) → v.held ≡ None → HasWorked v v
  worked_self v free = record {
    same = record { turn = refl; header = refl; opening = refl; feeds = refl; first = refl; out = refl };
    free = free;
    seen = prefix_self v.seen;
    same_fed = λ _. refl;
  }

  -- one hold more
  pub worked_more : (u v h w : SeatView S) (l : List Entry) → HasWorked u v → h ≡ holding l v → HasWorked h w → HasWorked u w
  worked_more u v h w l a is b =
      let c : HasWorked (holding l v) w = subst (λ x. HasWorked x w) is b in
      record {
        same = record {
          turn = c.same.turn ∙ a.same.turn;
          header = c.same.header ∙ a.same.header;
          opening = c.same.opening ∙ a.same.opening;
          feeds = c.same.feeds ∙ a.same.feeds;
          first = c.same.first ∙ a.same.first;
          out = c.same.out ∙ a.same.out;
        };
        free = c.free;
        seen = prefix_trans u.seen v.seen w.seen a.seen c.seen;
        same_fed = λ feeds. c.same_fed (a.same.feeds ∙ feeds) ∙ a.same_fed feeds;
      }

  -- the fabric was taken by the seat
  pub taken : (v h : SeatView S) (f : Fabric S) → h ≡ holding (log_in f) v → (f.live.header ≡ v.header) × (f.live.openings ≡ v.opening) → IsPrefixOf v.seen (log_in f) → (v.feeds ≡ true → fed (log_in f) ≡ fed v.seen) → HasTaken h f
  taken v h f is same seen same_fed = subst (λ (x : SeatView S). HasTaken x f) (sym is) record { held = refl; header = same.0; opening = same.1; seen = seen; same_fed = same_fed }

  -- a fabric whose journal leads to its world
  abbrev Reached : Meaning S → Fabric S → Type 0
  Reached m f = (net : Network S) → IsNetworkOf net m f.live.header f.live.openings → f.live.stopped ≡ false → IsReached net f

  at_end : (net : Network S) (m : Meaning S) (f : Fabric S) → IsNetworkOf net m f.live.header f.live.openings → IsReached net f → IsOver f → IsAtEnd net f.live.world
  at_end net m f is r over = ⊎_elim
      (λ (c : (f.live.world.closed ≡ true) × (f.live.cut ≡ true)). inl (c.0, sym r.cut ∙ c.1))
      (λ (q : _). inr (q.0, q.1 ∙ ap (λ h. horizon h f.live.world) (sym is.header)))
      over

  pub leads : (m : Meaning S) (f : Fabric S) → f.live.stopped ≡ false → Reached m f → IsOver f → LeadsToEnd m f.live.header f.live.openings (log_in f)
  leads m f running reached over = record {
    steps = f.journal;
    is = ap (λ b. log_of f.journal b) running;
    legal = λ net is. (reached net is running).legal;
    end = λ net is. subst (IsAtEnd net) (sym (reached net is running).world) (at_end net m f is (reached net is running) over);
  }

  -- the seat that has put back a fabric in which all is done
  pub done_over : (m : Meaning S) (v w : SeatView S) (f g : Fabric S) → HasTaken v f → HasGoneOn f g → w ≡ released_seat (log_in g) v → g.live.stopped ≡ false → Reached m g → IsOver g → IsDone m w
  done_over m v w f g t gone put running reached over =
      let header : g.live.header ≡ v.header = gone.header ∙ t.header in
      let opening : g.live.openings ≡ v.opening = gone.openings ∙ t.opening in
      let all : LeadsToEnd m v.header v.opening (log_in g) = subst (λ h. LeadsToEnd m h v.opening (log_in g)) header (subst (λ o. LeadsToEnd m g.live.header o (log_in g)) opening (leads m g running reached over)) in
      subst (IsDone m) (sym put) (inr all)

  pub done_by : {X E : Type 0} (m : Meaning S) (v w : SeatView S) (f g : Fabric S) (r : Result X E) (P : X → Type 0) → HasTaken v f → HasGoneOn f g → w ≡ released_seat (log_in g) v → OnOk r (g.live.stopped ≡ false) → Reached m g → IfOk r (λ x. P x → IsOver g) → IfOk r (λ x. P x → IsDone m w)
  done_by m v w f g (Ok x) P t gone put running reached over = λ p. done_over m v w f g t gone put running reached (over p)
  done_by m v w f g (Err e) P t gone put running reached over = tt
