-- What a seat has seen, in a log that goes on from it.
use Rattle.std.proofs.Common.{◌≡◌, Bool, true, false, true≢false, List, [], ◌∷◌, ◌++◌, map, refl, sym, ap, ◌∙◌, subst, inl, inr, ⊎_elim}
use Rattle.dn_guest.specs.Meaning.{Meaning}
use Rattle.dn_model.specs.declared.feed.External.{External}
use Rattle.dn_model.specs.Network.{Network, routers}
use Rattle.dn_model.specs.Settled.{IsPrefixOf}
use Rattle.dn_world.specs.declared.entry.Entry.{Entry}
use Rattle.dn_world.specs.declared.entry.Entry.TheVariants.{Did}
use Rattle.dn_world.specs.declared.step.Step.{Step}
use Rattle.dn_world.specs.declared.step.Step.TheVariants.{Close}
use Rattle.dn_world.specs.World.{World, opening, is_quiet, horizon}
use Rattle.dn_world.specs.Steps.{after}
use Rattle.dn_world.specs.Logs.{log_of, IsLog, is_stopped, fed, feeding}
use Rattle.dn_world.specs.Runs.{IsLegal, IsLegalFrom, run, world, injects, is_cut_off}
use Rattle.dn_fabric.specs.Fabrics.{Fabric, IsNetworkOf, IsReached, log_in}
use Rattle.dn_turn.specs.Seat.{SeatView}
use Rattle.dn_workers.specs.Feed.{EndsWithClose}
use Rattle.dn_workers.specs.Holds.{IsOver}
use Rattle.dn_workers.specs.Joined.{HasAllOf, HasFedAll}
use Rattle.dn_workers.specs.Work.{IsAtEnd, LeadsToEnd, IsDone}

-- ---- steps and their logs

front_of : (xs ys : List Step) (rest : List Entry) → log_of xs false ++ rest ≡ log_of ys false → IsPrefixOf xs ys
front_of [] ys rest e = (ys, refl)
front_of (x ∷ xs) [] rest e = absurd (cc e)
front_of (x ∷ xs) (y ∷ ys) rest e = let t = front_of xs ys rest (cc e) in let same : x ≡ y = cc e in (t.0, ap (λ s. s ∷ (xs ++ t.0)) same ∙ ap (λ l. y ∷ l) t.1)

same_steps : (xs ys : List Step) → map Did xs ≡ map Did ys → xs ≡ ys
same_steps [] [] e = refl
same_steps [] (y ∷ ys) e = absurd (cc e)
same_steps (x ∷ xs) [] e = absurd (cc e)
same_steps (x ∷ xs) (y ∷ ys) e = let t = same_steps xs ys (cc e) in let same : x ≡ y = cc e in ap (λ s. s ∷ xs) same ∙ ap (λ l. y ∷ l) t

last_closes : (xs : List Step) (front : List Entry) → map Did xs ≡ front ++ Did Close ∷ [] → (steps : List Step) × (xs ≡ steps ++ Close ∷ [])
last_closes [] [] e = absurd (cc e)
last_closes [] (y ∷ ys) e = absurd (cc e)
last_closes (x ∷ []) [] e = let same : x ≡ Close = cc e in ([], ap (λ s. s ∷ []) same)
last_closes (x ∷ y ∷ ys) [] e = absurd (cc e)
last_closes (x ∷ xs) (y ∷ ys) e = let t = last_closes xs ys (cc e) in (x ∷ t.0, ap (λ l. x ∷ l) t.1)

abbrev pub Stays : Type 0
Stays = (xs ys : List Entry) → IsLog ys → IsPrefixOf xs ys → is_stopped xs ≡ true → is_stopped ys ≡ true

abbrev pub Stopped : Type 0
Stopped = (steps : List Step) (stopped : Bool) → is_stopped (log_of steps stopped) ≡ stopped

module _ {S : Type 0} (stays : Stays) (stopped : Stopped) where
  -- the seat has seen no stop
  none_seen : {A : Type 0} (v : SeatView S) (f : Fabric S) → HasAllOf v f → is_stopped v.seen ≡ true → A
  none_seen v f h s =
      let late = stays v.seen (log_in f) (record { steps = f.journal; stopped = f.live.stopped; is = refl }) h.seen s in
      absurd (true≢false (sym late ∙ (stopped f.journal f.live.stopped ∙ h.running)))

  pub feeder_closed : (f : Fabric S) (given : List External) (closed : Bool) (v w : SeatView S) → HasAllOf w f → HasFedAll given closed v w → (closed ≡ true) × EndsWithClose w.seen
  feeder_closed f given closed v w h k = ⊎_elim (λ s. none_seen w f h s) (λ e. e) k.ended

  -- the steps that feed the case are those of the seat that fed
  pub all_given : ((steps : List Step) (b : Bool) → fed (log_of steps b) ≡ map Did (feeding steps)) → ((steps : List Step) → injects (feeding steps) ≡ injects steps)
      → (f : Fabric S) (given : List External) (closed : Bool) (v w : SeatView S) → HasAllOf w f → HasFedAll given closed v w → fed (log_in f) ≡ fed w.seen → injects f.journal ≡ given
  all_given fed_is injects_are f given closed v w h k same =
      let steps = k.fed.steps in
      let e : feeding f.journal ≡ steps = same_steps (feeding f.journal) steps (sym (fed_is f.journal f.live.stopped) ∙ (same ∙ k.fed.is)) in
      let injected : injects steps ≡ given = ⊎_elim (λ i. i) (λ x. none_seen w f h x.1) k.fed.injected in
      sym (injects_are f.journal) ∙ (ap injects e ∙ injected)

  close_closes : (net : Network S) (w : World) → (after net w Close).closed ≡ true
  unfolding after
  close_closes net w = refl

  pub all_closed : ((steps : List Step) (b : Bool) → fed (log_of steps b) ≡ map Did (feeding steps))
      → (net : Network S) → ((w : World) (steps : List Step) → (run net w steps).closed ≡ (run net w (feeding steps)).closed) → ((steps : List Step) (s : Step) → world net (steps ++ s ∷ []) ≡ after net (world net steps) s)
      → (f : Fabric S) (given : List External) (closed : Bool) (v w : SeatView S) → IsReached net f → HasAllOf w f → HasFedAll given closed v w → fed (log_in f) ≡ fed w.seen → f.live.world.closed ≡ true
  all_closed fed_is net closed_by more f given closed v w r h k same =
      let ends = (feeder_closed f given closed v w h k).1 in
      let t = last_closes (feeding f.journal) ends.0 (sym (fed_is f.journal f.live.stopped) ∙ (same ∙ ends.1)) in
      ap (λ (x : World). x.closed) (sym r.world)
      ∙ (closed_by (opening (routers net)) f.journal
      ∙ (ap (λ (ss : List Step). (world net ss).closed) t.1
      ∙ (ap (λ (x : World). x.closed) (more t.0 Close) ∙ close_closes net (world net t.0))))

-- ---- the end of a run

module _ {S : Type 0} (net : Network S)
    (joined : (xs ys : List Step) → world net (xs ++ ys) ≡ run net (world net xs) ys)
    (rest : (xs ys : List Step) → IsLegal net (xs ++ ys) → IsLegalFrom net (world net xs) ys)
    (closed : (w : World) (steps : List Step) → w.closed ≡ true → (run net w steps).closed ≡ true)
    (ended : (w : World) (steps : List Step) → is_quiet w ≡ true → w.boundary ≡ horizon net.header w → IsLegalFrom net w steps → run net w steps ≡ w)
    (cut : (xs ys : List Step) → IsLegal net (xs ++ ys) → is_cut_off net (world net xs) ≡ true → is_cut_off net (world net (xs ++ ys)) ≡ true) where
  stays_at_end : (xs ys : List Step) → IsLegal net (xs ++ ys) → IsAtEnd net (world net xs) → IsAtEnd net (world net (xs ++ ys))
  stays_at_end xs ys legal at = ⊎_elim
      (λ (c : ((world net xs).closed ≡ true) × (is_cut_off net (world net xs) ≡ true)). inl (ap (λ (x : World). x.closed) (joined xs ys) ∙ closed (world net xs) ys c.0, cut xs ys legal c.1))
      (λ (q : (is_quiet (world net xs) ≡ true) × ((world net xs).boundary ≡ horizon net.header (world net xs))). inr
      (let same : world net (xs ++ ys) ≡ world net xs = joined xs ys ∙ ended (world net xs) ys q.0 q.1 (rest xs ys legal) in
      subst (λ x. (is_quiet x ≡ true) × (x.boundary ≡ horizon net.header x)) (sym same) q))
      at

  is_over : (m : Meaning S) (f : Fabric S) → IsNetworkOf net m f.live.header f.live.openings → IsReached net f → IsAtEnd net f.live.world → IsOver f
  is_over m f is r at = ⊎_elim
      (λ (c : (f.live.world.closed ≡ true) × (is_cut_off net f.live.world ≡ true)). inl (c.0, r.cut ∙ c.1))
      (λ (q : (is_quiet f.live.world ≡ true) × (f.live.world.boundary ≡ horizon net.header f.live.world)). inr (q.0, q.1 ∙ ap (λ h. horizon h f.live.world) is.header))
      at

  leads_over : (m : Meaning S) (f : Fabric S) (log : List Entry) → IsNetworkOf net m f.live.header f.live.openings → IsReached net f → f.live.stopped ≡ false → IsPrefixOf log (log_in f) → LeadsToEnd m f.live.header f.live.openings log → IsOver f
  leads_over m f log is r running p l =
      let front = front_of l.steps f.journal p.0 (ap (λ xs. xs ++ p.0) (sym l.is) ∙ (p.1 ∙ ap (λ b. log_of f.journal b) running)) in
      let whole : IsAtEnd net (world net (l.steps ++ front.0)) = stays_at_end l.steps front.0 (subst (IsLegal net) (sym front.1) r.legal) (l.end net is) in
      is_over m f is r (subst (IsAtEnd net) (ap (world net) front.1 ∙ r.world) whole)

  pub over_all : Stays → Stopped → (m : Meaning S) (f : Fabric S) (v : SeatView S) → IsNetworkOf net m f.live.header f.live.openings → IsReached net f → HasAllOf v f → IsDone m v → IsOver f
  over_all stays stopped m f v is r h done = ⊎_elim
      (λ s. none_seen stays stopped v f h s)
      (λ (l : LeadsToEnd m v.header v.opening v.seen). leads_over m f v.seen is r h.running h.seen
      (subst (λ o. LeadsToEnd m f.live.header o v.seen) (sym h.opening) (subst (λ x. LeadsToEnd m x v.opening v.seen) (sym h.header) l)))
      done
