-- The steps that the calls of a fabric take.
use Rattle.std.proofs.Common.{◌≡◌, ℕ, ◌+◌, ◌<◌, ◌≤◌, Bool, true, false, List, [], ◌∷◌, ◌++◌, length, take, refl, sym, ap, ◌∙◌, subst, arith, set, length-take, length-append}
use Rattle.std.specs.Prelude.{slice_get, if◌then◌else◌, Result, Ok, IfOk, is_ok}
use Rattle.std.proofs.Math.ListN.{length-set}
use Rattle.dn_guest.specs.Meaning.{Meaning}
use Rattle.dn_model.specs.declared.feed.External.{External}
use Rattle.dn_model.specs.Cases.{Heading}
use Rattle.dn_model.specs.Network.{Network}
use Rattle.dn_model.specs.Settled.{row_limit}
use Rattle.dn_world.specs.declared.entry.Entry.TheVariants.{Did}
use Rattle.dn_world.specs.declared.step.Step.{Step}
use Rattle.dn_world.specs.declared.step.Step.TheVariants.{Beacon, Inject, Close, Deliver, Handle, RollBack, Commit}
use Rattle.dn_world.specs.World.{part, is_behind, is_ready}
use Rattle.dn_world.specs.Steps.{is_enabled, is_injectable, after, beacon, inject, deliver, taken_off}
use Rattle.std.specs.List.{AllByRecursion}
use Rattle.dn_world.specs.Runs.{IsPast, settled_rows, fresh_rows}
use Rattle.dn_world.specs.Logs.{log_of}
use Rattle.dn_fabric.specs.Fabrics.{Live, Fabric, HasStepped, HasNoted, HasStopped, live_after, stepped, with_lease}
use Rattle.dn_fabric.specs.Holds.{IsFabric}
use Rattle.dn_fabric.proofs.Stepping.{StepLaws, live_grown, live_stays, live_grows, shown_front}
use Rattle.dn_fabric.proofs.Calls.{OfEach, the_network, leased_holds, taken, taken_holds, halted_over}
use Rattle.dn_fabric.proofs.Enabled.{beacon_enabled, inject_enabled, close_enabled, deliver_enabled, handle_enabled, roll_back_enabled, commit_enabled, beacon_is, inject_is, close_is, deliver_is, LeavesBoundary, beacon_leaves, inject_leaves, close_leaves, deliver_leaves, handle_leaves, roll_back_leaves}

-- a fabric by its fields
abbrev pub fab : {S : Type 0} → Live S → List Step → List Bool → Fabric S
fab l j leased = record { live = l; journal = j; leased = leased }

-- the step was taken, and what holds of a fabric holds again
pub record IsTaken {S : Type 0} (guests : Meaning S) (f : Fabric S) (s : Step) (now : Fabric S) : Type 0 where
  pub holds : IsFabric guests now
  pub stepped : OfEach guests f (λ net. HasStepped net f s now)
  pub noted : HasNoted f s now

-- what a Commit leaves
abbrev pub committed_live : {S : Type 0} → Network S → Live S → Live S
committed_live net l = live_grown net l Commit

module _ {S : Type 0} (guests : Meaning S) (laws : StepLaws S) (f : Fabric S) (holds : IsFabric guests f) (running : f.live.stopped ≡ false) where
  all_taken : (s : Step) (l : Live S) (j : List Step) → OfEach guests f (λ net. is_enabled net f.live.world s ≡ true) → OfEach guests f (λ net. l ≡ live_after net f.live s) → j ≡ f.journal ++ s ∷ [] → IsTaken guests f s (fab l j f.leased)
  all_taken s l j enabled is noted =
      let whole : OfEach guests f (λ net. fab l j f.leased ≡ stepped net f s) = λ net of i. fab (is net of i) (noted i) f.leased in
      let found = the_network guests f holds in
      let stopped : l.stopped ≡ f.live.stopped = ap (λ (x : Live S). x.stopped) (is found.0 found.1) in
      record {
        holds = taken_holds guests laws f (fab l j f.leased) s holds running enabled whole;
        stepped = taken guests laws f (fab l j f.leased) s holds running enabled whole;
        noted = record {
          journal = noted;
          header = ap (λ (x : Live S). x.header) (is found.0 found.1);
          openings = ap (λ (x : Live S). x.openings) (is found.0 found.1);
          leased = refl;
          stopped = stopped;
          log = (λ i. log_of (noted i) ((stopped ∙ running) i)) ∙ laws.log f.journal s ∙ ap (λ b. log_of f.journal b ++ Did s ∷ []) (sym running);
        };
      }

  -- a step that leaves the boundary where it is
  kept_taken : (s : Step) (l : Live S) (j : List Step) → OfEach guests f (λ net. is_enabled net f.live.world s ≡ true) → OfEach guests f (λ net. LeavesBoundary net f.live.world s) → OfEach guests f (λ net. l ≡ record f.live { world = after net f.live.world s }) → j ≡ f.journal ++ s ∷ [] → IsTaken guests f s (fab l j f.leased)
  kept_taken s l j enabled stays is noted =
      all_taken s l j enabled (λ net of. is net of ∙ live_stays net f s (holds.reached net of running) (laws.stays net f s (holds.reached net of running) (enabled net of) (stays net of))) noted

  pub beacon_taken : (l : Live S) (j : List Step) → f.live.world.closed ≡ false → f.live.world.floor + 1 < f.live.header.groups → l ≡ record f.live { world = beacon f.live.world } → j ≡ f.journal ++ Beacon ∷ [] → IsTaken guests f Beacon (fab l j f.leased)
  beacon_taken l j unclosed left is noted =
      kept_taken Beacon l j
      (λ net of. beacon_enabled net f.live.world unclosed (subst (λ (h : Heading). f.live.world.floor + 1 < h.groups) (sym of.header) left))
      (λ net of. beacon_leaves net f.live.world)
      (λ net of. is ∙ (λ i. record f.live { world = beacon_is net f.live.world i })) noted

  pub inject_taken : (x : External) (l : Live S) (j : List Step) → f.live.world.closed ≡ false → x.group ≡ f.live.world.floor → x.router < length f.live.header.routers → is_injectable f.live.header x.router x.input ≡ true → l ≡ record f.live { world = inject f.live.world x } → j ≡ f.journal ++ Inject x ∷ [] → IsTaken guests f (Inject x) (fab l j f.leased)
  inject_taken x l j unclosed now inside asked is noted =
      kept_taken (Inject x) l j
      (λ net of. inject_enabled net f.live.world x unclosed now (subst (λ (h : Heading). x.router < length h.routers) (sym of.header) inside) (ap (λ (h : Heading). is_injectable h x.router x.input) of.header ∙ asked))
      (λ net of. inject_leaves net f.live.world x)
      (λ net of. is ∙ (λ i. record f.live { world = inject_is net f.live.world x i })) noted

  pub close_taken : (l : Live S) (j : List Step) → f.live.world.closed ≡ false → f.live.world.floor + 1 ≡ f.live.header.groups → l ≡ record f.live { world = record f.live.world { closed = true } } → j ≡ f.journal ++ Close ∷ [] → IsTaken guests f Close (fab l j f.leased)
  close_taken l j unclosed last is noted =
      kept_taken Close l j
      (λ net of. close_enabled net f.live.world unclosed (last ∙ ap (λ (h : Heading). h.groups) (sym of.header)))
      (λ net of. close_leaves net f.live.world)
      (λ net of. is ∙ (λ i. record f.live { world = close_is net f.live.world i })) noted

  pub deliver_taken : (place : ℕ) (l : Live S) (j : List Step) → place < length f.live.world.flight → l ≡ record f.live { world = deliver f.live.world place (slice_get f.live.world.flight place) } → j ≡ f.journal ++ Deliver place ∷ [] → IsTaken guests f (Deliver place) (fab l j f.leased)
  deliver_taken place l j there is noted =
      kept_taken (Deliver place) l j
      (λ net of. deliver_enabled net f.live.world place there)
      (λ net of. deliver_leaves net f.live.world place)
      (λ net of. is ∙ (λ i. record f.live { world = deliver_is net f.live.world place i })) noted

  pub handle_taken : (r : ℕ) (l : Live S) (j : List Step) → r < length f.live.header.routers → is_ready (part f.live.world r) ≡ true → OfEach guests f (λ net. l ≡ record f.live { world = after net f.live.world (Handle r) }) → j ≡ f.journal ++ Handle r ∷ [] → IsTaken guests f (Handle r) (fab l j f.leased)
  handle_taken r l j inside ready is noted =
      kept_taken (Handle r) l j
      (λ net of. handle_enabled net f.live.world r (subst (λ (h : Heading). r < length h.routers) (sym of.header) inside) ready)
      (λ net of. handle_leaves net f.live.world r) is noted

  pub roll_back_taken : (r : ℕ) (l : Live S) (j : List Step) → r < length f.live.header.routers → is_behind (part f.live.world r) ≡ true → OfEach guests f (λ net. l ≡ record f.live { world = after net f.live.world (RollBack r) }) → j ≡ f.journal ++ RollBack r ∷ [] → IsTaken guests f (RollBack r) (fab l j f.leased)
  roll_back_taken r l j inside behind is noted =
      kept_taken (RollBack r) l j
      (λ net of. roll_back_enabled net f.live.world r (subst (λ (h : Heading). r < length h.routers) (sym of.header) inside) behind)
      (λ net of. roll_back_leaves net f.live.world r) is noted

  pub commit_taken : (l : Live S) (j : List Step) → OfEach guests f (λ net. l ≡ committed_live net f.live) → j ≡ f.journal ++ Commit ∷ [] → IsTaken guests f Commit (fab l j f.leased)
  commit_taken l j is noted =
      all_taken Commit l j (λ net of. commit_enabled net f.live.world)
      (λ net of. is net of ∙ live_grows net f Commit (holds.reached net of running) (laws.grows net f Commit (holds.reached net of running) (commit_enabled net f.live.world))) noted

  -- a rollback takes off nothing that was committed
  pub late_taken : (r : ℕ) → r < length f.live.header.routers → is_behind (part f.live.world r) ≡ true → OfEach guests f (λ net. AllByRecursion (λ e. IsPast f.live.world.boundary e.key) (taken_off net (part f.live.world r)))
  late_taken r inside behind net of =
      laws.taken_off net f r (holds.reached net of running)
      (roll_back_enabled net f.live.world r (subst (λ (h : Heading). r < length h.routers) (sym of.header) inside) behind)

  -- a step whose note found no memory
  pub half_taken : (w l : Live S) (j : List Step) (after : Network S → Live S) → OfEach guests f (λ net. w ≡ after net) → ((net : Network S) → (after net).header ≡ f.live.header) → ((net : Network S) → (after net).openings ≡ f.live.openings) → l ≡ record w { stopped = true } → j ≡ f.journal → HasStopped f (fab l j f.leased)
  half_taken w l j after is header openings stopped journal =
      record { halted = halted_over guests f w l after holds is header openings stopped; journal = journal }

  -- no rows go
  pub commit_keeps : (l : Live S) → OfEach guests f (λ net. l ≡ committed_live net f.live) → length f.live.rows ≤ length l.rows
  commit_keeps l is =
      let found = the_network guests f holds in
      let net = found.0 in
      let rows : f.live.rows ≡ take row_limit (settled_rows net f.live.world) = shown_front net f.live.world f.live.rows (holds.reached net found.1 running).rows in
      let fresh = fresh_rows net f.live.world.boundary (after net f.live.world Commit) in
      let now : length l.rows ≡ length (take row_limit (f.live.rows ++ fresh)) = ap (λ (x : Live S). length x.rows) (is net found.1) in
      let few : length f.live.rows ≡ length (take row_limit (settled_rows net f.live.world)) = ap length rows in
      let a = length-take row_limit (settled_rows net f.live.world) in
      let b = length-take row_limit (f.live.rows ++ fresh) in
      let d = length-append f.live.rows fresh in
      omega (arith, now, few, a, b, d)

-- the outcome of an order was applied, and its lease has ended
pub finish_taken : {S : Type 0} (guests : Meaning S) (laws : StepLaws S) (f : Fabric S) → IsFabric guests f → f.live.stopped ≡ false → (r : ℕ) (l : Live S) (j : List Step) (leased : List Bool) → r < length f.live.header.routers → is_ready (part f.live.world r) ≡ true → leased ≡ set f.leased r false → OfEach guests f (λ net. l ≡ record f.live { world = after net f.live.world (Handle r) }) → j ≡ f.journal ++ Handle r ∷ [] → IsTaken guests (with_lease f r false) (Handle r) (fab l j leased)
finish_taken guests laws f holds running r l j leased inside ready ends is noted =
    subst (λ ls. IsTaken guests (with_lease f r false) (Handle r) (fab l j ls)) (sym ends)
    (handle_taken guests laws (with_lease f r false) (leased_holds guests f (set f.leased r false) holds (length-set f.leased r false)) running r l j inside ready is noted)

-- the outcome of an order was stale, and its lease has ended
pub stale_holds : {S : Type 0} (guests : Meaning S) (f : Fabric S) → IsFabric guests f → (r : ℕ) (l : Live S) (leased : List Bool) → l ≡ f.live → leased ≡ set f.leased r false → IsFabric guests (fab l f.journal leased)
stale_holds {S = S} guests f holds r l leased same ends =
    subst (λ (now : Fabric S). IsFabric guests now) (λ i. fab (sym same i) f.journal (sym ends i))
    (leased_holds guests f (set f.leased r false) holds (length-set f.leased r false))

-- an outcome that was found in an answer
pub from_ok : {T E : Type 0} (P : T → Type 0) (x : T) (r : Result T E) → Ok x ≡ r → IfOk r P → P x
from_ok P x r e h = subst (λ y. IfOk y P) (sym e) h

-- what was marked by an Ok is as it was
pub marked_ok : {T E S : Type 0} (l : Live S) (x : T) (r : Result T E) → Ok x ≡ r → record l { stopped = (if is_ok r then l.stopped else true) } ≡ l
marked_ok l x r e = λ i. record l { stopped = (if is_ok (sym e i) then l.stopped else true) }
