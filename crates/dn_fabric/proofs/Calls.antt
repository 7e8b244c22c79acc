-- What the calls of a fabric leave.
use Rattle.std.proofs.Common.{◌≡◌, ℕ, zero, suc, ◌<◌, Bool, true, false, List, [], ◌∷◌, length, get_or, sym, ap, ◌∙◌, subst, arith}
use Rattle.std.specs.Prelude.{slice_get, Result, Ok, Err, OnErr, OnOk}
use Rattle.std.specs.List.{AllByRecursion}
use Rattle.std.proofs.lemmas.Bool.{false≢true}
use Rattle.dn_guest.specs.Meaning.{Meaning}
use Rattle.dn_model.specs.Cases.{Heading, IsHeading}
use Rattle.dn_model.specs.Network.{Network}
use Rattle.dn_world.specs.declared.step.Step.{Step}
use Rattle.dn_world.specs.World.{waiting, floor_bound, horizon}
use Rattle.dn_world.specs.Steps.{is_enabled}
use Rattle.dn_world.specs.Runs.{IsLegal, IsPast}
use Rattle.dn_fabric.specs.Fabrics.{Live, Fabric, IsNetworkOf, IsReached, HasStepped, HasHalted, HasStopped, stepped}
use Rattle.dn_fabric.specs.Holds.{IsFabric}
use Rattle.dn_fabric.proofs.Nets.{some_network}
use Rattle.dn_fabric.proofs.Stepping.{StepLaws, reached_leased}

-- the world is replaced, or the leases are
abbrev pub with_live : {S : Type 0} → Fabric S → Live S → Fabric S
with_live f l = record f { live = l }

-- what stands in a list of tests at a place within it
pub is_within : (xs : List Bool) (r : ℕ) → get_or xs r false ≡ true → r < length xs
is_within [] r h = absurd (false≢true h)
is_within (x ∷ xs) zero h = omega arith
is_within (x ∷ xs) (suc r) h = let l = is_within xs r h in omega (arith, l)

module _ {S : Type 0} (guests : Meaning S) where
  -- of each network of the fabric's header and openings
  abbrev pub OfEach : Fabric S → (Network S → Type 0) → Type 0
  OfEach f P = (net : Network S) → IsNetworkOf net guests f.live.header f.live.openings → P net

  -- the header of such a network meets the rules
  pub rules_of : (f : Fabric S) (net : Network S) → IsFabric guests f → IsNetworkOf net guests f.live.header f.live.openings → IsHeading net.header
  rules_of f net holds is = subst IsHeading (sym is.header) holds.rules

  pub the_network : (f : Fabric S) → IsFabric guests f → (net : Network S) × IsNetworkOf net guests f.live.header f.live.openings
  the_network f holds = some_network guests f.live.header f.live.openings holds.rules.some holds.openings

  -- a router that is leased is one of them
  pub leased_inside : (f : Fabric S) → IsFabric guests f → (r : ℕ) → get_or f.leased r false ≡ true → r < length f.live.header.routers
  leased_inside f holds r h = subst (λ n. r < n) holds.leases (is_within f.leased r h)

  -- what waits and what may still come from outside is past the boundary
  pub bound_past : (f : Fabric S) → IsFabric guests f → f.live.stopped ≡ false → IsPast f.live.world.boundary (floor_bound f.live.header f.live.world)
  bound_past f holds running =
      let found = the_network f holds in
      subst (λ h. IsPast f.live.world.boundary (floor_bound h f.live.world)) found.1.header (holds.reached found.0 found.1 running).past.bound

  pub waiting_past : (f : Fabric S) → IsFabric guests f → f.live.stopped ≡ false → AllByRecursion (λ e. IsPast f.live.world.boundary e.key) (waiting f.live.world)
  waiting_past f holds running = let found = the_network f holds in (holds.reached found.0 found.1 running).past.waiting

  -- the horizon isn't before the boundary
  abbrev pub IsAhead : Type 0
  IsAhead = (net : Network S) (f : Fabric S) → IsReached net f → IsPast f.live.world.boundary (horizon net.header f.live.world)

  pub horizon_past : IsAhead → (f : Fabric S) → IsFabric guests f → f.live.stopped ≡ false → IsPast f.live.world.boundary (horizon f.live.header f.live.world)
  horizon_past ahead f holds running =
      let found = the_network f holds in
      subst (λ h. IsPast f.live.world.boundary (horizon h f.live.world)) found.1.header
      (ahead found.0 f (holds.reached found.0 found.1 running))

  -- a fabric that was stopped, with its header, its openings and its journal from before
  pub halted_holds : (f now : Fabric S) → IsFabric guests f → HasStopped f now → now.leased ≡ f.leased → IsFabric guests now
  halted_holds f now holds stopped leases =
      let header = stopped.halted.header in
      let openings = stopped.halted.openings in
      record {
        rules = subst IsHeading (sym header) holds.rules;
        openings = ap length openings ∙ holds.openings ∙ ap (λ (h : Heading). length h.routers) (sym header);
        leases = ap length leases ∙ holds.leases ∙ ap (λ (h : Heading). length h.routers) (sym header);
        legal = λ net is. subst (IsLegal net) (sym stopped.journal) (holds.legal net (record { header = is.header ∙ header; guests = is.guests; openings = λ r l. ap (λ os. slice_get os r) (sym openings) ∙ is.openings r l }));
        reached = λ net is running. absurd (let no : true ≡ false = sym stopped.halted.stopped ∙ running in cc);
      }

  -- only the leases have changed
  pub leased_holds : (f : Fabric S) (leased : List Bool) → IsFabric guests f → length leased ≡ length f.leased → IsFabric guests (record f { leased = leased })
  leased_holds f leased holds count = record {
    rules = holds.rules;
    openings = holds.openings;
    leases = count ∙ holds.leases;
    legal = holds.legal;
    reached = λ net is running. reached_leased net f leased (holds.reached net is running);
  }

  module _ (laws : StepLaws S) (f now : Fabric S) (s : Step) (holds : IsFabric guests f) (running : f.live.stopped ≡ false) (enabled : OfEach f (λ net. is_enabled net f.live.world s ≡ true)) (is : OfEach f (λ net. now ≡ stepped net f s)) where
    -- the step was taken
    pub taken : OfEach f (λ net. HasStepped net f s now)
    taken net of = subst (HasStepped net f s) (sym (is net of)) (laws.onward net f s (rules_of f net holds of) (holds.reached net of running) (enabled net of))

    same_header : now.live.header ≡ f.live.header
    same_header = let found = the_network f holds in ap (λ (g : Fabric S). g.live.header) (is found.0 found.1)

    same_openings : now.live.openings ≡ f.live.openings
    same_openings = let found = the_network f holds in ap (λ (g : Fabric S). g.live.openings) (is found.0 found.1)

    same_leases : now.leased ≡ f.leased
    same_leases = let found = the_network f holds in ap (λ (g : Fabric S). g.leased) (is found.0 found.1)

    old_network : (net : Network S) → IsNetworkOf net guests now.live.header now.live.openings → IsNetworkOf net guests f.live.header f.live.openings
    old_network net of = record {
      header = of.header ∙ same_header;
      guests = of.guests;
      openings = λ r l. ap (λ os. slice_get os r) (sym same_openings) ∙ of.openings r l;
    }

    -- and the fabric is one again
    pub taken_holds : IsFabric guests now
    taken_holds = record {
      rules = subst IsHeading (sym same_header) holds.rules;
      openings = ap length same_openings ∙ holds.openings ∙ ap (λ (h : Heading). length h.routers) (sym same_header);
      leases = ap length same_leases ∙ holds.leases ∙ ap (λ (h : Heading). length h.routers) (sym same_header);
      legal = λ net of. (taken net (old_network net of)).reached.legal;
      reached = λ net of _. (taken net (old_network net of)).reached;
    }

  -- the step was taken and isn't noted: nothing more is done
  pub halted_over : (f : Fabric S) (w l : Live S) (after : Network S → Live S) → IsFabric guests f → OfEach f (λ net. w ≡ after net) → ((net : Network S) → (after net).header ≡ f.live.header) → ((net : Network S) → (after net).openings ≡ f.live.openings) → l ≡ record w { stopped = true } → HasHalted f.live l
  halted_over f w l after holds is header openings stopped =
      let found = the_network f holds in
      record {
        stopped = ap (λ (x : Live S). x.stopped) stopped;
        header = ap (λ (x : Live S). x.header) stopped ∙ ap (λ (x : Live S). x.header) (is found.0 found.1) ∙ header found.0;
        openings = ap (λ (x : Live S). x.openings) stopped ∙ ap (λ (x : Live S). x.openings) (is found.0 found.1) ∙ openings found.0;
      }

pub on_err_all : {T E R : Type 0} (r : Result T E) → R → OnErr r R
on_err_all (Ok x) h = tt
on_err_all (Err e) h = h

pub on_ok : {T E P R : Type 0} (r : Result T E) → OnOk r P → (P → R) → OnOk r R
on_ok (Ok x) p f = f p
on_ok (Err e) p f = tt
