-- One step more of a fabric: what holds of it goes on.
use Rattle.std.proofs.Common.{◌≡◌, ℕ, ◌+◌, Bool, true, false, ◌||◌, List, [], ◌∷◌, ◌++◌, length, take, sym, ap, ◌∙◌}
use Rattle.std.specs.Prelude.{nat_lt}
use Rattle.std.specs.List.{AllByRecursion}
use Rattle.dn_model.specs.declared.event.Event.{Event}
use Rattle.dn_model.specs.Cases.{IsHeading}
use Rattle.dn_model.specs.Network.{Network}
use Rattle.dn_model.specs.Settled.{row_limit}
use Rattle.dn_world.specs.declared.step.Step.{Step}
use Rattle.dn_world.specs.declared.step.Step.TheVariants.{RollBack}
use Rattle.dn_world.specs.World.{World, part}
use Rattle.dn_world.specs.Steps.{is_enabled, after, taken_off}
use Rattle.dn_world.specs.Runs.{IsPast, settled_rows, fresh_rows, committed, is_cut_off}
use Rattle.dn_world.specs.declared.entry.Entry.TheVariants.{Did}
use Rattle.dn_world.specs.Logs.{log_of}
use Rattle.dn_fabric.specs.Fabrics.{Live, Fabric, live_after, stepped, IsReached, HasStepped}
use Rattle.dn_fabric.proofs.Cutting.{take_front_more, is_long_more}

-- what a step of a fabric may count on
pub record StepLaws (S : Type 0) : Type 0 where
  pub onward : (net : Network S) (f : Fabric S) (s : Step) → IsHeading net.header → IsReached net f → is_enabled net f.live.world s ≡ true → HasStepped net f s (stepped net f s)
  pub stays : (net : Network S) (f : Fabric S) (s : Step) → IsReached net f → is_enabled net f.live.world s ≡ true → (after net f.live.world s).boundary ≡ f.live.world.boundary → settled_rows net (after net f.live.world s) ≡ settled_rows net f.live.world
  pub grows : (net : Network S) (f : Fabric S) (s : Step) → IsReached net f → is_enabled net f.live.world s ≡ true → settled_rows net f.live.world ++ fresh_rows net f.live.world.boundary (after net f.live.world s) ≡ settled_rows net (after net f.live.world s)
  pub taken_off : (net : Network S) (f : Fabric S) (router : ℕ) → IsReached net f → is_enabled net f.live.world (RollBack router) ≡ true → AllByRecursion (λ e. IsPast f.live.world.boundary e.key) (taken_off net (part f.live.world router))
  pub log : (steps : List Step) (s : Step) → log_of (steps ++ s ∷ []) false ≡ log_of steps false ++ Did s ∷ []

-- the world after the step, with the rows that are new below its boundary, as far as a trace shows them
abbrev pub live_grown : {S : Type 0} → Network S → Live S → Step → Live S
live_grown net l s =
    record l {
      world = after net l.world s;
      rows = take row_limit (l.rows ++ fresh_rows net l.world.boundary (after net l.world s));
      cut = l.cut || nat_lt row_limit (length l.rows + length (fresh_rows net l.world.boundary (after net l.world s)));
    }

module _ {S : Type 0} (net : Network S) where
  -- what holds of a fabric holds whatever is leased
  pub reached_leased : (f : Fabric S) (leased : List Bool) → IsReached net f → IsReached net (record f { leased = leased })
  reached_leased f leased r = record { legal = r.legal; world = r.world; balanced = r.balanced; past = r.past; rows = r.rows; cut = r.cut }

  module _ (f : Fabric S) (s : Step) (r : IsReached net f) where
    -- a step that leaves the rows below the boundary keeps the rows
    pub live_stays : settled_rows net (after net f.live.world s) ≡ settled_rows net f.live.world → record f.live { world = after net f.live.world s } ≡ live_after net f.live s
    unfolding committed is_cut_off
    live_stays same =
        let w = f.live.world in
        let rows : f.live.rows ≡ take row_limit (settled_rows net (after net w s)) = r.rows ∙ ap (take row_limit) (sym same) in
        let cut : f.live.cut ≡ nat_lt row_limit (length (settled_rows net (after net w s))) = r.cut ∙ ap (λ es. nat_lt row_limit (length es)) (sym same) in
        λ i. record f.live { world = after net w s; rows = rows i; cut = cut i }

    -- a step adds the rows that are new below its boundary, as far as a trace shows them
    pub live_grows : settled_rows net f.live.world ++ fresh_rows net f.live.world.boundary (after net f.live.world s) ≡ settled_rows net (after net f.live.world s) → live_grown net f.live s ≡ live_after net f.live s
    unfolding committed is_cut_off
    live_grows grow =
        let w = f.live.world in
        let old = settled_rows net w in
        let fresh = fresh_rows net w.boundary (after net w s) in
        let rows : take row_limit (f.live.rows ++ fresh) ≡ take row_limit (settled_rows net (after net w s)) =
        ap (λ es. take row_limit (es ++ fresh)) r.rows ∙ take_front_more row_limit old fresh ∙ ap (take row_limit) grow in
        let cut : (f.live.cut || nat_lt row_limit (length f.live.rows + length fresh)) ≡ nat_lt row_limit (length (settled_rows net (after net w s))) =
        (λ i. r.cut i || nat_lt row_limit (length (r.rows i) + length fresh)) ∙ is_long_more row_limit old fresh ∙ ap (λ es. nat_lt row_limit (length es)) grow in
        λ i. record f.live { world = after net w s; rows = rows i; cut = cut i }

  -- the committed rows are a front of all rows below the boundary
  pub shown_front : (w : World) (rows : List Event) → rows ≡ committed net w → rows ≡ take row_limit (settled_rows net w)
  unfolding committed
  shown_front w rows e = e
