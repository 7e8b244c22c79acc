-- A fabric that has ended shows the run of its case, and its steps are such a run.
use Rattle.std.proofs.Common.{◌≡◌, Bool, true, false, inl, inr, List, [], refl, sym, ap, subst, ◌∙◌, append-nil}
use Rattle.dn_model.specs.declared.feed.External.{External}
use Rattle.dn_model.specs.Cases.{Recording}
use Rattle.dn_model.specs.Settled.{is_cut, lockstep, shown_rows}
use Rattle.dn_world.specs.World.{World, horizon, is_quiet}
use Rattle.dn_world.specs.Runs.{Continues, IsLegalOf, committed, injects, is_cut_off, world}
use Rattle.dn_fabric.specs.Fabrics.{Fabric, IsReached}
use Rattle.dn_fabric.specs.Promises.{IsAtRest}
use Rattle.dn_drive.specs.declared.ended.Ended.TheVariants as ended
use Rattle.guest_any.specs.declared.any.AnyGuest.{AnyGuest}
use Rattle.dn_top.specs.Promises.{IsCaseRun, is_cut_case, network_of, outcome_of}
use Rattle.dn_top.specs.Drives.{HasEnded, ShowsCase}

absurd_bool : {A : Type 0} → false ≡ true → A
absurd_bool is = cc

-- the world that the steps of the fabric reach
abbrev pub reached : Recording → Fabric AnyGuest → World
reached c f = world (network_of c.header) f.journal

module _ (c : Recording) (f : Fabric AnyGuest) (e : HasEnded c f) (r : IsReached (network_of c.header) f) where
  pub goes_on : Continues f.live.world.accepted f.live.world → Continues c.feed (reached c f)
  goes_on own = subst (λ (w : World). Continues c.feed w) (sym r.world) (subst (λ (xs : List External). Continues xs f.live.world) e.accepted own)

  pub all_injected : (reached c f).accepted ≡ injects f.journal → injects f.journal ≡ c.feed
  all_injected accepted = sym accepted ∙ ap (λ (w : World). w.accepted) r.world ∙ e.accepted

  cut_there : (b : Bool) → f.live.cut ≡ b → is_cut_off (network_of c.header) (reached c f) ≡ b
  cut_there b cut = ap (is_cut_off (network_of c.header)) r.world ∙ sym r.cut ∙ cut

  -- ---- what it shows

  shows_cut : f.live.cut ≡ true → committed (network_of c.header) (reached c f) ≡ shown_rows (network_of c.header) c.feed → is_cut (network_of c.header) c.feed ≡ true → ShowsCase c f
  shows_cut cut rows is = record {
    rows = r.rows ∙ ap (committed (network_of c.header)) (sym r.world) ∙ rows;
    cut = cut ∙ sym is;
    done = λ whole. absurd_bool (sym whole ∙ cut);
  }

  shows_whole : f.live.world.boundary ≡ horizon c.header f.live.world → IsAtRest (network_of c.header) f.live → ShowsCase c f
  shows_whole boundary rest = record {
    rows = rest.rows boundary ∙ ap (shown_rows (network_of c.header)) e.accepted;
    cut = rest.cut boundary ∙ ap (is_cut (network_of c.header)) e.accepted;
    done = λ whole n l. rest.done n l ∙ ap (λ (xs : List External). lockstep (network_of c.header) xs n) e.accepted;
  }

  header_is : f.live.world.boundary ≡ horizon f.live.header f.live.world → f.live.world.boundary ≡ horizon c.header f.live.world
  header_is boundary = boundary ∙ ap (λ h. horizon h f.live.world) e.of.header

  pub shows : (is_cut_off (network_of c.header) (reached c f) ≡ true → committed (network_of c.header) (reached c f) ≡ shown_rows (network_of c.header) c.feed) → (is_cut_off (network_of c.header) (reached c f) ≡ true → is_cut (network_of c.header) c.feed ≡ true) → (is_quiet f.live.world ≡ true → IsAtRest (network_of c.header) f.live) → ShowsCase c f
  shows rows is rest =
      elim e.over [
        | inl cut ↦ shows_cut cut.1 (rows (cut_there true cut.1)) (is (cut_there true cut.1))
        | inr quiet ↦ shows_whole (header_is quiet.1) (rest quiet.0)
      ]

  -- ---- what its steps are

  legal : injects f.journal ≡ c.feed → IsLegalOf (network_of c.header) c.feed f.journal
  legal all = record { legal = r.legal; further = []; whole = append-nil (injects f.journal) ∙ all; no_more = λ closed. refl }

  rows_there : ShowsCase c f → committed (network_of c.header) (reached c f) ≡ shown_rows (network_of c.header) c.feed
  rows_there shown = ap (committed (network_of c.header)) r.world ∙ sym r.rows ∙ shown.rows

  as_cut : (b : Bool) → f.live.cut ≡ b → ShowsCase c f → injects f.journal ≡ c.feed → (is_cut_off (network_of c.header) (reached c f) ≡ true → outcome_of c f.journal ≡ ended.Cut) → (is_cut_off (network_of c.header) (reached c f) ≡ false → is_quiet (reached c f) ≡ true → (reached c f).boundary ≡ horizon c.header (reached c f) → outcome_of c f.journal ≡ ended.Whole) → IsCaseRun c b f.journal
  as_cut true cut shown all to_cut to_whole = record {
    is = sym shown.cut ∙ cut;
    comes = to_cut (cut_there true cut);
    ends = record { legal = legal all; cut = cut_there true cut };
    rows = rows_there shown;
  }
  as_cut false cut shown all to_cut to_whole =
      elim e.over [
        | inl p ↦ absurd_bool (sym cut ∙ p.1)
        | inr p ↦
            let quiet : is_quiet (reached c f) ≡ true = ap is_quiet r.world ∙ p.0 in
            let boundary : (reached c f).boundary ≡ horizon c.header (reached c f) = ap (λ (w : World). w.boundary) r.world ∙ header_is p.1 ∙ ap (λ (w : World). horizon c.header w) (sym r.world) in
            record {
              is = sym shown.cut ∙ cut;
              comes = to_whole (cut_there false cut) quiet boundary;
              ends = record { legal = legal all; all = all; quiet = quiet; committed = boundary };
              rows = rows_there shown;
            }
      ]

  pub is_run : ShowsCase c f → injects f.journal ≡ c.feed → (is_cut_off (network_of c.header) (reached c f) ≡ true → outcome_of c f.journal ≡ ended.Cut) → (is_cut_off (network_of c.header) (reached c f) ≡ false → is_quiet (reached c f) ≡ true → (reached c f).boundary ≡ horizon c.header (reached c f) → outcome_of c f.journal ≡ ended.Whole) → IsCaseRun c (is_cut_case c) f.journal
  is_run shown all to_cut to_whole = subst (λ (b : Bool). IsCaseRun c b f.journal) shown.cut (as_cut f.live.cut refl shown all to_cut to_whole)
