-- How a fabric stands at the end of a drive.
use Rattle.std.proofs.Common.{◌≡◌, Bool, true, false, not, ◌&&◌, List, [], ◌++◌, refl, sym, ap, ◌∙◌, subst, append-nil}
use Rattle.std.specs.Prelude.{if◌then◌else◌}
use Rattle.std.proofs.lemmas.Bool.{and_parts}
use Rattle.std.specs.Ordering.{is_lt, is_gt, ordering_reverse}
use Rattle.std.specs.declared.cmp.Ordering.{Ordering}
use Rattle.std.specs.declared.cmp.Ordering.TheVariants.{Less, Equal, Greater}
use Rattle.dn_model.specs.declared.feed.External.{External}
use Rattle.dn_model.specs.Cases.{Heading}
use Rattle.dn_model.specs.Order.{key_cmp, key_total}
use Rattle.dn_model.specs.Network.{Network}
use Rattle.dn_model.specs.Settled.{is_cut, lockstep, shown_rows}
use Rattle.dn_world.specs.World.{World, horizon, is_empty, is_quiet, are_quiet}
use Rattle.dn_world.specs.Runs.{Continues, IsLegal, world, committed, is_cut_off}
use Rattle.dn_fabric.specs.Fabrics.{Fabric}
use Rattle.dn_fabric.specs.Promises.{IsAtRest}
use Rattle.dn_fabric.specs.Work.{can_commit}
use Rattle.dn_drive.specs.declared.ended.Ended.TheVariants.{Whole, Open}
use Rattle.dn_drive.specs.Allowed.{end_of}
use Rattle.dn_drive.specs.Endings.{IsFed, IsWholeRun, IsCutRun, IsOpenRun, StandsAt}
use Rattle.dn_drive.proofs.Going.{Goes, IsOn, not_past}

absurd_bool : {A : Type 0} → false ≡ true → A
absurd_bool is = cc

-- nothing more comes from outside in a quiet world
pub closed_if_quiet : (w : World) → is_quiet w ≡ true → w.closed ≡ true
unfolding is_quiet
closed_if_quiet w q = (and_parts w.closed (is_empty w.flight) (and_parts (w.closed && is_empty w.flight) (are_quiet w.parts) q).0).0

turned : (o : Ordering) → is_lt (ordering_reverse o) ≡ is_gt o
turned Less = refl
turned Equal = refl
turned Greater = refl

-- where no Commit is left to take, the horizon isn't past the boundary
pub no_more_above : (h : Heading) (w : World) → can_commit h w ≡ false → is_lt (key_cmp w.boundary (horizon h w)) ≡ false
unfolding can_commit
no_more_above h w k = ap is_lt (key_total.antisymm w.boundary (horizon h w)) ∙ turned (key_cmp (horizon h w) w.boundary) ∙ k

module _ {S : Type 0} (net : Network S) (feed : List External) where
  fed_is : (f : Fabric S) (xs : List External) → IsOn net feed f xs → f.live.stopped ≡ false → IsFed net feed xs f
  fed_is f xs o r = record { running = r; reached = o.reached; fed = o.fed }

  pub open_run : (f : Fabric S) (xs : List External) → IsOn net feed f xs → f.live.stopped ≡ false → IsOpenRun net feed f
  open_run f xs o r = record { rest = xs; fed = fed_is f xs o r }

  whole_run : (f : Fabric S) (xs : List External) → IsOn net feed f xs → f.live.stopped ≡ false → f.live.cut ≡ false → is_quiet f.live.world ≡ true → f.live.world.boundary ≡ horizon net.header f.live.world → IsAtRest net f.live → IsWholeRun net feed f
  whole_run f xs o r u q boundary rest =
      let w = f.live.world in
      let none : xs ≡ [] = o.goes.no_more (closed_if_quiet w q) in
      let accepted : w.accepted ≡ feed = sym (append-nil w.accepted) ∙ ap (λ l. w.accepted ++ l) (sym none) ∙ o.goes.whole in
      record {
        fed = subst (λ l. IsFed net feed l f) none (fed_is f xs o r);
        quiet = q;
        boundary = boundary;
        accepted = accepted;
        uncut = ap (is_cut net) (sym accepted) ∙ sym (rest.cut boundary) ∙ u;
        shows = record {
          rows = rest.rows boundary ∙ ap (shown_rows net) accepted;
          cut = rest.cut boundary ∙ ap (is_cut net) accepted;
          done = λ whole n l. rest.done n l ∙ ap (λ a. lockstep net a n) accepted;
        };
      }

  end_cases : (f : Fabric S) (xs : List External) → IsOn net feed f xs → f.live.stopped ≡ false → f.live.cut ≡ false → (is_quiet f.live.world ≡ true → IsAtRest net f.live) → (q k : Bool) → is_quiet f.live.world ≡ q → ((if q && not k then Whole else Open) ≡ Whole → f.live.world.boundary ≡ horizon net.header f.live.world) → StandsAt net feed (if q && not k then Whole else Open) f
  end_cases f xs o r u rest true false qe last = whole_run f xs o r u qe (last refl) (rest qe)
  end_cases f xs o r u rest true true qe last = open_run f xs o r
  end_cases f xs o r u rest false k qe last = open_run f xs o r

  pub stands_end : (f : Fabric S) (xs : List External) → IsOn net feed f xs → f.live.stopped ≡ false → f.live.cut ≡ false → (is_quiet f.live.world ≡ true → IsAtRest net f.live) → (end_of net.header f.live.world ≡ Whole → f.live.world.boundary ≡ horizon net.header f.live.world) → StandsAt net feed (end_of net.header f.live.world) f
  unfolding end_of
  stands_end f xs o r u rest last = end_cases f xs o r u rest (is_quiet f.live.world) (can_commit net.header f.live.world) refl last

  -- ---- cut

  continues : (h : Heading) (w : World) (xs : List External) → Goes h feed w xs → Continues feed w
  continues h w xs g = record { further = xs; whole = g.whole; not_past = not_past h w.floor xs g.rules; no_more = g.no_more }

  -- with what a cut run of the case shows
  pub cut_run : (f : Fabric S) (xs : List External) → IsOn net feed f xs → f.live.stopped ≡ false → f.live.cut ≡ true → (IsLegal net f.journal → Continues feed (world net f.journal) → is_cut_off net (world net f.journal) ≡ true → (committed net (world net f.journal) ≡ shown_rows net feed) × (is_cut net feed ≡ true)) → IsCutRun net feed f
  cut_run f xs o r c shows =
      let w = world net f.journal in
      let goes : Continues feed w = subst (Continues feed) (sym o.reached.world) (continues net.header f.live.world xs o.goes) in
      let off : is_cut_off net w ≡ true = ap (is_cut_off net) o.reached.world ∙ sym o.reached.cut ∙ c in
      let shown = shows o.reached.legal goes off in
      record {
        rest = xs;
        fed = fed_is f xs o r;
        cut = shown.1;
        shows = record {
          rows = o.reached.rows ∙ ap (committed net) (sym o.reached.world) ∙ shown.0;
          cut = c ∙ sym shown.1;
          done = λ whole. absurd_bool (sym whole ∙ c);
        };
      }
