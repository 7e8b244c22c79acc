-- A whole run: which seats there are before the threads, and what they tell once they are joined.
use Rattle.std.proofs.Common.{◌≡◌, ℕ, ◌≤◌, ◌<◌, true, false, None, List, [], ◌∷◌, ◌++◌, length, get_or, take, append-nil, refl, sym, ap, ◌∙◌, arith}
use Rattle.std.specs.List.{AllByRecursion}
use Rattle.std.proofs.Math.Seq.{take-append_seam}
use Rattle.dn_guest.specs.Meaning.{Meaning}
use Rattle.dn_model.specs.declared.feed.External.{External}
use Rattle.dn_model.specs.Network.{Network}
use Rattle.dn_model.specs.Settled.{IsPrefixOf}
use Rattle.dn_world.specs.Logs.{fed}
use Rattle.dn_world.specs.Runs.{injects}
use Rattle.dn_fabric.specs.Driven.{IsOpening}
use Rattle.dn_fabric.specs.Fabrics.{Fabric, IsNetworkOf, IsReached, log_in}
use Rattle.dn_turn.specs.Seat.{SeatView}
use Rattle.dn_workers.specs.Holds.{IsOver}
use Rattle.dn_workers.specs.Joined.{AreNew, IsWorkers, HaveAnswered, HasAllOf}
use Rattle.dn_workers.specs.Runs.{HasRun}
use Rattle.dn_workers.specs.Work.{IsDone}
use Rattle.dn_workers.proofs.Gathering.{all_from_places}
use Rattle.dn_workers.proofs.Going.{prefix_trans}

pub taken : {X : Type 0} (n : ℕ) (xs ys : List X) → length xs ≡ n → take n (xs ++ ys) ≡ xs
taken n xs ys e = ap (λ k. take k (xs ++ ys)) (sym e) ∙ take-append_seam xs ys

module _ {S : Type 0} where
  -- nothing was fed yet
  pub unfed : (f : Fabric S) → IsOpening f → fed (log_in f) ≡ []
  unfolding fed
  unfed f o = ap (λ g. fed (log_in g)) o.is

  -- the workers' seats before the threads, and after them
  pub are_free : (first : SeatView S) (seats : List (SeatView S)) (n k : ℕ) (d : SeatView S) → first.held ≡ None → AreNew n first seats → k < n → ((get_or seats k d).turn ≡ first.turn) × ((get_or seats k d).held ≡ None)
  are_free first seats n k d free new lt = let e = new k d lt in (ap (λ s. s.turn) e, ap (λ s. s.held) e ∙ free)

  pub are_workers : (m : Meaning S) (first joined : SeatView S) (was now : List (SeatView S)) (n : ℕ) → length now ≡ length was → length was ≡ n → AreNew n first was → HaveAnswered m was now → first.turn ≡ joined.turn → AllByRecursion (IsWorkers joined) now
  are_workers m first joined was now n same count new answered turn = all_from_places (IsWorkers joined) now (λ i d lt.
      let e = new i d (omega (arith, lt, same, count)) in
      let w = (answered i d (omega (arith, lt, same))).0 in
      (w.same.turn ∙ (ap (λ s. s.turn) e ∙ turn), w.free, w.same.feeds ∙ ap (λ s. s.feeds) e))

  -- one of them was done, and the fabric has all that it has seen
  pub some_worker : (m : Meaning S) (first last : SeatView S) (was now : List (SeatView S)) (n : ℕ) (f : Fabric S) → 1 ≤ n → length now ≡ length was → length was ≡ n → AreNew n first was → HaveAnswered m was now → AllByRecursion (λ seat. IsPrefixOf seat.seen last.seen) now
      → HasAllOf last f → last.header ≡ first.header → last.opening ≡ first.opening → (seat : SeatView S) × HasAllOf seat f × IsDone m seat
  some_worker m first last was [] n f some same count new answered seen all header opening = absurd (omega (arith, some, same, count))
  some_worker m first last was (x ∷ xs) n f some same count new answered seen all header opening =
      let e = new 0 x (omega (arith, some)) in
      let k = answered 0 x (omega (arith, some, count)) in
      let w = k.0 in (
        x,
        record {
          header = all.header ∙ (header ∙ sym (w.same.header ∙ ap (λ s. s.header) e));
          opening = all.opening ∙ (opening ∙ sym (w.same.opening ∙ ap (λ s. s.opening) e));
          running = all.running;
          seen = prefix_trans x.seen last.seen (log_in f) seen.0 all.seen;
        },
        k.1,
      )

  -- what the last seat has seen, a seat has that was joined into it
  pub has_all : (v last : SeatView S) (f : Fabric S) → HasAllOf last f → last.header ≡ v.header → last.opening ≡ v.opening → IsPrefixOf v.seen last.seen → HasAllOf v f
  has_all v last f all header opening seen = record {
    header = all.header ∙ header;
    opening = all.opening ∙ opening;
    running = all.running;
    seen = prefix_trans v.seen last.seen (log_in f) seen all.seen;
  }

  pub has_run : (m : Meaning S) (before f : Fabric S) (given : List External) → f.live.header ≡ before.live.header → f.live.openings ≡ before.live.openings → f.live.stopped ≡ false
      → ((net : Network S) → IsNetworkOf net m f.live.header f.live.openings → IsReached net f) → injects f.journal ≡ given → f.live.world.accepted ≡ injects f.journal → f.live.world.closed ≡ true → IsOver f → HasRun m before given f
  has_run m before f given header openings running reached injected accepted closed over = record {
    header = header;
    openings = openings;
    running = running;
    accepted = accepted ∙ injected;
    legal = λ net is. record { legal = (reached net is).legal; further = []; whole = append-nil (injects f.journal) ∙ injected; no_more = λ _. refl };
    closed = closed;
    over = over;
  }
