-- Seats are joined into the first one, the last of a list first.
use Rattle.std.proofs.Common.{◌≡◌, ℕ, suc, ◌+◌, ◌-◌, ◌<◌, List, [], ◌∷◌, ◌++◌, length, get_or, true, ◌||◌, None, refl, sym, ap, ◌∙◌, subst, arith, length-append, append-nil, append_assoc}
use Rattle.std.specs.List.{AllByRecursion}
use Rattle.dn_model.specs.Settled.{IsPrefixOf}
use Rattle.dn_world.specs.Logs.{fed}
use Rattle.dn_turn.specs.Seat.{SeatView, joined_seat}
use Rattle.dn_workers.specs.Joined.{IsWorkers, HasGathered}
use Rattle.dn_workers.proofs.Going.{prefix_self, prefix_trans}

module _ {X : Type 0} where
  all_map : (P Q : X → Type 0) → ((x : X) → P x → Q x) → (xs : List X) → AllByRecursion P xs → AllByRecursion Q xs
  all_map P Q f [] p = tt
  all_map P Q f (x ∷ xs) p = (f x p.0, all_map P Q f xs p.1)

  all_split : (P : X → Type 0) (xs : List X) (y : X) → AllByRecursion P (xs ++ y ∷ []) → AllByRecursion P xs × P y
  all_split P [] y p = (tt, p.0)
  all_split P (x ∷ xs) y p = let t = all_split P xs y p.1 in ((p.0, t.0), t.1)

  pub all_from_places : (P : X → Type 0) (xs : List X) → ((i : ℕ) (d : X) → i < length xs → P (get_or xs i d)) → AllByRecursion P xs
  all_from_places P [] f = tt
  all_from_places P (x ∷ xs) f = (f 0 x (omega arith), all_from_places P xs (λ i d lt. f (suc i) d (omega arith)))

module _ {S : Type 0} where
  -- all seats are those left, and behind them those that were joined
  pub record Gathering (all left : List (SeatView S)) (v w : SeatView S) : Type 0 where
    pub done : List (SeatView S)
    pub whole : all ≡ left ++ done
    pub are : AllByRecursion (IsWorkers v) left
    pub seen : AllByRecursion (λ seat. IsPrefixOf seat.seen w.seen) done
    pub first : HasGathered (length left) v w

  pub gathering_first : (all : List (SeatView S)) (v : SeatView S) → v.held ≡ None → v.first ≡ true → v.feeds ≡ true → v.out ≡ length all → AllByRecursion (IsWorkers v) all → Gathering all all v v
  gathering_first all v free first feeds out are = record {
    done = [];
    whole = sym (append-nil all);
    are = are;
    seen = tt;
    first = record { turn = refl; header = refl; opening = refl; free = free; first = first; feeds = feeds; out = out; seen = prefix_self v.seen; same_fed = refl };
  }

  pub last_is : (all left left' : List (SeatView S)) (v w seat : SeatView S) → Gathering all left v w → left ≡ left' ++ seat ∷ [] → IsWorkers v seat
  last_is all left left' v w seat k e = (all_split (IsWorkers v) left' seat (subst (AllByRecursion (IsWorkers v)) e k.are)).1

  pub gathering_more : (all left left' : List (SeatView S)) (v w w' seat : SeatView S) → Gathering all left v w → left ≡ left' ++ seat ∷ [] → w' ≡ joined_seat w seat → IsPrefixOf w.seen w'.seen → IsPrefixOf seat.seen w'.seen → fed w'.seen ≡ fed w.seen → Gathering all left' v w'
  gathering_more all left left' v w w' seat k e joined old new same =
      let n : length left ≡ length left' + 1 = ap length e ∙ length-append left' (seat ∷ []) in
      let f = k.first in
      let out : w.out ≡ length left = f.out in record {
        done = seat ∷ k.done;
        whole = k.whole ∙ (ap (λ l. l ++ k.done) e ∙ append_assoc left' (seat ∷ []) k.done);
        are = (all_split (IsWorkers v) left' seat (subst (AllByRecursion (IsWorkers v)) e k.are)).0;
        seen = (new, all_map (λ s. IsPrefixOf s.seen w.seen) (λ s. IsPrefixOf s.seen w'.seen) (λ s p. prefix_trans s.seen w.seen w'.seen p old) k.done k.seen);
        first = record {
          turn = ap (λ x. x.turn) joined ∙ f.turn;
          header = ap (λ x. x.header) joined ∙ f.header;
          opening = ap (λ x. x.opening) joined ∙ f.opening;
          free = ap (λ x. x.held) joined ∙ f.free;
          first = ap (λ x. x.first) joined ∙ f.first;
          feeds = ap (λ x. x.feeds) joined ∙ ap (λ b. b || seat.feeds) f.feeds;
          out = ap (λ x. x.out) joined ∙ (let m : w.out - 1 ≡ length left' = omega arith in m);
          seen = prefix_trans v.seen w.seen w'.seen f.seen old;
          same_fed = same ∙ f.same_fed;
        };
      }

  pub gathering_last : (all left : List (SeatView S)) (v w : SeatView S) → Gathering all left v w → left ≡ [] → HasGathered 0 v w × AllByRecursion (λ seat. IsPrefixOf seat.seen w.seen) all
  gathering_last all left v w k none = (
    subst (λ l. HasGathered (length l) v w) none k.first,
    subst (AllByRecursion (λ seat. IsPrefixOf seat.seen w.seen)) (sym (k.whole ∙ ap (λ l. l ++ k.done) none)) k.seen,
  )
