-- The places that a seat keeps are a rising list below the length of what it has seen.
use Rattle.std.proofs.Common.{◌≡◌, ◌⊎◌, ℕ, zero, suc, ◌+◌, ◌-◌, ◌<◌, ◌≤◌, List, [], ◌∷◌, ◌++◌, length, slice_get, ltb, leb, Bool, true, false, cond, Option, Some, None, refl, sym, subst, inl, inr, ⊎_elim, arith, ltb-true, ltb-false, le_refl, leb-true, leb-false}
use Rattle.dn_model.specs.Settled.{IsPrefixOf}
use Rattle.dn_world.specs.declared.entry.Entry.{Entry}
use Rattle.dn_turn.specs.Places.{places_from, new_places, taken_log, longer, with_place, all_places, ArePlaces, Has, StandAt}
use Rattle.dn_turn.specs.Seat.{IsSound}
use Rattle.dn_turn.proofs.Prefixes.{prefix_length, prefix_get}

pub places_more : (lo n m : ℕ) (xs : List ℕ) → n ≤ m → ArePlaces lo n xs → ArePlaces lo m xs
places_more lo n m [] le p = tt
places_more lo n m (x ∷ xs) le p = let below : x < n = p.1 in (p.0, omega arith, places_more (x + 1) n m xs le p.2)

places_lower : (lo lo' n : ℕ) (xs : List ℕ) → lo' ≤ lo → ArePlaces lo n xs → ArePlaces lo' n xs
places_lower lo lo' n [] le p = tt
places_lower lo lo' n (x ∷ xs) le p = let from : lo ≤ x = p.0 in (omega arith, p.1, p.2)

pub places-append : (lo n m p : ℕ) (xs ys : List ℕ) → lo ≤ m → n ≤ m → n ≤ p → ArePlaces lo n xs → ArePlaces m p ys → ArePlaces lo p (xs ++ ys)
places-append lo n m p [] ys le le' le'' a b = places_lower m lo p ys le b
places-append lo n m p (x ∷ xs) ys le le' le'' a b = let below : x < n = a.1 in (a.0, omega arith, places-append (x + 1) n m p xs ys (omega arith) le' le'' a.2 b)

pub places_are : (m k n : ℕ) → m + k ≤ n → ArePlaces m n (places_from m k)
places_are m zero n le = tt
places_are m (suc k) n le = (le_refl m, omega arith, places_are (m + 1) k n (omega arith))

with_places : (k lo n : ℕ) (xs : List ℕ) → lo ≤ k → k < n → ArePlaces lo n xs → ArePlaces lo n (with_place k xs)
with_places k lo n [] le lt p = (le, lt, tt)
with_places k lo n (x ∷ xs) le lt p = by_cases (λ h. with_places k (x + 1) n xs h lt p.2) (ltb k x) (ltb x k) refl refl
  where
    by_cases : (x + 1 ≤ k → ArePlaces (x + 1) n (with_place k xs)) → (b c : Bool) → ltb k x ≡ b → ltb x k ≡ c → ArePlaces lo n (cond b (k ∷ x ∷ xs) (cond c (x ∷ with_place k xs) (x ∷ xs)))
    by_cases again true c e f = let h = ltb-true k x e in (le, lt, (omega arith, p.1, p.2))
    by_cases again false true e f = let h = ltb-true x k f in (p.0, p.1, again (omega arith))
    by_cases again false false e f = p

pub places-all : (lo n : ℕ) (xs ys : List ℕ) → ArePlaces lo n xs → ArePlaces lo n ys → ArePlaces lo n (all_places xs ys)
places-all lo n [] ys a b = b
places-all lo n (x ∷ xs) ys a b = with_places x lo n (all_places xs ys) a.0 a.1 (places-all lo n xs ys (places_lower (x + 1) lo n xs (let h : lo ≤ x = a.0 in omega arith) a.2) b)

pub has_below : (k lo n : ℕ) (xs : List ℕ) → ArePlaces lo n xs → Has k xs → k < n
has_below k lo n [] p h = absurd h
has_below k lo n (x ∷ xs) p h = ⊎_elim (λ (e : k ≡ x). let below : x < n = p.1 in omega arith) (λ t. has_below k (x + 1) n xs p.2 t) h

has_with : (j k : ℕ) (xs : List ℕ) → (j ≡ k) ⊎ Has j xs → Has j (with_place k xs)
has_with j k [] h = h
has_with j k (x ∷ xs) h = by_cases (has_with j k xs) (ltb k x) (ltb x k) refl refl
  where
    by_cases : ((j ≡ k) ⊎ Has j xs → Has j (with_place k xs)) → (b c : Bool) → ltb k x ≡ b → ltb x k ≡ c → Has j (cond b (k ∷ x ∷ xs) (cond c (x ∷ with_place k xs) (x ∷ xs)))
    by_cases again true c e f = h
    by_cases again false true e f = ⊎_elim (λ (same : j ≡ k). inr (again (inl same))) (λ (t : (j ≡ x) ⊎ Has j xs). ⊎_elim (λ (same : j ≡ x). inl same) (λ (u : Has j xs). inr (again (inr u))) t) h
    by_cases again false false e f = let a = ltb-false k x e in let b = ltb-false x k f in ⊎_elim (λ (same : j ≡ k). inl (omega arith)) (λ (t : (j ≡ x) ⊎ Has j xs). t) h

-- the joined places are those of both
pub has_all : (j : ℕ) (xs ys : List ℕ) → Has j xs ⊎ Has j ys → Has j (all_places xs ys)
has_all j [] ys h = ⊎_elim (λ n. absurd n) (λ t. t) h
has_all j (x ∷ xs) ys h = has_with j x (all_places xs ys)
    (⊎_elim (λ (t : (j ≡ x) ⊎ Has j xs). ⊎_elim (λ (same : j ≡ x). inl same) (λ (u : Has j xs). inr (has_all j xs ys (inl u))) t) (λ (t : Has j ys). inr (has_all j xs ys (inr t))) h)

pub sound_first : (seen : List Entry) → IsSound seen [] None
sound_first seen = record { places = tt; grown = λ t e. absurd (cc e) }

pub sound_take : (seen : List Entry) (mine : List ℕ) (held : Option (List Entry)) (l : List Entry) → IsSound seen mine held → IsPrefixOf seen l → IsSound seen mine (Some l)
sound_take seen mine held l s p = record { places = s.places; grown = λ t e. let same : l ≡ t = cc e in subst (IsPrefixOf seen) same p }

pub sound_put : (seen : List Entry) (mine : List ℕ) (held : Option (List Entry)) (t l : List Entry) → IsSound seen mine held → held ≡ Some t → IsPrefixOf t l → IsSound l (mine ++ new_places (taken_log held) l) None
sound_put seen mine held t l s e p =
    let old = prefix_length seen t (s.grown t e) in
    let new = prefix_length t l p in record {
      places = subst (λ h. ArePlaces 0 (length l) (mine ++ new_places (taken_log h) l)) (sym e)
          (places-append 0 (length seen) (length t) (length l) mine (new_places t l) (omega arith) old (omega arith) s.places (places_are (length t) (length l - length t) (length l) (omega arith)));
      grown = λ t e. absurd (cc e);
    }

longer_length : (xs ys : List Entry) → (length xs ≤ length (longer xs ys)) × (length ys ≤ length (longer xs ys))
longer_length xs ys = by_cases (leb (length xs) (length ys)) refl
  where
    by_cases : (b : Bool) → leb (length xs) (length ys) ≡ b → (length xs ≤ length (cond b ys xs)) × (length ys ≤ length (cond b ys xs))
    by_cases true e = (leb-true (length xs) (length ys) e, le_refl (length ys))
    by_cases false e = let h = leb-false (length xs) (length ys) e in (le_refl (length xs), omega arith)

pub sound_join : (a b : List Entry) (p q : List ℕ) (g h : Option (List Entry)) → g ≡ None → IsSound a p g → IsSound b q h → IsSound (longer a b) (all_places p q) g
sound_join a b p q g h free s t = let l = longer_length a b in record {
  places = places-all 0 (length (longer a b)) p q (places_more 0 (length a) (length (longer a b)) p l.0 s.places) (places_more 0 (length b) (length (longer a b)) q l.1 t.places);
  grown = λ t e. absurd (cc (free, e));
}

get_there : {A : Type 0} (xs : List A) (k : ℕ) → k < length xs → (x : A) × (slice_get xs k ≡ Some x)
get_there [] k lt = absurd (omega arith)
get_there (x ∷ xs) zero lt = (x, refl)
get_there (x ∷ xs) (suc k) lt = get_there xs k (omega arith)

-- what a seat made stands in each log that begins with what it has seen
pub stand_at : (seen log : List Entry) (mine : List ℕ) (held : Option (List Entry)) → IsSound seen mine held → IsPrefixOf seen log → StandAt mine seen log
stand_at seen log mine held s p k h = let g = get_there seen k (has_below k 0 (length seen) mine s.places h) in (g.0, g.1, prefix_get seen log k g.0 p g.1)
