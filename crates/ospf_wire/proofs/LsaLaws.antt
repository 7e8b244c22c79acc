-- LSAs: read one after the other as a loop does, and the laws of reading them.
use Rattle.std.proofs.Common.{◌≡◌, ℕ, zero, suc, ◌+◌, ◌-◌, ◌<◌, ◌≤◌, ◌||◌, ltb, false, cond, List, [], ◌∷◌, ◌++◌, length, drop, Option, Some, None, refl, sym, ap, subst, ◌∙◌, arith}
use Rattle.std.specs.Prelude.{option_map, slice_range}
use Rattle.std.proofs.lemmas.Bool.{ltb-false, le-ltb, or_parts}
use Rattle.std.proofs.lemmas.Option.{same_Some, option_and_then_some}
use Rattle.std.proofs.lemmas.List.{append-nil}
use Rattle.ospf_wire.specs.declared.lsa.Lsa.{Lsa}
use Rattle.ospf_wire.specs.declared.lsa.LsaHeader.{LsaHeader}
use Rattle.ospf_wire.specs.Fields.{field}
use Rattle.ospf_wire.specs.Lsas.{header_of, IsAtFront, AreLsas}
use Rattle.ospf_wire.specs.Reading.{lsa_at, lsas_at, update_at}
use Rattle.ospf_wire.proofs.Choices.{passed, mapped}
use Rattle.ospf_wire.proofs.Fronts.{with_front, regroup}

-- one more LSA is read
pub lsas_more : (front : List Lsa) (count i : ℕ) (bytes : List ℕ) (l : Lsa) (total : Option (List Lsa)) → i < count → Some l ≡ lsa_at bytes
    → with_front front (lsas_at (count - i) bytes) ≡ total → with_front (front ++ l ∷ []) (lsas_at (count - (i + 1)) (drop l.head.length bytes)) ≡ total
lsas_more front count i bytes l total lt found so_far =
    let k : count - i ≡ suc (count - (i + 1)) = omega arith in
    let one : with_front front (lsas_at (count - i) bytes) ≡ with_front (front ++ l ∷ []) (lsas_at (count - (i + 1)) (drop l.head.length bytes)) = rw (k, ← found) (regroup front l (lsas_at (count - (i + 1)) (drop l.head.length bytes))) in
    sym one ∙ so_far

-- no further LSA is there
pub lsas_none : (front : List Lsa) (count i : ℕ) (bytes : List ℕ) (total : Option (List Lsa)) → i < count → None ≡ lsa_at bytes
    → with_front front (lsas_at (count - i) bytes) ≡ total → None ≡ total
lsas_none front count i bytes total lt missing so_far =
    let k : count - i ≡ suc (count - (i + 1)) = omega arith in
    let one : with_front front (lsas_at (count - i) bytes) ≡ None = rw (k, ← missing) refl in
    sym one ∙ so_far

-- all are read, and nothing is left
pub lsas_end : (front : List Lsa) (count i : ℕ) (bytes : List ℕ) (total : Option (List Lsa)) → count ≤ i → bytes ≡ []
    → with_front front (lsas_at (count - i) bytes) ≡ total → Some front ≡ total
lsas_end front count i bytes total le none so_far =
    let k : count - i ≡ 0 = omega arith in
    let one : with_front front (lsas_at (count - i) bytes) ≡ Some front = rw (k, none) (ap (λ (all : List Lsa). Some all) (append-nil front)) in
    sym one ∙ so_far

-- all are read, and some bytes are left
pub lsas_rest : (front : List Lsa) (count i : ℕ) (bytes : List ℕ) (total : Option (List Lsa)) → count ≤ i → (bytes ≡ [] → ⊥)
    → with_front front (lsas_at (count - i) bytes) ≡ total → None ≡ total
lsas_rest front count i [] total le some so_far = absurd (some refl)
lsas_rest front count i (b ∷ bytes) total le some so_far =
    let k : count - i ≡ 0 = omega arith in
    let one : with_front front (lsas_at (count - i) (b ∷ bytes)) ≡ None = rw k refl in
    sym one ∙ so_far

abbrev lsa_of : LsaHeader → List ℕ → Lsa
lsa_of h body = record { head = h; body = body }

-- what is read stands at the front
lsa_takes : (bytes : List ℕ) (l : Lsa) → lsa_at bytes ≡ Some l → IsAtFront bytes l
unfolding lsa_at header_of
lsa_takes bytes l e =
    let len = field 18 2 bytes in
    let made : Lsa = record { head = header_of bytes; body = slice_range bytes 20 len } in
    let a = passed (ltb (length bytes) 20) (cond (ltb len 20 || ltb (length bytes) len) None (Some made)) l e in
    let b = passed (ltb len 20 || ltb (length bytes) len) (Some made) l a.1 in
    let tests = or_parts (ltb len 20) (ltb (length bytes) len) b.0 in
    let stands : IsAtFront bytes made = record {
      head = refl;
      least = ltb-false len 20 tests.0;
      fits = ltb-false (length bytes) len tests.1;
      body = refl;
    } in
    subst (λ (x : Lsa). IsAtFront bytes x) (same_Some made l b.1) stands

same_lsa : (bytes : List ℕ) (l : Lsa) → IsAtFront bytes l → l.head.length ≡ field 18 2 bytes → lsa_of (header_of bytes) (slice_range bytes 20 (field 18 2 bytes)) ≡ l
same_lsa bytes l stands len = rw (← len, ← stands.body, ← stands.head) refl

-- what stands at the front is read
lsa_again : (bytes : List ℕ) (l : Lsa) → IsAtFront bytes l → lsa_at bytes ≡ Some l
unfolding lsa_at header_of
lsa_again bytes l stands =
    let len : l.head.length ≡ field 18 2 bytes = ap (λ h. h.length) stands.head in
    let least = stands.least in
    let fits = stands.fits in
    let long : ltb (length bytes) 20 ≡ false = le-ltb (length bytes) 20 (omega arith) in
    let whole : ltb (field 18 2 bytes) 20 ≡ false = le-ltb (field 18 2 bytes) 20 (omega arith) in
    let inside : ltb (length bytes) (field 18 2 bytes) ≡ false = le-ltb (length bytes) (field 18 2 bytes) (omega arith) in
    rw (long, whole, inside) (ap (λ (x : Lsa). Some x) (same_lsa bytes l stands len))

-- what is read are the LSAs
lsas_take : (count : ℕ) (bytes : List ℕ) (ls : List Lsa) → lsas_at count bytes ≡ Some ls → AreLsas bytes ls × (length ls ≡ count)
lsas_take zero [] ls e = subst (λ (xs : List Lsa). AreLsas [] xs × (length xs ≡ 0)) (same_Some [] ls e) (refl, refl)
lsas_take zero (b ∷ bytes) ls e = absurd cc
lsas_take (suc count) bytes ls e =
    option_and_then_some (λ l. option_map (λ more. l ∷ more) (lsas_at count (drop l.head.length bytes))) (lsa_at bytes) ls e
    (λ l found rest.
    let m = mapped (λ more. l ∷ more) (lsas_at count (drop l.head.length bytes)) ls rest in
    let others = lsas_take count (drop l.head.length bytes) m.0 m.1 in
    subst (λ (xs : List Lsa). AreLsas bytes xs × (length xs ≡ suc count)) m.2 ((lsa_takes bytes l found, others.0), ap suc others.1))

-- the LSAs are read
lsas_again : (ls : List Lsa) (bytes : List ℕ) → AreLsas bytes ls → lsas_at (length ls) bytes ≡ Some ls
lsas_again [] bytes are = rw are refl
lsas_again (l ∷ ls) bytes are =
    let first = lsa_again bytes l are.0 in
    let others = lsas_again ls (drop l.head.length bytes) are.1 in
    rw (first, others) refl

-- what is read is the Update's
pub update_takes : (bytes : List ℕ) (ls : List Lsa) → update_at bytes ≡ Some ls → (4 ≤ length bytes) × (field 0 4 bytes ≡ length ls) × AreLsas (drop 4 bytes) ls
unfolding update_at
update_takes bytes ls e =
    let a = passed (ltb (length bytes) 4) (lsas_at (field 0 4 bytes) (drop 4 bytes)) ls e in
    let all = lsas_take (field 0 4 bytes) (drop 4 bytes) ls a.1 in
    (ltb-false (length bytes) 4 a.0, sym all.1, all.0)

-- the Update's LSAs are read
pub update_again : (bytes : List ℕ) (ls : List Lsa) → 4 ≤ length bytes → field 0 4 bytes ≡ length ls → AreLsas (drop 4 bytes) ls → update_at bytes ≡ Some ls
unfolding update_at
update_again bytes ls long count are =
    let t : ltb (length bytes) 4 ≡ false = le-ltb (length bytes) 4 long in
    rw (t, count, lsas_again ls (drop 4 bytes) are) refl
