-- Links of a router-LSA: read one after the other as a loop does, and the laws of reading and writing them.
use Rattle.std.proofs.Common.{◌≡◌, ◌↔◌, ℕ, zero, suc, ◌+◌, ◌-◌, ◌*◌, ◌<◌, ◌≤◌, inl, inr, leb, ltb, Bool, true, false, List, [], ◌∷◌, ◌++◌, length, drop, Option, Some, None, refl, sym, ap, subst, ◌∙◌, arith}
use Rattle.std.specs.Prelude.{option_map, is_some, IfSome, IfNone, IsTrue, All}
use Rattle.std.specs.List.{AllByRecursion}
use Rattle.std.proofs.lemmas.Bool.{ltb-false, le-ltb, leb-true, le-leb, lt-leb}
use Rattle.std.proofs.lemmas.Option.{same_Some, none-some, option_and_then_some}
use Rattle.std.proofs.lemmas.List.{append-nil, length-append, drop_at}
use Rattle.std.proofs.lemmas.List.Elements.{recursion_from_All}
use Rattle.byteorder.specs.Numbers.{big_number-reads_back}
use Rattle.ospf_wire.specs.declared.router_lsa.RouterLink.{RouterLink}
use Rattle.ospf_wire.specs.Fields.{field, number}
use Rattle.ospf_wire.specs.RouterLsas.{link_of, link_len, AreLinks, IsRouterBody, link_bytes, links_bytes, router_body_bytes, FitsLink}
use Rattle.ospf_wire.specs.Reading.{link_at, links_at, router_links_at, are_links, is_well_formed}
use Rattle.ospf_wire.proofs.Choices.{chosen, passed, mapped}
use Rattle.ospf_wire.proofs.Fronts.{with_front, regroup}

pub link_there : (bytes : List ℕ) → link_len bytes ≤ length bytes → link_at bytes ≡ Some (link_of bytes)
unfolding link_at
link_there bytes le = rw (le-leb (link_len bytes) (length bytes) le) refl

pub link_missing : (bytes : List ℕ) → length bytes + 1 ≤ link_len bytes → link_at bytes ≡ None
unfolding link_at
link_missing bytes lt =
    let shorter : length bytes < link_len bytes = omega arith in
    rw (lt-leb (link_len bytes) (length bytes) shorter) refl

-- ---- reading in a loop

-- one more link is read
pub links_more : (front : List RouterLink) (count i : ℕ) (bytes : List ℕ) (total : Option (List RouterLink)) → i < count → link_len bytes ≤ length bytes
    → with_front front (links_at (count - i) bytes) ≡ total → with_front (front ++ link_of bytes ∷ []) (links_at (count - (i + 1)) (drop (link_len bytes) bytes)) ≡ total
links_more front count i bytes total lt le so_far =
    let k : count - i ≡ suc (count - (i + 1)) = omega arith in
    let found : link_at bytes ≡ Some (link_of bytes) = link_there bytes le in
    let one : with_front front (links_at (count - i) bytes) ≡ with_front (front ++ link_of bytes ∷ []) (links_at (count - (i + 1)) (drop (link_len bytes) bytes))
    = rw (k, found) (regroup front (link_of bytes) (links_at (count - (i + 1)) (drop (link_len bytes) bytes))) in
    sym one ∙ so_far

-- no further link is there
pub links_none : (front : List RouterLink) (count i : ℕ) (bytes : List ℕ) (total : Option (List RouterLink)) → i < count → length bytes + 1 ≤ link_len bytes
    → with_front front (links_at (count - i) bytes) ≡ total → None ≡ total
links_none front count i bytes total lt short so_far =
    let k : count - i ≡ suc (count - (i + 1)) = omega arith in
    let missing : link_at bytes ≡ None = link_missing bytes short in
    let one : with_front front (links_at (count - i) bytes) ≡ None = rw (k, missing) refl in
    sym one ∙ so_far

-- all are read, and nothing is left
pub links_end : (front : List RouterLink) (count i : ℕ) (bytes : List ℕ) (total : Option (List RouterLink)) → count ≤ i → bytes ≡ []
    → with_front front (links_at (count - i) bytes) ≡ total → Some front ≡ total
links_end front count i bytes total le none so_far =
    let k : count - i ≡ 0 = omega arith in
    let one : with_front front (links_at (count - i) bytes) ≡ Some front = rw (k, none) (ap (λ (all : List RouterLink). Some all) (append-nil front)) in
    sym one ∙ so_far

-- all are read, and some bytes are left
pub links_rest : (front : List RouterLink) (count i : ℕ) (bytes : List ℕ) (total : Option (List RouterLink)) → count ≤ i → (bytes ≡ [] → ⊥)
    → with_front front (links_at (count - i) bytes) ≡ total → None ≡ total
links_rest front count i [] total le some so_far = absurd (some refl)
links_rest front count i (b ∷ bytes) total le some so_far =
    let k : count - i ≡ 0 = omega arith in
    let one : with_front front (links_at (count - i) (b ∷ bytes)) ≡ None = rw k refl in
    sym one ∙ so_far

-- ---- testing in a loop

some_mapped : {A B : Type 0} (f : A → B) (o : Option A) → is_some (option_map f o) ≡ is_some o
some_mapped f None = refl
some_mapped f (Some x) = refl

-- one more link is passed
pub test_more : (count i : ℕ) (bytes : List ℕ) (total : Bool) → i < count → link_len bytes ≤ length bytes
    → are_links (count - i) bytes ≡ total → are_links (count - (i + 1)) (drop (link_len bytes) bytes) ≡ total
test_more count i bytes total lt le so_far =
    let k : count - i ≡ suc (count - (i + 1)) = omega arith in
    let found : link_at bytes ≡ Some (link_of bytes) = link_there bytes le in
    let one : are_links (count - i) bytes ≡ are_links (count - (i + 1)) (drop (link_len bytes) bytes)
    = rw (k, found) (some_mapped (λ (ls : List RouterLink). link_of bytes ∷ ls) (links_at (count - (i + 1)) (drop (link_len bytes) bytes))) in
    sym one ∙ so_far

-- no further link is there
pub test_none : (count i : ℕ) (bytes : List ℕ) (total : Bool) → i < count → length bytes + 1 ≤ link_len bytes → are_links (count - i) bytes ≡ total → false ≡ total
test_none count i bytes total lt short so_far =
    let k : count - i ≡ suc (count - (i + 1)) = omega arith in
    let missing : link_at bytes ≡ None = link_missing bytes short in
    let one : are_links (count - i) bytes ≡ false = rw (k, missing) refl in
    sym one ∙ so_far

-- all are passed
pub test_end : (count i : ℕ) (bytes : List ℕ) (total empty : Bool) → count ≤ i → IsTrue empty ↔ (bytes ≡ []) → are_links (count - i) bytes ≡ total → empty ≡ total
test_end count i [] total true le is so_far =
    let k : count - i ≡ 0 = omega arith in
    let one : are_links (count - i) [] ≡ true = rw k refl in
    sym one ∙ so_far
test_end count i [] total false le is so_far = let h : IsTrue false = is.1 refl in absurd cc
test_end count i (b ∷ bytes) total true le is so_far =
    let none : b ∷ bytes ≡ [] = is.0 refl in
    absurd cc
test_end count i (b ∷ bytes) total false le is so_far =
    let k : count - i ≡ 0 = omega arith in
    let one : are_links (count - i) (b ∷ bytes) ≡ false = rw k refl in
    sym one ∙ so_far

-- ---- what is read are the links of the body

link_takes : (bytes : List ℕ) (l : RouterLink) → link_at bytes ≡ Some l → (link_len bytes ≤ length bytes) × (l ≡ link_of bytes)
unfolding link_at
link_takes bytes l e =
    elim (chosen (leb (link_len bytes) (length bytes)) (Some (link_of bytes)) None (Some l) e) [
      | inl hit ↦ (leb-true (link_len bytes) (length bytes) hit.0, sym (same_Some (link_of bytes) l hit.1))
      | inr miss ↦ absurd (none-some l miss.1)
    ]

links_take : (count : ℕ) (bytes : List ℕ) (ls : List RouterLink) → links_at count bytes ≡ Some ls → AreLinks bytes ls × (length ls ≡ count)
links_take zero [] ls e = subst (λ (xs : List RouterLink). AreLinks [] xs × (length xs ≡ 0)) (same_Some [] ls e) (refl, refl)
links_take zero (b ∷ bytes) ls e = absurd cc
links_take (suc count) bytes ls e =
    option_and_then_some (λ l. option_map (λ more. l ∷ more) (links_at count (drop (link_len bytes) bytes))) (link_at bytes) ls e
    (λ l found rest.
    let m = mapped (λ more. l ∷ more) (links_at count (drop (link_len bytes) bytes)) ls rest in
    let others = links_take count (drop (link_len bytes) bytes) m.0 m.1 in
    let first = link_takes bytes l found in
    subst (λ (xs : List RouterLink). AreLinks bytes xs × (length xs ≡ suc count)) m.2 ((first.0, first.1, others.0), ap suc others.1))

links_again : (ls : List RouterLink) (bytes : List ℕ) → AreLinks bytes ls → links_at (length ls) bytes ≡ Some ls
links_again [] bytes are = rw are refl
links_again (l ∷ ls) bytes are =
    let first = link_there bytes are.0 in
    let others = links_again ls (drop (link_len bytes) bytes) are.2 in
    rw (first, others) (ap (λ (x : RouterLink). Some (x ∷ ls)) (sym are.1))

-- what is read are the body's links
pub body_takes : (body : List ℕ) (ls : List RouterLink) → router_links_at body ≡ Some ls → IsRouterBody body ls
unfolding router_links_at
body_takes body ls e =
    let a = passed (ltb (length body) 4) (links_at (field 2 2 body) (drop 4 body)) ls e in
    let all = links_take (field 2 2 body) (drop 4 body) ls a.1 in
    record { whole = ltb-false (length body) 4 a.0; count = sym all.1; are = all.0 }

-- the body's links are read
pub body_again : (body : List ℕ) (ls : List RouterLink) → IsRouterBody body ls → router_links_at body ≡ Some ls
unfolding router_links_at
body_again body ls is =
    let t : ltb (length body) 4 ≡ false = le-ltb (length body) 4 is.whole in
    rw (t, is.count, links_again ls (drop 4 body) is.are) refl

pub are_found : (body : List ℕ) (found : Option (List RouterLink)) → found ≡ router_links_at body → IfSome found (λ ls. IsRouterBody body ls)
are_found body None e = tt
are_found body (Some ls) e = body_takes body ls (sym e)

pub are_none : (body : List ℕ) (found : Option (List RouterLink)) → found ≡ router_links_at body → IfNone found ((ls : List RouterLink) → ¬ IsRouterBody body ls)
are_none body None e = λ ls is. none-some ls (e ∙ body_again body ls is)
are_none body (Some ls) e = tt

formed_by : (body : List ℕ) (read : Option (List RouterLink)) → read ≡ router_links_at body → IsTrue (is_some read) ↔ ((ls : List RouterLink) × IsRouterBody body ls)
formed_by body None e = ((λ h. absurd cc), (λ x. absurd (none-some x.0 (e ∙ body_again body x.0 x.1))))
formed_by body (Some ls) e = ((λ _. (ls, body_takes body ls (sym e))), (λ _. refl))

-- a body is well formed where it is one with some links
pub formed : (body : List ℕ) (test : Bool) → test ≡ is_well_formed body → IsTrue test ↔ ((ls : List RouterLink) × IsRouterBody body ls)
formed body test e = subst (λ (b : Bool). IsTrue b ↔ ((ls : List RouterLink) × IsRouterBody body ls)) (sym e) (formed_by body (router_links_at body) refl)

-- ---- what is written is read again

same_link : (l : RouterLink) (i d k m : ℕ) → i ≡ l.id → d ≡ l.data → k ≡ l.kind → m ≡ l.metric → record { id = i; «data» = d; kind = k; metric = m } ≡ l
same_link l i d k m ei ed ek em = rw (ei, ed, ek, em) refl

link_again : (l : RouterLink) (rest : List ℕ) → FitsLink l → link_of (link_bytes l ++ rest) ≡ l
unfolding link_of link_bytes field number
link_again l rest fits =
    same_link l _ _ _ _ (big_number-reads_back 4 l.id [] fits.id) (big_number-reads_back 4 l.data [] fits.data) (omega arith) (big_number-reads_back 2 l.metric [] fits.metric)

length-link_bytes : (l : RouterLink) → length (link_bytes l) ≡ 12
unfolding link_bytes number
length-link_bytes l = refl

no_tos : (l : RouterLink) (rest : List ℕ) → link_len (link_bytes l ++ rest) ≡ 12
unfolding link_bytes field number
no_tos l rest = omega arith

links_are : (ls : List RouterLink) → AllByRecursion FitsLink ls → AreLinks (links_bytes ls) ls
links_are [] fit = refl
links_are (l ∷ ls) fit =
    let len = no_tos l (links_bytes ls) in
    let behind : drop (link_len (links_bytes (l ∷ ls))) (links_bytes (l ∷ ls)) ≡ links_bytes ls = ap (λ (n : ℕ). drop n (links_bytes (l ∷ ls))) len ∙ drop_at (link_bytes l) (links_bytes ls) 12 (length-link_bytes l) in (
      omega (arith, len, length-link_bytes l, length-append (link_bytes l) (links_bytes ls)),
      sym (link_again l (links_bytes ls) fit.0),
      subst (λ (bytes : List ℕ). AreLinks bytes ls) (sym behind) (links_are ls fit.1),
    )

length-links_bytes : (ls : List RouterLink) → length (links_bytes ls) ≡ 12 * length ls
length-links_bytes [] = omega arith
length-links_bytes (l ∷ ls) = omega (arith, length-links_bytes ls, length-append (link_bytes l) (links_bytes ls), length-link_bytes l)

-- what is written has these links
pub body_is : (ls : List RouterLink) → length ls ≤ 65535 → All FitsLink ls → IsRouterBody (router_body_bytes ls) ls
unfolding router_body_bytes field number
body_is ls few fit = record {
  whole = omega arith;
  count = big_number-reads_back 2 (length ls) [] (omega arith);
  are = links_are ls (recursion_from_All FitsLink ls fit);
}

pub length-router_body_bytes : (ls : List RouterLink) → length (router_body_bytes ls) ≡ 4 + 12 * length ls
unfolding router_body_bytes number
length-router_body_bytes ls = omega (arith, length-links_bytes ls)

-- the bytes of a body, put together
pub joined : (head bytes : List ℕ) (ls : List RouterLink) → head ≡ 0 ∷ 0 ∷ number 2 (length ls) → bytes ≡ head ++ links_bytes ls → bytes ≡ router_body_bytes ls
unfolding router_body_bytes
joined head bytes ls front e = e ∙ ap (λ (xs : List ℕ). xs ++ links_bytes ls) front
