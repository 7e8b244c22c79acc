-- Laws about what is told and what is put, one piece after another.
use Rattle.std.proofs.Common.{◌≡◌, ℕ, ◌+◌, ◌-◌, ◌≤◌, List, [], ◌++◌, length, take, drop, Option, Some, None, refl, ap, sym, ◌∙◌, append_assoc, append-nil, arith}
use Rattle.std.proofs.lemmas.List.{take_at, length-take-le, length-append, take-append-drop, take-append-le, length-drop}
use Rattle.std.proofs.Math.Seq.{take-add, drop-drop, take-append_seam, take-append-add}
use Rattle.dn_io.specs.Streams.{before, behind, PutsFront, PutsOrKeeps}

pub behind-nil : (told : Option (List ℕ)) → behind told [] ≡ told
behind-nil None = refl
behind-nil (Some held) = ap (λ (l : List ℕ). Some l) (append-nil held)

pub behind-behind : (told : Option (List ℕ)) (one two : List ℕ) → behind (behind told one) two ≡ behind told (one ++ two)
behind-behind None one two = refl
behind-behind (Some held) one two = ap (λ (l : List ℕ). Some l) (append_assoc held one two)

pub before-nil : (told : Option (List ℕ)) → before [] told ≡ told
before-nil None = refl
before-nil (Some rest) = refl

pub before-before : (one two : List ℕ) (told : Option (List ℕ)) → before one (before two told) ≡ before (one ++ two) told
before-before one two None = refl
before-before one two (Some rest) = ap (λ (l : List ℕ). Some l) (sym (append_assoc one two rest))

-- nothing is a front of any text
pub PutsFront-none : (told : Option (List ℕ)) (text : List ℕ) → PutsFront told told text
PutsFront-none told text = record { count = 0; within = omega arith; put = sym (behind-nil told) }

-- a front of one text is a front of a longer one
pub PutsFront-longer : {old now : Option (List ℕ)} {one : List ℕ} (two : List ℕ) → PutsFront old now one → PutsFront old now (one ++ two)
PutsFront-longer {old} {now} {one} two front =
    let within = front.within in
    record { count = front.count; within = simp length-append (omega arith); put = rw take-append-le front.put }

-- all of one text and then a front of another is a front of both
pub PutsFront-after : {old then now : Option (List ℕ)} {two : List ℕ} (one : List ℕ) → then ≡ behind old one → PutsFront then now two → PutsFront old now (one ++ two)
PutsFront-after {old} {then} {now} {two} one all front =
    let n = front.count in
    record {
      count = length one + n;
      within = simp length-append (omega (arith, front.within));
      put = front.put ∙ ap (λ told. behind told (take n two)) all ∙ behind-behind old one (take n two) ∙ ap (behind old) (sym (take-append-add one two n));
    }

-- a flush of what was kept
pub PutsOrKeeps-flush : {old then now : Option (List ℕ)} {kept left text : List ℕ} → PutsOrKeeps old then kept text → PutsOrKeeps then now left kept → PutsOrKeeps old now left text
PutsOrKeeps-flush first second = record {
  whole = second.whole ∙ first.whole;
  rest = omega (arith, first.rest, second.rest);
}

-- a list that is parted at two places
front-of : (held first kept text : List ℕ) → held ++ kept ≡ first ++ text → length kept ≤ length text → held ≡ first ++ take (length text - length kept) text
front-of held first kept text same rest =
    let long : length held ≡ length first + (length text - length kept) = omega (arith, simp length-append at (ap length same)) in
    sym (take-append_seam held kept) ∙ ap (take (length held)) same ∙ ap (λ (n : ℕ). take n (first ++ text)) long ∙ take-append-add first text (length text - length kept)

front-put : (old now : Option (List ℕ)) (kept text : List ℕ) → behind now kept ≡ behind old text → length kept ≤ length text → now ≡ behind old (take (length text - length kept) text)
front-put None None kept text whole rest = refl
front-put None (Some held) kept text whole rest = cc
front-put (Some first) None kept text whole rest = cc
front-put (Some first) (Some held) kept text whole rest =
    let same : held ++ kept ≡ first ++ text = cc in
    ap (λ (l : List ℕ). Some l) (front-of held first kept text same rest)

-- whatever is kept, a front of the text was put
pub PutsOrKeeps-front : {old now : Option (List ℕ)} {kept text : List ℕ} → PutsOrKeeps old now kept text → PutsFront old now text
PutsOrKeeps-front {old} {now} {kept} {text} it = record {
  count = length text - length kept;
  within = omega arith;
  put = front-put old now kept text it.whole it.rest;
}

-- n more of the bytes that came
pub came-more : (old then now : Option (List ℕ)) (all into : List ℕ) (n : ℕ) → old ≡ before all then → n ≤ length into → then ≡ before (take n into) now → (length (all ++ take n into) ≡ length all + n) × (old ≡ before (all ++ take n into) now)
came-more old then now all into n told fits came = (
  simp length-append (omega (arith, length-take-le n into fits)),
  told ∙ ap (before all) came ∙ before-before all (take n into) now,
)

-- n more of the bytes were put
pub behind-more : (told : Option (List ℕ)) (bytes : List ℕ) (done n : ℕ) → behind (behind told (take done bytes)) (take n (drop done bytes)) ≡ behind told (take (done + n) bytes)
behind-more told bytes done n = behind-behind told (take done bytes) (take n (drop done bytes)) ∙ ap (behind told) (sym (take-add done n bytes))

-- what a read of n bytes at a place gives, and what is left behind them
pub piece-and-rest : (bytes into : List ℕ) (at n : ℕ) → at + n ≤ length bytes → take n (take (at + n - at) (drop at bytes) ++ into) ++ drop (at + n) bytes ≡ drop at bytes
piece-and-rest bytes into at n fits =
    let width : at + n - at ≡ n = omega arith in
    let long : n ≤ length (drop at bytes) = simp length-drop (omega arith) in
    rw (width, take_at (take n (drop at bytes)) into n (length-take-le n (drop at bytes) long), ← drop-drop n at bytes) (take-append-drop n (drop at bytes))

pub length-piece : (bytes : List ℕ) (at n : ℕ) → at + n ≤ length bytes → length (take (at + n - at) (drop at bytes)) ≡ n
length-piece bytes at n fits =
    let width : at + n - at ≡ n = omega arith in
    let long : n ≤ length (drop at bytes) = simp length-drop (omega arith) in
    rw width (length-take-le n (drop at bytes) long)
