-- Lines that begin a journal, and the first bad line.
use Rattle.std.proofs.Common.{◌≡◌, ◌⊎◌, inl, inr, Bool, true, false, cond, not, nat_eq, eqb, Result, Ok, Err, IfOk, ℕ, ◌+◌, ◌<◌, suc, zero, List, [], ◌∷◌, ◌++◌, length, take, drop, map, refl, sym, ap, subst, ◌∙◌, arith, append_assoc, codes}
use Rattle.std.specs.List.{AllByRecursion, onto_first}
use Rattle.std.specs.Cmp.Lexicographic.{pointwise, bytes_decides}
use Rattle.std.proofs.lemmas.List.{append-nil, take-append-drop, take-append-le, length-append}
use Rattle.std.proofs.lemmas.Bool.{cases_lt, eqb-true}
use Rattle.std.proofs.Math.Seq.{take-append-add}
use Rattle.dn_model.specs.Cases.{Heading, IsHeading}
use Rattle.dn_text.specs.Lines.{lines}
use Rattle.dn_case.specs.declared.cause.CaseFault.{CaseFault}
use Rattle.dn_case.specs.declared.cause.CaseError.{CaseError}
use Rattle.dn_case.specs.declared.cause.CaseError.TheVariants as errors
use Rattle.dn_case.specs.declared.cause.Cause.TheVariants as cause
use Rattle.dn_case.specs.Reading.{OnFault}
use Rattle.dn_world.specs.declared.step.Step.{Step}
use Rattle.dn_journal.specs.Spelling.{IsStep, step_line, end_line, journal_lines}
use Rattle.dn_journal.specs.Reading.{IsJournal, BeginsJournal, IsFirstBad, IsNoJournal, IsStepLine}
use Rattle.dn_journal.proofs.StepLaws.{no_end, one_step}

abbrev pub AreSteps : Heading → List Step → Type 0
AreSteps h steps = AllByRecursion (IsStep h) steps

-- the first line and those of steps
abbrev pub opened : Heading → List Step → List (List ℕ)
opened h steps = codes "journal\n" ∷ map (step_line h) steps

heads : {X : Type 0} (x y : X) (xs ys : List X) → x ∷ xs ≡ y ∷ ys → (x ≡ y) × (xs ≡ ys)
heads x y xs ys e = (cc, cc)

-- ---- what may follow

-- the line of a step, or the last line, with nothing behind it
abbrev Follows : Heading → List Step → List Step → List ℕ → List (List ℕ) → ℕ → Type 0
Follows h a b l more n = ((s : Step) × IsStepLine h s l) ⊎ ((l ≡ end_line n) × (length a ≡ length b) × (more ≡ []))

more_steps : (h : Heading) (a b : List Step) (s t : Step) (l : List ℕ) (more : List (List ℕ)) (n : ℕ) → Follows h a b l more n → Follows h (s ∷ a) (t ∷ b) l more n
more_steps h a b s t l more n (inl step) = inl step
more_steps h a b s t l more n (inr ends) = inr (ends.0, ap suc ends.1, ends.2)

next : (h : Heading) (a b : List Step) (l : List ℕ) (more : List (List ℕ)) (n : ℕ) → map (step_line h) a ++ l ∷ more ≡ map (step_line h) b ++ end_line n ∷ [] → AreSteps h b → Follows h a b l more n
next h [] [] l more n e are = (let k = heads l (end_line n) more [] e in inr (k.0, refl, k.1))
next h [] (t ∷ b) l more n e are = (let k = heads l (step_line h t) more _ e in inl (t, record { step = are.0; is = k.0 }))
next h (s ∷ a) [] l more n e are = (let k = heads (step_line h s) (end_line n) _ [] e in absurd (no_end h s n k.0))
next h (s ∷ a) (t ∷ b) l more n e are =
    let k = heads (step_line h s) (step_line h t) _ _ e in
    more_steps h a b s t l more n (next h a b l more n k.1 are.1)

-- What stands behind the lines of steps in a journal is a step's line, or the last one with nothing behind it.
pub follows : (h : Heading) (a b : List Step) (l : List ℕ) (more : List (List ℕ)) → IsJournal h (opened h a ++ l ∷ more) b → ((s : Step) × IsStepLine h s l) ⊎ ((l ≡ end_line (length a)) × (more ≡ []))
follows h a b l more is =
    let e = (heads (codes "journal\n") (codes "journal\n") (map (step_line h) a ++ l ∷ more) (map (step_line h) b ++ end_line (length b) ∷ []) is.is).1 in
    elim (next h a b l more (length b) e is.are) [
      | inl step ↦ inl step
      | inr ends ↦ inr (ends.0 ∙ ap end_line (sym ends.1), ends.2)
    ]

short : (h : Heading) (a b : List Step) (n : ℕ) → ¬ (map (step_line h) a ≡ map (step_line h) b ++ end_line n ∷ [])
short h [] [] n e = absurd cc
short h [] (t ∷ b) n e = absurd cc
short h (s ∷ a) [] n e = (let k = heads (step_line h s) (end_line n) _ [] e in no_end h s n k.0)
short h (s ∷ a) (t ∷ b) n e = (let k = heads (step_line h s) (step_line h t) _ _ e in short h a b n k.1)

-- Without the last line there is no journal.
pub unfinished : (h : Heading) (a : List Step) → IsNoJournal h (opened h a)
unfinished h a b is = short h a b (length b) (heads (codes "journal\n") (codes "journal\n") _ _ is.is).1

-- ---- lines that begin a journal

none : (h : Heading) → IsJournal h (journal_lines h []) []
none h = record { are = tt; is = refl }

pub nothing_begins : (h : Heading) → BeginsJournal h []
nothing_begins h = record { more = journal_lines h []; steps = []; whole = none h }

pub steps_begin : (h : Heading) (steps : List Step) → AreSteps h steps → BeginsJournal h (opened h steps)
steps_begin h steps are = record { more = end_line (length steps) ∷ []; steps = steps; whole = record { are = are; is = refl } }

pub journal_begins : (h : Heading) (ls : List (List ℕ)) (steps : List Step) → IsJournal h ls steps → BeginsJournal h ls
journal_begins h ls steps is = record { more = []; steps = steps; whole = record { are = is.are; is = append-nil ls ∙ is.is } }

front_begins : (h : Heading) (ls more : List (List ℕ)) → BeginsJournal h (ls ++ more) → BeginsJournal h ls
front_begins h ls more b =
    record { more = more ++ b.more; steps = b.steps; whole = record { are = b.whole.are; is = sym (append_assoc ls more b.more) ∙ b.whole.is } }

fronts_begin : (h : Heading) (ls : List (List ℕ)) (m : ℕ) → BeginsJournal h ls → BeginsJournal h (take m ls)
fronts_begin h ls m b = front_begins h (take m ls) (drop m ls) (subst (λ (x : List (List ℕ)). BeginsJournal h x) (sym (take-append-drop m ls)) b)

-- ---- the first bad line

-- lines that begin a journal, and one with which they don't
pub bad_line : (h : Heading) (front : List (List ℕ)) (l : List ℕ) (more : List (List ℕ)) (n : ℕ) → n ≡ length front + 1 → BeginsJournal h front → ¬ BeginsJournal h (front ++ l ∷ []) → IsFirstBad h (front ++ l ∷ more) n
bad_line h front l more n at b bad =
    let upto : take n (front ++ l ∷ more) ≡ front ++ l ∷ [] = ap (λ (k : ℕ). take k (front ++ l ∷ more)) at ∙ take-append-add front (l ∷ more) 1 in
    record {
      counted = (omega arith, omega (arith, length-append front (l ∷ more)));
      before = λ m less. subst (λ (x : List (List ℕ)). BeginsJournal h x) (sym (take-append-le m front (l ∷ more) (omega arith))) (fronts_begin h front m b);
      bad = λ _ begins. bad (subst (λ (x : List (List ℕ)). BeginsJournal h x) upto begins);
    }

pub bad_none : (h : Heading) (front : List (List ℕ)) (l : List ℕ) (more : List (List ℕ)) → ¬ BeginsJournal h (front ++ l ∷ []) → IsNoJournal h (front ++ l ∷ more)
bad_none h front l more bad steps is =
    bad (front_begins h (front ++ l ∷ []) more (subst (λ (x : List (List ℕ)). BeginsJournal h x) (sym (append_assoc front (l ∷ []) more)) (journal_begins h (front ++ l ∷ more) steps is)))

-- a missing line
pub missing_line : (h : Heading) (ls : List (List ℕ)) (n : ℕ) → n ≡ length ls + 1 → BeginsJournal h ls → IsFirstBad h ls n
missing_line h ls n at b =
    record { counted = (omega arith, omega arith); before = λ m less. fronts_begin h ls m b; bad = λ within. absurd (omega arith) }

-- a line behind those of steps that is neither a step's nor the last
pub no_line_begins : (h : Heading) (a : List Step) (l : List ℕ) → ((s : Step) → ¬ IsStepLine h s l) → ¬ (l ≡ end_line (length a)) → ¬ BeginsJournal h (opened h a ++ l ∷ [])
no_line_begins h a l no_step no_last b =
    let whole : IsJournal h (opened h a ++ l ∷ b.more) b.steps = record { are = b.whole.are; is = sym (append_assoc (opened h a) (l ∷ []) b.more) ∙ b.whole.is } in
    elim (follows h a b.steps l b.more whole) [
      | inl step ↦ no_step step.0 step.1
      | inr ends ↦ no_last ends.0
    ]

-- a line behind the last
pub nothing_follows : (h : Heading) (a : List Step) (l : List ℕ) → ¬ BeginsJournal h ((opened h a ++ end_line (length a) ∷ []) ++ l ∷ [])
nothing_follows h a l b =
    let last = end_line (length a) in
    let grouped : opened h a ++ last ∷ l ∷ b.more ≡ ((opened h a ++ last ∷ []) ++ l ∷ []) ++ b.more =
    sym (append_assoc (opened h a) (last ∷ []) (l ∷ b.more)) ∙ sym (append_assoc (opened h a ++ last ∷ []) (l ∷ []) b.more) in
    let whole : IsJournal h (opened h a ++ last ∷ l ∷ b.more) b.steps = record { are = b.whole.are; is = grouped ∙ b.whole.is } in
    elim (follows h a b.steps last (l ∷ b.more) whole) [
      | inl step ↦ no_end h step.0 (length a) (sym step.1.is)
      | inr ends ↦ absurd (let e = ends.1 in cc)
    ]

-- another first line
pub no_first_begins : (h : Heading) (l : List ℕ) → ¬ (l ≡ codes "journal\n") → ¬ BeginsJournal h (l ∷ [])
no_first_begins h l other b = other (heads l (codes "journal\n") _ _ b.whole.is).0

-- ---- one of each

same_steps : (h : Heading) (a b : List Step) (m n : ℕ) → IsHeading h → AreSteps h a → AreSteps h b → map (step_line h) a ++ end_line m ∷ [] ≡ map (step_line h) b ++ end_line n ∷ [] → a ≡ b
same_steps h [] [] m n k p q e = refl
same_steps h [] (t ∷ b) m n k p q e = absurd (no_end h t m (sym (heads (end_line m) (step_line h t) [] _ e).0))
same_steps h (s ∷ a) [] m n k p q e = absurd (no_end h s n (heads (step_line h s) (end_line n) _ [] e).0)
same_steps h (s ∷ a) (t ∷ b) m n k p q e =
    let parts = heads (step_line h s) (step_line h t) (map (step_line h) a ++ end_line m ∷ []) (map (step_line h) b ++ end_line n ∷ []) e in
    let one : s ≡ t = one_step h s t (step_line h s) k (record { step = p.0; is = refl }) (record { step = q.0; is = parts.0 }) in
    ap (λ (x : Step). x ∷ a) one ∙ ap (λ (x : List Step). t ∷ x) (same_steps h a b m n k p.1 q.1 parts.1)

-- The lines are the journal of one list of steps at most.
pub one_journal : (h : Heading) (ls : List (List ℕ)) (a b : List Step) → IsHeading h → IsJournal h ls a → IsJournal h ls b → a ≡ b
one_journal h ls a b k p q =
    same_steps h a b (length a) (length b) k p.are q.are
    (heads (codes "journal\n") (codes "journal\n") (map (step_line h) a ++ end_line (length a) ∷ []) (map (step_line h) b ++ end_line (length b) ∷ []) (sym p.is ∙ q.is)).1

not_before : (h : Heading) (ls : List (List ℕ)) (m n : ℕ) → IsFirstBad h ls m → IsFirstBad h ls n → m < n → ⊥
not_before h ls m n p q less = p.bad (omega (arith, less, q.counted.1)) (q.before m less)

-- Lines have one first bad line at most.
pub one_first_bad : (h : Heading) (ls : List (List ℕ)) (m n : ℕ) → IsFirstBad h ls m → IsFirstBad h ls n → m ≡ n
one_first_bad h ls m n p q =
    elim (cases_lt m n) [
      | inl less ↦ absurd (not_before h ls m n p q less)
      | inr le ↦ elim (cases_lt n m) [
        | inl less ↦ absurd (not_before h ls n m q p less)
        | inr ge ↦ omega arith
      ]
    ]

-- ---- what the reader found

-- lines that are no journal, with their first bad line
pub record IsFault (h : Heading) (ls : List (List ℕ)) (n : ℕ) : Type 0 where
  pub bad : IsFirstBad h ls n
  pub none : IsNoJournal h ls

fault_as : (h : Heading) (ls ks : List (List ℕ)) (n : ℕ) → ls ≡ ks → IsFault h ks n → IsFault h ls n
fault_as h ls ks n e f = subst (λ (x : List (List ℕ)). IsFault h x n) (sym e) f

length_opened : (h : Heading) (steps : List Step) → length (opened h steps) ≡ length steps + 1
length_opened h [] = refl
length_opened h (s ∷ steps) = omega (arith, length_opened h steps)

no_lines : (text : List ℕ) → length text ≡ 0 → lines text ≡ []
no_lines [] e = refl
no_lines (c ∷ text) e = absurd (omega arith)

onto_some : (c : ℕ) (ls : List (List ℕ)) → (l : List ℕ) × (more : List (List ℕ)) × (onto_first c ls ≡ l ∷ more)
onto_some c [] = (c ∷ [], [], refl)
onto_some c (l ∷ ls) = (c ∷ l, ls, refl)

some_line : (text : List ℕ) → 0 < length text → (l : List ℕ) × (more : List (List ℕ)) × (lines text ≡ l ∷ more)
some_line [] some = absurd (omega arith)
some_line (c ∷ text) some =
    elim (eqb c 10) as (λ b. (l : List ℕ) × (more : List (List ℕ)) × (cond b ((10 ∷ []) ∷ lines text) (onto_first c (lines text)) ≡ l ∷ more)) [
      | true ↦ (10 ∷ [], lines text, refl)
      | false ↦ onto_some c (lines text)
    ]

-- the text ends where a line should begin
pub ended : (h : Heading) (ls : List (List ℕ)) (steps : List Step) (rest : List ℕ) (n : ℕ) → ls ≡ opened h steps ++ lines rest → AreSteps h steps → n ≡ length steps + 2 → length rest ≡ 0 → IsFault h ls n
ended h ls steps rest n so_far are count empty =
    let all : ls ≡ opened h steps = so_far ∙ ap (λ (x : List (List ℕ)). opened h steps ++ x) (no_lines rest empty) ∙ append-nil (opened h steps) in
    fault_as h ls (opened h steps) n all (record { bad = missing_line h (opened h steps) n (omega (arith, length_opened h steps)) (steps_begin h steps are); none = unfinished h steps })

-- the line is neither a step's nor the last
pub no_line : (h : Heading) (ls : List (List ℕ)) (steps : List Step) (rest line behind : List ℕ) (n : ℕ) → ls ≡ opened h steps ++ lines rest → AreSteps h steps → n ≡ length steps + 2 →
    lines rest ≡ line ∷ lines behind → ((s : Step) → ¬ IsStepLine h s line) → ¬ (line ≡ end_line (length steps)) → IsFault h ls n
no_line h ls steps rest line behind n so_far are count cut no_step no_last =
    let all : ls ≡ opened h steps ++ line ∷ lines behind = so_far ∙ ap (λ (x : List (List ℕ)). opened h steps ++ x) cut in
    let begins = no_line_begins h steps line no_step no_last in
    fault_as h ls (opened h steps ++ line ∷ lines behind) n all (record {
      bad = bad_line h (opened h steps) line (lines behind) n (omega (arith, length_opened h steps)) (steps_begin h steps are) begins;
      none = bad_none h (opened h steps) line (lines behind) begins;
    })

-- the line is the last, and another stands behind it
pub line_behind : (h : Heading) (ls : List (List ℕ)) (steps : List Step) (rest line behind : List ℕ) (n : ℕ) → ls ≡ opened h steps ++ lines rest → AreSteps h steps → n ≡ length steps + 2 →
    lines rest ≡ line ∷ lines behind → line ≡ end_line (length steps) → 0 < length behind → IsFault h ls (n + 1)
line_behind h ls steps rest line behind n so_far are count cut last some =
    let more = some_line behind some in
    let end = end_line (length steps) in
    let front = opened h steps ++ end ∷ [] in
    let all : ls ≡ front ++ more.0 ∷ more.1 =
    so_far ∙ ap (λ (x : List (List ℕ)). opened h steps ++ x) (cut ∙ ap (λ (x : List ℕ). x ∷ lines behind) last ∙ ap (λ (x : List (List ℕ)). end ∷ x) more.2)
    ∙ sym (append_assoc (opened h steps) (end ∷ []) (more.0 ∷ more.1)) in
    let begins = nothing_follows h steps more.0 in
    let whole : IsJournal h front steps = record { are = are; is = refl } in
    let at : n + 1 ≡ length front + 1 = omega (arith, length_opened h steps, length-append (opened h steps) (end ∷ [])) in
    fault_as h ls (front ++ more.0 ∷ more.1) (n + 1) all (record {
      bad = bad_line h front more.0 more.1 (n + 1) at (journal_begins h front steps whole) begins;
      none = bad_none h front more.0 more.1 begins;
    })

-- the line is the last, with nothing behind it
pub finished : (h : Heading) (ls : List (List ℕ)) (steps : List Step) (rest line behind : List ℕ) → ls ≡ opened h steps ++ lines rest → AreSteps h steps → lines rest ≡ line ∷ lines behind → line ≡ end_line (length steps) → length behind ≡ 0 → IsJournal h ls steps
finished h ls steps rest line behind so_far are cut last empty =
    record {
      are = are;
      is = so_far ∙ ap (λ (x : List (List ℕ)). opened h steps ++ x) (cut ∙ ap (λ (x : List ℕ). x ∷ lines behind) last ∙ ap (λ (x : List (List ℕ)). end_line (length steps) ∷ x) (no_lines behind empty));
    }

-- the first line is another
pub other_first : (h : Heading) (ls : List (List ℕ)) (first : List ℕ) (more : List (List ℕ)) → ls ≡ first ∷ more → ¬ (first ≡ codes "journal\n") → IsFault h ls 1
other_first h ls first more cut other =
    let begins = no_first_begins h first other in
    fault_as h ls (first ∷ more) 1 cut (record { bad = bad_line h [] first more 1 (omega arith) (nothing_begins h) begins; none = bad_none h [] first more begins })

-- there is no line
pub no_first : (h : Heading) (text : List ℕ) → length text ≡ 0 → IsFault h (lines text) 1
no_first h text empty =
    fault_as h (lines text) [] 1 (no_lines text empty) (record { bad = missing_line h [] 1 (omega arith) (nothing_begins h); none = λ steps is. (let e = is.is in cc) })

pub at_fault : (X : Type 0) (e : CaseError) (n : ℕ) (P : CaseFault → Type 0) → e ≡ errors.Fault (record { line = n; cause = cause.Journal }) → P (record { line = n; cause = cause.Journal }) → OnFault {X = X} (Err e) P
at_fault X e n P is p = subst (λ (x : CaseError). OnFault {X = X} (Err x) P) (sym is) p

pub is_zero : (n : ℕ) (b : Bool) → b ≡ eqb n 0 → b ≡ true → n ≡ 0
is_zero n b e is = eqb-true n 0 (sym e ∙ is)

pub not_zero : (n : ℕ) (b : Bool) → b ≡ eqb n 0 → b ≡ false → 0 < n
not_zero zero b e off = (let k : true ≡ false = sym e ∙ off in absurd cc)
not_zero (suc n) b e off = omega arith

pub true_false : (b : Bool) → b ≡ false → ¬ (b ≡ true)
true_false b off on = absurd cc

pub apart : (a b : List ℕ) (r : Bool) → r ≡ not (pointwise nat_eq a b) → r ≡ true → ¬ (a ≡ b)
apart a b r e on same =
    let equal : pointwise nat_eq a b ≡ true = (bytes_decides a b).1 same in
    (let k : true ≡ not true = sym on ∙ e ∙ ap not equal in absurd cc)

pub if_ok_then : {X E : Type 0} (r : Result X E) (P Q : X → Type 0) → ((x : X) → P x → Q x) → IfOk r P → IfOk r Q
if_ok_then (Ok x) P Q f h = f x h
if_ok_then (Err e) P Q f h = tt

pub equal : (a b : List ℕ) (r : Bool) → r ≡ not (pointwise nat_eq a b) → r ≡ false → a ≡ b
equal a b r e off =
    elim (pointwise nat_eq a b) as (λ t. pointwise nat_eq a b ≡ t → a ≡ b) [
      | true ↦ λ is. (bytes_decides a b).0 is
      | false ↦ λ is. (let k : true ≡ false = ap not (sym is) ∙ sym e ∙ off in absurd cc)
    ] refl
