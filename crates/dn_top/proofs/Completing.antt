-- What an input asks for is one answer, and a command that nothing fails gives it.
use Rattle.std.proofs.Common.{◌≡◌, ◌⊎◌, ℕ, ◌<◌, ◌≤◌, Bool, true, false, inl, inr, List, length, take, drop, Option, Some, None, refl, sym, ap, subst, ◌∙◌, arith}
use Rattle.std.specs.Prelude.{IfSome, slice_get}
use Rattle.std.proofs.Common.{get_or}
use Rattle.std.proofs.lemmas.List.{get_or-take}
use Rattle.std.proofs.lemmas.Option.{slice_get-get_or}
use Rattle.std.proofs.lemmas.Bool.{cases_lt}
use Rattle.dn_io.specs.Streams.{Rose}
use Rattle.dn_model.specs.Cases.{Recording}
use Rattle.dn_case.specs.declared.cause.CaseFault.{CaseFault}
use Rattle.dn_trace.specs.Differing.{DiffersAt}
use Rattle.dn_top.specs.declared.status.Status.{Status}
use Rattle.dn_top.specs.declared.status.Status.TheVariants as status
use Rattle.dn_top.specs.Promises.{HasCase, IsBadCase, HasItsTrace, HasOtherTrace, AnswersLockstep, AnswersCheck, is_cut_case, trace_of, input_limit}
use Rattle.dn_top.specs.Completeness.{HasOneReading, HasRun, RunOwes, whole_run, cut_run, no_case, too_big, CheckOwes, whole_trace, cut_trace, other_trace, no_case_to_check, too_big_to_check, IsCalm, IsAnswered}

absurd_bool : {A : Type 0} → false ≡ true → A
absurd_bool is = cc

pub too_long : {A : Type 0} {n : ℕ} → n ≤ input_limit → input_limit < n → A
too_long small big = absurd (omega (arith, small, big))

-- an input, with that it is read in one way
pub record Input : Type 0 where
  pub bytes : List ℕ
  pub one : HasOneReading bytes

pub no_bad_line : {A : Type 0} (input : Input) (c : Recording) (n : ℕ) (f : CaseFault) → HasCase input.bytes c n → IsBadCase input.bytes f → A
no_bad_line input c n f has bad = absurd (bad.none has.front.count c has.front.whole)

same_cut : (input : Input) (x y : Bool) → HasRun input.bytes x → HasRun input.bytes y → x ≡ y
same_cut input x y p q = sym p.is ∙ ap is_cut_case (input.one.case p.case q.case p.size q.size p.has q.has).0 ∙ q.is

-- ---- one answer to `run` and `lockstep`

pub run_owes_one : (input : Input) (s t : Status) → RunOwes input.bytes s → RunOwes input.bytes t → s ≡ t
run_owes_one input s t (whole_run p) (whole_run q) = refl
run_owes_one input s t (whole_run p) (cut_run q) = absurd_bool (same_cut input false true p q)
run_owes_one input s t (whole_run p) (no_case f q) = no_bad_line input p.case p.size f p.has q
run_owes_one input s t (whole_run p) (too_big q) = too_long p.has.within q
run_owes_one input s t (cut_run p) (whole_run q) = absurd_bool (same_cut input false true q p)
run_owes_one input s t (cut_run p) (cut_run q) = refl
run_owes_one input s t (cut_run p) (no_case f q) = no_bad_line input p.case p.size f p.has q
run_owes_one input s t (cut_run p) (too_big q) = too_long p.has.within q
run_owes_one input s t (no_case f p) (whole_run q) = no_bad_line input q.case q.size f q.has p
run_owes_one input s t (no_case f p) (cut_run q) = no_bad_line input q.case q.size f q.has p
run_owes_one input s t (no_case f p) (no_case g q) = ap (λ (h : CaseFault). status.BadCase h) (input.one.bad_case f g p q)
run_owes_one input s t (no_case f p) (too_big q) = too_long p.within q
run_owes_one input s t (too_big p) (whole_run q) = too_long q.has.within p
run_owes_one input s t (too_big p) (cut_run q) = too_long q.has.within p
run_owes_one input s t (too_big p) (no_case f q) = too_long q.within p
run_owes_one input s t (too_big p) (too_big q) = refl

-- ---- what `lockstep` answers is what it owes, or a failure

lockstep_gives : (input : List ℕ) (s : Status) (old now : Option (List ℕ)) → AnswersLockstep s input old now → (s ≡ status.ReadFault → ⊥) → (s ≡ status.WriteFault → ⊥) → RunOwes input s ⊎ (s ≡ status.NoMemory)
lockstep_gives input status.Ok old now a read write = inl (whole_run (record { case = a.case; size = a.size; has = a.has; is = a.is }))
lockstep_gives input status.Cut old now a read write = inl (cut_run (record { case = a.case; size = a.size; has = a.has; is = a.is }))
lockstep_gives input (status.BadCase f) old now a read write = inl (no_case f a.0)
lockstep_gives input status.TooBig old now a read write = inl (too_big a.0)
lockstep_gives input status.NoMemory old now a read write = inr refl
lockstep_gives input status.ReadFault old now a read write = absurd (read refl)
lockstep_gives input status.WriteFault old now a read write = absurd (write refl)
lockstep_gives input (status.Differs p) old now a read write = absurd a
lockstep_gives input status.Usage old now a read write = absurd a
lockstep_gives input (status.Illegal i) old now a read write = absurd a
lockstep_gives input status.Open old now a read write = absurd a

-- ---- one first difference

byte_of_front : (one other : List ℕ) (n i : ℕ) → take n one ≡ take n other → i < n → n ≤ length one → n ≤ length other → slice_get one i ≡ slice_get other i
byte_of_front one other n i same less long_one long_other =
    slice_get-get_or one i 0 (omega (arith, less, long_one))
    ∙ ap (λ (b : ℕ). Some b) (sym (get_or-take n one i 0 less) ∙ ap (λ (l : List ℕ). get_or l i 0) same ∙ get_or-take n other i 0 less)
    ∙ sym (slice_get-get_or other i 0 (omega (arith, less, long_other)))

no_earlier : (one other : List ℕ) (p q : ℕ) → DiffersAt one other p → DiffersAt one other q → p < q → ⊥
no_earlier one other p q a b less = a.apart (byte_of_front one other q p b.same less b.within.0 b.within.1)

one_place : (one other : List ℕ) (p q : ℕ) → DiffersAt one other p → DiffersAt one other q → p ≡ q
one_place one other p q a b =
    elim (cases_lt p q) [
      | inl less ↦ absurd (no_earlier one other p q a b less)
      | inr le ↦ elim (cases_lt q p) [
        | inl less ↦ absurd (no_earlier one other q p b a less)
        | inr ge ↦ omega arith
      ]
    ]

differs_behind : (input : List ℕ) (c d : Recording) (m n k : ℕ) → c ≡ d → m ≡ n → DiffersAt (drop n input) (trace_of d) k → DiffersAt (drop m input) (trace_of c) k
differs_behind input c d m n k same sizes p =
    subst (λ (e : Recording). DiffersAt (drop m input) (trace_of e) k) (sym same) (subst (λ (i : ℕ). DiffersAt (drop i input) (trace_of d) k) (sym sizes) p)

same_difference : (input : Input) (p q : ℕ) → HasOtherTrace input.bytes p → HasOtherTrace input.bytes q → p ≡ q
same_difference input p q a b =
    let one = input.one.case a.case b.case a.size b.size a.has b.has in
    let moved = differs_behind input.bytes a.case b.case a.size b.size b.other.behind_case one.0 one.1 b.other.differs in
    let places = one_place (drop a.size input.bytes) (trace_of a.case) a.other.behind_case b.other.behind_case a.other.differs moved in
    let sizes = one.1 in
    let at_a = a.other.at in
    let at_b = b.other.at in
    omega (arith, places, sizes, at_a, at_b)

not_its_own : {A : Type 0} (input : Input) (cut : Bool) (p : ℕ) → HasItsTrace input.bytes cut → HasOtherTrace input.bytes p → A
not_its_own input cut p a b =
    let one = input.one.case a.case b.case a.size b.size a.has b.has in
    let moved = differs_behind input.bytes a.case b.case a.size b.size b.other.behind_case one.0 one.1 b.other.differs in
    absurd (moved.apart (ap (λ (l : List ℕ). slice_get l b.other.behind_case) a.same))

same_trace_cut : (input : Input) (x y : Bool) → HasItsTrace input.bytes x → HasItsTrace input.bytes y → x ≡ y
same_trace_cut input x y p q = sym p.is ∙ ap is_cut_case (input.one.case p.case q.case p.size q.size p.has q.has).0 ∙ q.is

-- ---- one answer to `check`

check_owes_one : (input : Input) (s t : Status) → CheckOwes input.bytes s → CheckOwes input.bytes t → s ≡ t
check_owes_one input s t (whole_trace p) (whole_trace q) = refl
check_owes_one input s t (whole_trace p) (cut_trace q) = absurd_bool (same_trace_cut input false true p q)
check_owes_one input s t (whole_trace p) (other_trace n q) = not_its_own input false n p q
check_owes_one input s t (whole_trace p) (no_case_to_check f q) = no_bad_line input p.case p.size f p.has q
check_owes_one input s t (whole_trace p) (too_big_to_check q) = too_long p.has.within q
check_owes_one input s t (cut_trace p) (whole_trace q) = absurd_bool (same_trace_cut input false true q p)
check_owes_one input s t (cut_trace p) (cut_trace q) = refl
check_owes_one input s t (cut_trace p) (other_trace n q) = not_its_own input true n p q
check_owes_one input s t (cut_trace p) (no_case_to_check f q) = no_bad_line input p.case p.size f p.has q
check_owes_one input s t (cut_trace p) (too_big_to_check q) = too_long p.has.within q
check_owes_one input s t (other_trace n p) (whole_trace q) = not_its_own input false n q p
check_owes_one input s t (other_trace n p) (cut_trace q) = not_its_own input true n q p
check_owes_one input s t (other_trace n p) (other_trace k q) = ap (λ (i : ℕ). status.Differs i) (same_difference input n k p q)
check_owes_one input s t (other_trace n p) (no_case_to_check f q) = no_bad_line input p.case p.size f p.has q
check_owes_one input s t (other_trace n p) (too_big_to_check q) = too_long p.has.within q
check_owes_one input s t (no_case_to_check f p) (whole_trace q) = no_bad_line input q.case q.size f q.has p
check_owes_one input s t (no_case_to_check f p) (cut_trace q) = no_bad_line input q.case q.size f q.has p
check_owes_one input s t (no_case_to_check f p) (other_trace n q) = no_bad_line input q.case q.size f q.has p
check_owes_one input s t (no_case_to_check f p) (no_case_to_check g q) = ap (λ (h : CaseFault). status.BadCase h) (input.one.bad_case f g p q)
check_owes_one input s t (no_case_to_check f p) (too_big_to_check q) = too_long p.within q
check_owes_one input s t (too_big_to_check p) (whole_trace q) = too_long q.has.within p
check_owes_one input s t (too_big_to_check p) (cut_trace q) = too_long q.has.within p
check_owes_one input s t (too_big_to_check p) (other_trace n q) = too_long q.has.within p
check_owes_one input s t (too_big_to_check p) (no_case_to_check f q) = too_long q.within p
check_owes_one input s t (too_big_to_check p) (too_big_to_check q) = refl

check_gives : (input : List ℕ) (s : Status) → AnswersCheck s input → (s ≡ status.ReadFault → ⊥) → CheckOwes input s ⊎ (s ≡ status.NoMemory)
check_gives input status.Ok a read = inl (whole_trace a)
check_gives input status.Cut a read = inl (cut_trace a)
check_gives input (status.Differs p) a read = inl (other_trace p a)
check_gives input (status.BadCase f) a read = inl (no_case_to_check f a)
check_gives input status.TooBig a read = inl (too_big_to_check a)
check_gives input status.NoMemory a read = inr refl
check_gives input status.ReadFault a read = absurd (read refl)
check_gives input status.WriteFault a read = absurd a
check_gives input status.Usage a read = absurd a
check_gives input (status.Illegal i) a read = absurd a
check_gives input status.Open a read = absurd a

-- ---- where no fault came

pub calm : (old now : ℕ) → IsCalm old now → Rose old now → ⊥
calm old now below rose = omega (arith, below, rose)

pub answered : {Owed : Status → Type 0} (one : (s t : Status) → Owed s → Owed t → s ≡ t) (owed s : Status) → Owed owed → Owed s ⊎ (s ≡ status.NoMemory) → IsAnswered owed s
answered one owed s o given =
    elim given [
      | inl g ↦ inl (one s owed g o)
      | inr none ↦ inr none
    ]

pub lockstep_completes : (told : Option (List ℕ)) → IfSome told HasOneReading → (s : Status) (old now : Option (List ℕ)) (reads read writes wrote : ℕ) → IfSome told (λ input. AnswersLockstep s input old now) → (s ≡ status.ReadFault → Rose reads read) → (s ≡ status.WriteFault → Rose writes wrote) → IfSome told (λ input. (owed : Status) → RunOwes input owed → IsCalm reads read → IsCalm writes wrote → IsAnswered owed s)
lockstep_completes None reading s old now reads read writes wrote answers read_fault write_fault = tt
lockstep_completes (Some input) reading s old now reads read writes wrote answers read_fault write_fault = λ owed owes calm_source calm_sink.
    answered (run_owes_one (record { bytes = input; one = reading })) owed s owes (lockstep_gives input s old now answers (λ is. calm reads read calm_source (read_fault is)) (λ is. calm writes wrote calm_sink (write_fault is)))

pub check_completes : (told : Option (List ℕ)) → IfSome told HasOneReading → (s : Status) (reads read writes wrote : ℕ) → IfSome told (λ input. AnswersCheck s input) → (s ≡ status.ReadFault → Rose reads read) → IfSome told (λ input. (owed : Status) → CheckOwes input owed → IsCalm reads read → IsCalm writes wrote → IsAnswered owed s)
check_completes None reading s reads read writes wrote answers read_fault = tt
check_completes (Some input) reading s reads read writes wrote answers read_fault = λ owed owes calm_source calm_sink.
    answered (check_owes_one (record { bytes = input; one = reading })) owed s owes (check_gives input s answers (λ is. calm reads read calm_source (read_fault is)))
