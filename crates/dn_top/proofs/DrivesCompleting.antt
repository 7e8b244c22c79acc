-- What an input asks of `rerun` and `shake` is one answer, and where nothing fails that is given.
use Rattle.std.proofs.Common.{◌≡◌, ◌⊎◌, ℕ, ◌<◌, true, inl, inr, List, length, Option, Some, None, refl, sym, ap, ◌∙◌}
use Rattle.std.specs.Prelude.{IfSome}
use Rattle.dn_io.specs.Streams.{Rose}
use Rattle.dn_model.specs.Cases.{Recording}
use Rattle.dn_case.specs.declared.cause.CaseFault.{CaseFault}
use Rattle.dn_world.specs.declared.step.Step.{Step}
use Rattle.dn_drive.specs.declared.ended.Ended.{Ended}
use Rattle.dn_drive.specs.declared.ended.Ended.TheVariants as ended
use Rattle.dn_top.specs.declared.status.Status.{Status}
use Rattle.dn_top.specs.declared.status.Status.TheVariants as status
use Rattle.dn_top.specs.declared.words.Schedule.{Schedule}
use Rattle.dn_top.specs.Promises.{HasRerun, HasShaken, IsBadCase, IsBadJournal, AnswersRerun, AnswersShake, outcome_of, steps_of, input_limit}
use Rattle.dn_top.specs.Drives.{HasOneJournal, is_of_steps}
use Rattle.dn_top.specs.Completeness.{HasOneReading, RerunOwes, whole_rerun, cut_rerun, illegal_rerun, open_rerun, no_case_to_rerun, no_journal, too_big_to_rerun, ShakeOwes, whole_shake, cut_shake, open_shake, no_case_to_shake, too_big_to_shake, IsCalm, IsAnswered}
use Rattle.dn_top.proofs.Readings.{bad_at}
use Rattle.dn_top.proofs.Completing.{Input, no_bad_line, too_long, calm}

-- the status that says this
abbrev pub status_of : Ended → Status
status_of ended.Whole = status.Ok
status_of ended.Cut = status.Cut
status_of (ended.Illegal n) = status.Illegal n
status_of ended.Open = status.Open

status_of_steps : (e : Ended) → is_of_steps (status_of e) ≡ true
status_of_steps ended.Whole = refl
status_of_steps ended.Cut = refl
status_of_steps (ended.Illegal n) = refl
status_of_steps ended.Open = refl

-- ---- what `rerun` owes, by kinds

data Owed (input : List ℕ) (s : Status) : Type 0 where
  of_steps : (e : Ended) → HasRerun input e → s ≡ status_of e → Owed input s
  of_case : (f : CaseFault) → IsBadCase input f → s ≡ status.BadCase f → Owed input s
  of_journal : (f : CaseFault) → IsBadJournal input f → s ≡ status.BadCase f → Owed input s
  of_size : input_limit < length input → s ≡ status.TooBig → Owed input s

owed : (input : List ℕ) (s : Status) → RerunOwes input s → Owed input s
owed input s (whole_rerun p) = of_steps ended.Whole p refl
owed input s (cut_rerun p) = of_steps ended.Cut p refl
owed input s (illegal_rerun n p) = of_steps (ended.Illegal n) p refl
owed input s (open_rerun p) = of_steps ended.Open p refl
owed input s (no_case_to_rerun f p) = of_case f p refl
owed input s (no_journal f p) = of_journal f p refl
owed input s (too_big_to_rerun l) = of_size l refl

-- ---- one of them

outcome_at : Recording → List Step → Ended
outcome_at c steps = outcome_of c steps

same_outcome : (input : Input) (e f : Ended) → HasOneJournal input.bytes → HasRerun input.bytes e → HasRerun input.bytes f → e ≡ f
same_outcome input e f one p q =
    let same = (input.one.case p.case q.case p.size q.size p.has.has q.has.has).0 in
    let steps = one p.case q.case p.size q.size p.steps q.steps p.has q.has in
    sym p.is ∙ ap (λ (c : Recording). outcome_of c p.steps) same ∙ ap (outcome_of q.case) steps ∙ q.is

no_such_journal : {A : Type 0} (input : Input) (e : Ended) (f : CaseFault) → HasRerun input.bytes e → IsBadJournal input.bytes f → A
no_such_journal input e f p q =
    let one = input.one.case p.case q.case p.size q.size p.has.has q.has in
    let bad = bad_at input.bytes p.case q.case p.size q.size f one.0 one.1 q.bad in
    absurd (bad.none p.steps p.has.journal)

one_owed : (input : Input) (s t : Status) → (is_of_steps s ≡ true → HasOneJournal input.bytes) → Owed input.bytes s → Owed input.bytes t → s ≡ t
one_owed input s t one (of_steps e p is) (of_steps f q at) =
    let steps = one (ap is_of_steps is ∙ status_of_steps e) in
    is ∙ ap status_of (same_outcome input e f steps p q) ∙ sym at
one_owed input s t one (of_steps e p is) (of_case f q at) = no_bad_line input p.case p.size f p.has.has q
one_owed input s t one (of_steps e p is) (of_journal f q at) = no_such_journal input e f p q
one_owed input s t one (of_steps e p is) (of_size q at) = too_long p.has.has.within q
one_owed input s t one (of_case f p is) (of_steps e q at) = no_bad_line input q.case q.size f q.has.has p
one_owed input s t one (of_case f p is) (of_case g q at) = is ∙ ap (λ (h : CaseFault). status.BadCase h) (input.one.bad_case f g p q) ∙ sym at
one_owed input s t one (of_case f p is) (of_journal g q at) = no_bad_line input q.case q.size f q.has p
one_owed input s t one (of_case f p is) (of_size q at) = too_long p.within q
one_owed input s t one (of_journal f p is) (of_steps e q at) = no_such_journal input e f q p
one_owed input s t one (of_journal f p is) (of_case g q at) = no_bad_line input p.case p.size g p.has q
one_owed input s t one (of_journal f p is) (of_journal g q at) = is ∙ ap (λ (h : CaseFault). status.BadCase h) (input.one.bad_journal f g p q) ∙ sym at
one_owed input s t one (of_journal f p is) (of_size q at) = too_long p.has.within q
one_owed input s t one (of_size p is) (of_steps e q at) = too_long q.has.has.within p
one_owed input s t one (of_size p is) (of_case g q at) = too_long q.within p
one_owed input s t one (of_size p is) (of_journal g q at) = too_long q.has.within p
one_owed input s t one (of_size p is) (of_size q at) = is ∙ sym at

-- ---- what is answered is what is owed, or a failure

rerun_gives : (input : List ℕ) (s : Status) (old now : Option (List ℕ)) → AnswersRerun s input old now → (s ≡ status.ReadFault → ⊥) → (s ≡ status.WriteFault → ⊥) → RerunOwes input s ⊎ (s ≡ status.NoMemory)
rerun_gives input status.Ok old now a read write = inl (whole_rerun a.comes)
rerun_gives input status.Cut old now a read write = inl (cut_rerun a.comes)
rerun_gives input (status.Illegal i) old now a read write = inl (illegal_rerun i a.0)
rerun_gives input status.Open old now a read write = inl (open_rerun a.0)
rerun_gives input (status.BadCase f) old now a read write =
    elim a.0 [
      | inl case ↦ inl (no_case_to_rerun f case)
      | inr journal ↦ inl (no_journal f journal)
    ]
rerun_gives input status.TooBig old now a read write = inl (too_big_to_rerun a.0)
rerun_gives input status.ReadFault old now a read write = absurd (read refl)
rerun_gives input status.WriteFault old now a read write = absurd (write refl)
rerun_gives input status.NoMemory old now a read write = inr refl
rerun_gives input (status.Differs p) old now a read write = absurd a
rerun_gives input status.Usage old now a read write = absurd a

pub rerun_completes : (told : Option (List ℕ)) → IfSome told HasOneReading → (s : Status) (old now : Option (List ℕ)) (reads read writes wrote : ℕ) → IfSome told (λ input. AnswersRerun s input old now) → (is_of_steps s ≡ true → IfSome told (λ input. HasOneJournal input)) → (s ≡ status.ReadFault → Rose reads read) → (s ≡ status.WriteFault → Rose writes wrote) → IfSome told (λ input. (owed : Status) → RerunOwes input owed → IsCalm reads read → IsCalm writes wrote → IsAnswered owed s)
rerun_completes None reading s old now reads read writes wrote answers one read_fault write_fault = tt
rerun_completes (Some input) reading s old now reads read writes wrote answers one read_fault write_fault = λ due owes calm_source calm_sink.
    elim (rerun_gives input s old now answers (λ is. calm reads read calm_source (read_fault is)) (λ is. calm writes wrote calm_sink (write_fault is))) [
      | inl given ↦ inl (one_owed (record { bytes = input; one = reading }) s due one (owed input s given) (owed input due owes))
      | inr none ↦ inr none
    ]

-- ---- `shake`

data OwedShake (w : Schedule) (input : List ℕ) (s : Status) : Type 0 where
  by_steps : (e : Ended) → HasShaken w input e → s ≡ status_of e → OwedShake w input s
  by_case : (f : CaseFault) → IsBadCase input f → s ≡ status.BadCase f → OwedShake w input s
  by_size : input_limit < length input → s ≡ status.TooBig → OwedShake w input s

owed_shake : (w : Schedule) (input : List ℕ) (s : Status) → ShakeOwes w input s → OwedShake w input s
owed_shake w input s (whole_shake p) = by_steps ended.Whole p refl
owed_shake w input s (cut_shake p) = by_steps ended.Cut p refl
owed_shake w input s (open_shake p) = by_steps ended.Open p refl
owed_shake w input s (no_case_to_shake f p) = by_case f p refl
owed_shake w input s (too_big_to_shake l) = by_size l refl

same_shaken : (w : Schedule) (input : Input) (e f : Ended) → HasShaken w input.bytes e → HasShaken w input.bytes f → e ≡ f
same_shaken w input e f p q =
    let same = (input.one.case p.case q.case p.size q.size p.has q.has).0 in
    sym p.is ∙ ap (λ (c : Recording). outcome_of c (steps_of c w)) same ∙ q.is

one_shake : (w : Schedule) (input : Input) (s t : Status) → OwedShake w input.bytes s → OwedShake w input.bytes t → s ≡ t
one_shake w input s t (by_steps e p is) (by_steps f q at) = is ∙ ap status_of (same_shaken w input e f p q) ∙ sym at
one_shake w input s t (by_steps e p is) (by_case f q at) = no_bad_line input p.case p.size f p.has q
one_shake w input s t (by_steps e p is) (by_size q at) = too_long p.has.within q
one_shake w input s t (by_case f p is) (by_steps e q at) = no_bad_line input q.case q.size f q.has p
one_shake w input s t (by_case f p is) (by_case g q at) = is ∙ ap (λ (h : CaseFault). status.BadCase h) (input.one.bad_case f g p q) ∙ sym at
one_shake w input s t (by_case f p is) (by_size q at) = too_long p.within q
one_shake w input s t (by_size p is) (by_steps e q at) = too_long q.has.within p
one_shake w input s t (by_size p is) (by_case g q at) = too_long q.within p
one_shake w input s t (by_size p is) (by_size q at) = is ∙ sym at

shake_gives : (w : Schedule) (input : List ℕ) (s : Status) (old now : Option (List ℕ)) → AnswersShake w s input old now → (s ≡ status.ReadFault → ⊥) → (s ≡ status.WriteFault → ⊥) → ShakeOwes w input s ⊎ (s ≡ status.NoMemory)
shake_gives w input status.Ok old now a read write = inl (whole_shake a.shaking)
shake_gives w input status.Cut old now a read write = inl (cut_shake a.shaking)
shake_gives w input (status.Illegal i) old now a read write = absurd a
shake_gives w input status.Open old now a read write = inl (open_shake a.0)
shake_gives w input (status.BadCase f) old now a read write = inl (no_case_to_shake f a.0)
shake_gives w input status.TooBig old now a read write = inl (too_big_to_shake a.0)
shake_gives w input status.ReadFault old now a read write = absurd (read refl)
shake_gives w input status.WriteFault old now a read write = absurd (write refl)
shake_gives w input status.NoMemory old now a read write = inr refl
shake_gives w input (status.Differs p) old now a read write = absurd a
shake_gives w input status.Usage old now a read write = absurd a

pub shake_completes : (w : Schedule) (told : Option (List ℕ)) → IfSome told HasOneReading → (s : Status) (old now : Option (List ℕ)) (reads read writes wrote : ℕ) → IfSome told (λ input. AnswersShake w s input old now) → (s ≡ status.ReadFault → Rose reads read) → (s ≡ status.WriteFault → Rose writes wrote) → IfSome told (λ input. (owed : Status) → ShakeOwes w input owed → IsCalm reads read → IsCalm writes wrote → IsAnswered owed s)
shake_completes w None reading s old now reads read writes wrote answers read_fault write_fault = tt
shake_completes w (Some input) reading s old now reads read writes wrote answers read_fault write_fault = λ due owes calm_source calm_sink.
    elim (shake_gives w input s old now answers (λ is. calm reads read calm_source (read_fault is)) (λ is. calm writes wrote calm_sink (write_fault is))) [
      | inl given ↦ inl (one_shake w (record { bytes = input; one = reading }) s due (owed_shake w input s given) (owed_shake w input due owes))
      | inr none ↦ inr none
    ]
