-- What `rerun` and `shake` answer, from their parts.
use Rattle.std.proofs.Common.{◌≡◌, ℕ, ◌<◌, inl, inr, true, false, List, length, Option, Some, None, refl, sym, subst}
use Rattle.std.specs.Prelude.{IfSome}
use Rattle.dn_model.specs.Cases.{Recording}
use Rattle.dn_world.specs.declared.step.Step.{Step}
use Rattle.dn_drive.specs.declared.ended.Ended.{Ended}
use Rattle.dn_drive.specs.declared.ended.Ended.TheVariants as ended
use Rattle.dn_top.specs.declared.status.Status.{Status}
use Rattle.dn_top.specs.declared.status.Status.TheVariants as status
use Rattle.dn_top.specs.declared.words.Schedule.{Schedule}
use Rattle.dn_top.specs.Promises.{EndsCut, EndsWhole, HasCase, HasJournal, IsCaseRefusal, IsCutOnTheWay, AnswersRerun, AnswersShake, outcome_of, steps_of, written, shaken, journal_lines, input_limit, is_of_reading, is_of_case}
use Rattle.dn_top.specs.Drives.{Drives, AreOneJournal, HasOneJournal, is_of_steps, is_illegal}
use Rattle.dn_top.specs.Completeness.{HasOneReading}

-- ---- refusals of reading

pub read_refused_rerun : (told : Option (List ℕ)) (s : Status) (old now : Option (List ℕ)) → is_of_reading s ≡ true → (s ≡ status.TooBig → IfSome told (λ l. input_limit < length l)) → now ≡ old → IfSome told (λ input. AnswersRerun s input old now)
read_refused_rerun None s old now of_reading big same = tt
read_refused_rerun (Some l) status.Ok old now of_reading big same = cc
read_refused_rerun (Some l) status.Cut old now of_reading big same = cc
read_refused_rerun (Some l) (status.Illegal i) old now of_reading big same = cc
read_refused_rerun (Some l) status.Open old now of_reading big same = cc
read_refused_rerun (Some l) (status.BadCase f) old now of_reading big same = cc
read_refused_rerun (Some l) status.TooBig old now of_reading big same = (big refl, same)
read_refused_rerun (Some l) status.ReadFault old now of_reading big same = same
read_refused_rerun (Some l) status.WriteFault old now of_reading big same = cc
read_refused_rerun (Some l) status.NoMemory old now of_reading big same = inl same
read_refused_rerun (Some l) (status.Differs p) old now of_reading big same = cc
read_refused_rerun (Some l) status.Usage old now of_reading big same = cc

pub read_refused_shake : (w : Schedule) (told : Option (List ℕ)) (s : Status) (old now : Option (List ℕ)) → is_of_reading s ≡ true → (s ≡ status.TooBig → IfSome told (λ l. input_limit < length l)) → now ≡ old → IfSome told (λ input. AnswersShake w s input old now)
read_refused_shake w None s old now of_reading big same = tt
read_refused_shake w (Some l) status.Ok old now of_reading big same = cc
read_refused_shake w (Some l) status.Cut old now of_reading big same = cc
read_refused_shake w (Some l) (status.Illegal i) old now of_reading big same = cc
read_refused_shake w (Some l) status.Open old now of_reading big same = cc
read_refused_shake w (Some l) (status.BadCase f) old now of_reading big same = cc
read_refused_shake w (Some l) status.TooBig old now of_reading big same = (big refl, same)
read_refused_shake w (Some l) status.ReadFault old now of_reading big same = same
read_refused_shake w (Some l) status.WriteFault old now of_reading big same = cc
read_refused_shake w (Some l) status.NoMemory old now of_reading big same = inl same
read_refused_shake w (Some l) (status.Differs p) old now of_reading big same = cc
read_refused_shake w (Some l) status.Usage old now of_reading big same = cc

-- ---- refusals of the case

pub case_refused_rerun : (input : List ℕ) (s : Status) (told : Option (List ℕ)) → IsCaseRefusal input s → AnswersRerun s input told told
case_refused_rerun input status.Ok told refused = absurd refused
case_refused_rerun input status.Cut told refused = absurd refused
case_refused_rerun input (status.Illegal i) told refused = absurd refused
case_refused_rerun input status.Open told refused = absurd refused
case_refused_rerun input (status.BadCase f) told refused = (inl refused, refl)
case_refused_rerun input status.TooBig told refused = absurd refused
case_refused_rerun input status.ReadFault told refused = absurd refused
case_refused_rerun input status.WriteFault told refused = absurd refused
case_refused_rerun input status.NoMemory told refused = inl refl
case_refused_rerun input (status.Differs p) told refused = absurd refused
case_refused_rerun input status.Usage told refused = absurd refused

pub case_refused_shake : (w : Schedule) (input : List ℕ) (s : Status) (told : Option (List ℕ)) → IsCaseRefusal input s → AnswersShake w s input told told
case_refused_shake w input status.Ok told refused = absurd refused
case_refused_shake w input status.Cut told refused = absurd refused
case_refused_shake w input (status.Illegal i) told refused = absurd refused
case_refused_shake w input status.Open told refused = absurd refused
case_refused_shake w input (status.BadCase f) told refused = (refused, refl)
case_refused_shake w input status.TooBig told refused = absurd refused
case_refused_shake w input status.ReadFault told refused = absurd refused
case_refused_shake w input status.WriteFault told refused = absurd refused
case_refused_shake w input status.NoMemory told refused = inl refl
case_refused_shake w input (status.Differs p) told refused = absurd refused
case_refused_shake w input status.Usage told refused = absurd refused

-- ---- what steps come to

pub case_rerun : (input : List ℕ) (c : Recording) (size : ℕ) (steps : List Step) (s : Status) (old now : Option (List ℕ)) → (outcome_of c steps ≡ ended.Whole → EndsWhole c steps) × (outcome_of c steps ≡ ended.Cut → IsCutOnTheWay c steps) → HasJournal input c size steps → Drives c (outcome_of c steps) (written c) s old now → AnswersRerun s input old now
case_rerun input c size steps status.Ok old now ends has drives = record { comes = record { case = c; size = size; steps = steps; has = has; is = drives.0 }; ends = ends.0 drives.0; is = drives.1; text = drives.2 }
case_rerun input c size steps status.Cut old now ends has drives = record { comes = record { case = c; size = size; steps = steps; has = has; is = drives.0 }; ends = ends.1 drives.0; is = drives.1; text = drives.2 }
case_rerun input c size steps (status.Illegal i) old now ends has drives = (record { case = c; size = size; steps = steps; has = has; is = drives.0 }, drives.1)
case_rerun input c size steps status.Open old now ends has drives = (record { case = c; size = size; steps = steps; has = has; is = drives.0 }, drives.1)
case_rerun input c size steps (status.BadCase f) old now ends has drives = absurd drives
case_rerun input c size steps status.TooBig old now ends has drives = absurd drives
case_rerun input c size steps status.ReadFault old now ends has drives = absurd drives
case_rerun input c size steps status.WriteFault old now ends has drives = record { case = c; size = size; steps = steps; has = has; is = drives.0; front = drives.1 }
case_rerun input c size steps status.NoMemory old now ends has drives =
    elim drives [
      | inl same ↦ inl same
      | inr begun ↦ inr (record { case = c; size = size; steps = steps; has = has; is = begun.0; front = begun.1 })
    ]
case_rerun input c size steps (status.Differs p) old now ends has drives = absurd drives
case_rerun input c size steps status.Usage old now ends has drives = absurd drives

pub case_shake : (w : Schedule) (input : List ℕ) (c : Recording) (size : ℕ) (s : Status) (old now : Option (List ℕ)) → (outcome_of c (steps_of c w) ≡ ended.Whole → EndsWhole c (steps_of c w)) × (outcome_of c (steps_of c w) ≡ ended.Cut → EndsCut c (steps_of c w)) → HasCase input c size → Drives c (outcome_of c (steps_of c w)) (shaken c (steps_of c w)) s old now → is_illegal s ≡ false → AnswersShake w s input old now
case_shake w input c size status.Ok old now ends has drives legal = record { shaking = record { case = c; size = size; has = has; is = drives.0 }; ends = ends.0 drives.0; is = drives.1; text = drives.2 }
case_shake w input c size status.Cut old now ends has drives legal = record { shaking = record { case = c; size = size; has = has; is = drives.0 }; ends = ends.1 drives.0; is = drives.1; text = drives.2 }
case_shake w input c size (status.Illegal i) old now ends has drives legal = cc
case_shake w input c size status.Open old now ends has drives legal = (record { case = c; size = size; has = has; is = drives.0 }, drives.1)
case_shake w input c size (status.BadCase f) old now ends has drives legal = absurd drives
case_shake w input c size status.TooBig old now ends has drives legal = absurd drives
case_shake w input c size status.ReadFault old now ends has drives legal = absurd drives
case_shake w input c size status.WriteFault old now ends has drives legal = record { case = c; size = size; has = has; is = drives.0; front = drives.1 }
case_shake w input c size status.NoMemory old now ends has drives legal =
    elim drives [
      | inl same ↦ inl same
      | inr begun ↦ inr (record { case = c; size = size; has = has; is = begun.0; front = begun.1 })
    ]
case_shake w input c size (status.Differs p) old now ends has drives legal = absurd drives
case_shake w input c size status.Usage old now ends has drives legal = absurd drives

pub drives_of_case : (c : Recording) (e : Ended) (text : List ℕ) (s : Status) (old now : Option (List ℕ)) → Drives c e text s old now → is_of_case s ≡ true
drives_of_case c e text status.Ok old now drives = refl
drives_of_case c e text status.Cut old now drives = refl
drives_of_case c e text (status.Illegal i) old now drives = refl
drives_of_case c e text status.Open old now drives = refl
drives_of_case c e text (status.BadCase f) old now drives = refl
drives_of_case c e text status.TooBig old now drives = absurd drives
drives_of_case c e text status.ReadFault old now drives = absurd drives
drives_of_case c e text status.WriteFault old now drives = refl
drives_of_case c e text status.NoMemory old now drives = refl
drives_of_case c e text (status.Differs p) old now drives = refl
drives_of_case c e text status.Usage old now drives = absurd drives

-- ---- one journal

lines_of_one : (input : List ℕ) (c d : Recording) (m n : ℕ) (steps : List Step) → c ≡ d → m ≡ n → HasJournal input d n steps → HasJournal input c m steps
lines_of_one input c d m n steps same sizes p =
    subst (λ (x : Recording). HasJournal input x m steps) (sym same) (subst (λ (k : ℕ). HasJournal input d k steps) (sym sizes) p)

pub one_of_input : (input : List ℕ) → HasOneReading input → (x : Recording) (k : ℕ) → HasCase input x k → AreOneJournal x.header → HasOneJournal input
one_of_input input reading x k has one = λ c d m n a b p q.
    let left = reading.case x c k m has p.has in
    let right = reading.case x d k n has q.has in
    one (journal_lines input k) a b
    (lines_of_one input x c k m a left.0 left.1 p).journal
    (lines_of_one input x d k n b right.0 right.1 q).journal

pub refusal_of_no_steps : {A : Type 0} (input : List ℕ) (s : Status) → IsCaseRefusal input s → is_of_steps s ≡ true → A
refusal_of_no_steps input status.Ok refused steps = absurd refused
refusal_of_no_steps input status.Cut refused steps = absurd refused
refusal_of_no_steps input (status.Illegal i) refused steps = absurd refused
refusal_of_no_steps input status.Open refused steps = absurd refused
refusal_of_no_steps input (status.BadCase f) refused steps = cc
refusal_of_no_steps input status.TooBig refused steps = absurd refused
refusal_of_no_steps input status.ReadFault refused steps = absurd refused
refusal_of_no_steps input status.WriteFault refused steps = absurd refused
refusal_of_no_steps input status.NoMemory refused steps = cc
refusal_of_no_steps input (status.Differs p) refused steps = absurd refused
refusal_of_no_steps input status.Usage refused steps = absurd refused

pub reading_of_no_steps : {A : Type 0} (s : Status) → is_of_reading s ≡ true → is_of_steps s ≡ true → A
reading_of_no_steps status.Ok of_reading steps = cc
reading_of_no_steps status.Cut of_reading steps = cc
reading_of_no_steps (status.Illegal i) of_reading steps = cc
reading_of_no_steps status.Open of_reading steps = cc
reading_of_no_steps (status.BadCase f) of_reading steps = cc
reading_of_no_steps status.TooBig of_reading steps = cc
reading_of_no_steps status.ReadFault of_reading steps = cc
reading_of_no_steps status.WriteFault of_reading steps = cc
reading_of_no_steps status.NoMemory of_reading steps = cc
reading_of_no_steps (status.Differs p) of_reading steps = cc
reading_of_no_steps status.Usage of_reading steps = cc
