-- What a command answers, from its parts.
use Rattle.std.proofs.Common.{◌≡◌, ℕ, ◌<◌, inl, inr, true, false, List, length, drop, Option, Some, None, refl, sym, subst}
use Rattle.std.specs.Prelude.{IfSome}
use Rattle.dn_model.specs.Cases.{Recording}
use Rattle.dn_top.specs.declared.status.Status.{Status}
use Rattle.dn_top.specs.declared.status.Status.TheVariants as status
use Rattle.dn_top.specs.Promises.{HasCase, IsOtherTrace, IsCaseRefusal, AnswersLockstep, AnswersCheck, written, trace_of, is_cut_case, input_limit, is_of_reading, is_of_comparing, is_of_case, is_of_command, is_of_whole_input}
use Rattle.dn_top.specs.Drives.{Writes}

absurd_bool : {A : Type 0} → false ≡ true → A
absurd_bool is = cc

-- what holds of a list holds of what is told, where that is the list
pub if_told : (told : Option (List ℕ)) (xs : List ℕ) (P : List ℕ → Type 0) → IfSome told (λ l. l ≡ xs) → P xs → IfSome told P
if_told None xs P is p = tt
if_told (Some l) xs P is p = subst P (sym is) p

-- ---- refusals of reading

pub read_refused_lockstep : (told : Option (List ℕ)) (s : Status) (old now : Option (List ℕ)) → is_of_reading s ≡ true → (s ≡ status.TooBig → IfSome told (λ l. input_limit < length l)) → now ≡ old → IfSome told (λ input. AnswersLockstep s input old now)
read_refused_lockstep None s old now of_reading big same = tt
read_refused_lockstep (Some l) status.ReadFault old now of_reading big same = same
read_refused_lockstep (Some l) status.TooBig old now of_reading big same = (big refl, same)
read_refused_lockstep (Some l) status.NoMemory old now of_reading big same = inl same
read_refused_lockstep (Some l) status.Ok old now of_reading big same = cc
read_refused_lockstep (Some l) (status.Differs p) old now of_reading big same = cc
read_refused_lockstep (Some l) status.Usage old now of_reading big same = cc
read_refused_lockstep (Some l) (status.Illegal i) old now of_reading big same = cc
read_refused_lockstep (Some l) status.Open old now of_reading big same = cc
read_refused_lockstep (Some l) (status.BadCase f) old now of_reading big same = cc
read_refused_lockstep (Some l) status.Cut old now of_reading big same = cc
read_refused_lockstep (Some l) status.WriteFault old now of_reading big same = cc

pub read_refused_check : (told : Option (List ℕ)) (s : Status) → is_of_reading s ≡ true → (s ≡ status.TooBig → IfSome told (λ l. input_limit < length l)) → IfSome told (λ input. AnswersCheck s input)
read_refused_check None s of_reading big = tt
read_refused_check (Some l) status.ReadFault of_reading big = tt
read_refused_check (Some l) status.TooBig of_reading big = big refl
read_refused_check (Some l) status.NoMemory of_reading big = tt
read_refused_check (Some l) status.Ok of_reading big = cc
read_refused_check (Some l) (status.Differs p) of_reading big = cc
read_refused_check (Some l) status.Usage of_reading big = cc
read_refused_check (Some l) (status.Illegal i) of_reading big = cc
read_refused_check (Some l) status.Open of_reading big = cc
read_refused_check (Some l) (status.BadCase f) of_reading big = cc
read_refused_check (Some l) status.Cut of_reading big = cc
read_refused_check (Some l) status.WriteFault of_reading big = cc

-- a refusal of reading says nothing of a whole input
pub not_of_whole : {A : Type 0} (s : Status) → is_of_reading s ≡ true → is_of_whole_input s ≡ true → A
not_of_whole status.ReadFault of_reading whole = cc
not_of_whole status.TooBig of_reading whole = cc
not_of_whole status.NoMemory of_reading whole = cc
not_of_whole status.Ok of_reading whole = cc
not_of_whole (status.Differs p) of_reading whole = cc
not_of_whole status.Usage of_reading whole = cc
not_of_whole (status.Illegal i) of_reading whole = cc
not_of_whole status.Open of_reading whole = cc
not_of_whole (status.BadCase f) of_reading whole = cc
not_of_whole status.Cut of_reading whole = cc
not_of_whole status.WriteFault of_reading whole = cc

-- ---- refusals of the case

pub case_refused_lockstep : (input : List ℕ) (s : Status) (told : Option (List ℕ)) → IsCaseRefusal input s → AnswersLockstep s input told told
case_refused_lockstep input (status.BadCase f) told refused = (refused, refl)
case_refused_lockstep input status.NoMemory told refused = inl refl
case_refused_lockstep input status.ReadFault told refused = absurd refused
case_refused_lockstep input status.TooBig told refused = absurd refused
case_refused_lockstep input status.Ok told refused = absurd refused
case_refused_lockstep input (status.Differs p) told refused = absurd refused
case_refused_lockstep input status.Usage told refused = absurd refused
case_refused_lockstep input (status.Illegal i) told refused = absurd refused
case_refused_lockstep input status.Open told refused = absurd refused
case_refused_lockstep input status.Cut told refused = absurd refused
case_refused_lockstep input status.WriteFault told refused = absurd refused

pub case_refused_check : (input : List ℕ) (s : Status) → IsCaseRefusal input s → AnswersCheck s input
case_refused_check input (status.BadCase f) refused = refused
case_refused_check input status.NoMemory refused = tt
case_refused_check input status.ReadFault refused = absurd refused
case_refused_check input status.TooBig refused = absurd refused
case_refused_check input status.Ok refused = absurd refused
case_refused_check input (status.Differs p) refused = absurd refused
case_refused_check input status.Usage refused = absurd refused
case_refused_check input (status.Illegal i) refused = absurd refused
case_refused_check input status.Open refused = absurd refused
case_refused_check input status.Cut refused = absurd refused
case_refused_check input status.WriteFault refused = absurd refused

pub refusal_of_case : (input : List ℕ) (s : Status) → IsCaseRefusal input s → is_of_case s ≡ true
refusal_of_case input (status.BadCase f) refused = refl
refusal_of_case input status.NoMemory refused = refl
refusal_of_case input status.ReadFault refused = absurd refused
refusal_of_case input status.TooBig refused = absurd refused
refusal_of_case input status.Ok refused = refl
refusal_of_case input (status.Differs p) refused = refl
refusal_of_case input status.Usage refused = absurd refused
refusal_of_case input (status.Illegal i) refused = absurd refused
refusal_of_case input status.Open refused = absurd refused
refusal_of_case input status.Cut refused = refl
refusal_of_case input status.WriteFault refused = refl

-- ---- answers to a case

pub case_lockstep : (input : List ℕ) (c : Recording) (size : ℕ) (s : Status) (old now : Option (List ℕ)) → HasCase input c size → Writes c (written c) s old now → AnswersLockstep s input old now
case_lockstep input c size status.Ok old now has writes = record { case = c; size = size; has = has; is = writes.0; text = writes.1 }
case_lockstep input c size status.Cut old now has writes = record { case = c; size = size; has = has; is = writes.0; text = writes.1 }
case_lockstep input c size status.WriteFault old now has writes = record { case = c; size = size; has = has; front = writes }
case_lockstep input c size status.NoMemory old now has writes = inr (record { case = c; size = size; has = has; front = writes })
case_lockstep input c size status.ReadFault old now has writes = absurd writes
case_lockstep input c size status.TooBig old now has writes = absurd writes
case_lockstep input c size (status.Differs p) old now has writes = absurd writes
case_lockstep input c size status.Usage old now has writes = absurd writes
case_lockstep input c size (status.Illegal i) old now has writes = absurd writes
case_lockstep input c size status.Open old now has writes = absurd writes
case_lockstep input c size (status.BadCase f) old now has writes = absurd writes

pub writes_of_case : (c : Recording) (text : List ℕ) (s : Status) (old now : Option (List ℕ)) → Writes c text s old now → is_of_case s ≡ true
writes_of_case c text status.Ok old now writes = refl
writes_of_case c text status.Cut old now writes = refl
writes_of_case c text status.WriteFault old now writes = refl
writes_of_case c text status.NoMemory old now writes = refl
writes_of_case c text status.ReadFault old now writes = absurd writes
writes_of_case c text status.TooBig old now writes = absurd writes
writes_of_case c text (status.Differs p) old now writes = absurd writes
writes_of_case c text status.Usage old now writes = absurd writes
writes_of_case c text (status.Illegal i) old now writes = absurd writes
writes_of_case c text status.Open old now writes = absurd writes
writes_of_case c text (status.BadCase f) old now writes = absurd writes

pub case_check : (input : List ℕ) (c : Recording) (size : ℕ) (s : Status) → HasCase input c size → (s ≡ status.Ok → drop size input ≡ trace_of c) → (s ≡ status.Ok → is_cut_case c ≡ false) → (s ≡ status.Cut → drop size input ≡ trace_of c) → (s ≡ status.Cut → is_cut_case c ≡ true) → ((place : ℕ) → s ≡ status.Differs place → IsOtherTrace input c size place) → is_of_comparing s ≡ true → AnswersCheck s input
case_check input c size status.Ok has same ok same_cut cut differs only = record { case = c; size = size; has = has; is = ok refl; same = same refl }
case_check input c size status.Cut has same ok same_cut cut differs only = record { case = c; size = size; has = has; is = cut refl; same = same_cut refl }
case_check input c size (status.Differs p) has same ok same_cut cut differs only = record { case = c; size = size; has = has; other = differs p refl }
case_check input c size status.NoMemory has same ok same_cut cut differs only = tt
case_check input c size status.ReadFault has same ok same_cut cut differs only = cc
case_check input c size status.TooBig has same ok same_cut cut differs only = cc
case_check input c size status.Usage has same ok same_cut cut differs only = cc
case_check input c size (status.Illegal i) has same ok same_cut cut differs only = cc
case_check input c size status.Open has same ok same_cut cut differs only = cc
case_check input c size (status.BadCase f) has same ok same_cut cut differs only = cc
case_check input c size status.WriteFault has same ok same_cut cut differs only = cc

pub comparing_of_case : (s : Status) → is_of_comparing s ≡ true → is_of_case s ≡ true
comparing_of_case status.Ok only = refl
comparing_of_case status.Cut only = refl
comparing_of_case status.WriteFault only = refl
comparing_of_case status.NoMemory only = refl
comparing_of_case status.ReadFault only = only
comparing_of_case status.TooBig only = only
comparing_of_case (status.Differs p) only = refl
comparing_of_case status.Usage only = only
comparing_of_case (status.Illegal i) only = refl
comparing_of_case status.Open only = refl
comparing_of_case (status.BadCase f) only = refl

-- ---- answers that a command never gives

pub case_of_command : (s : Status) → is_of_case s ≡ true → is_of_command s ≡ true
case_of_command status.Ok only = refl
case_of_command (status.Differs p) only = refl
case_of_command status.Usage only = only
case_of_command (status.Illegal i) only = refl
case_of_command status.Open only = refl
case_of_command (status.BadCase f) only = refl
case_of_command status.Cut only = refl
case_of_command status.ReadFault only = refl
case_of_command status.WriteFault only = refl
case_of_command status.NoMemory only = refl
case_of_command status.TooBig only = refl

pub reading_of_command : (s : Status) → is_of_reading s ≡ true → is_of_command s ≡ true
reading_of_command status.Ok only = refl
reading_of_command (status.Differs p) only = refl
reading_of_command status.Usage only = only
reading_of_command (status.Illegal i) only = refl
reading_of_command status.Open only = refl
reading_of_command (status.BadCase f) only = refl
reading_of_command status.Cut only = refl
reading_of_command status.ReadFault only = refl
reading_of_command status.WriteFault only = refl
reading_of_command status.NoMemory only = refl
reading_of_command status.TooBig only = refl

pub never_usage : {A : Type 0} (s : Status) → is_of_command s ≡ true → s ≡ status.Usage → A
never_usage s only is = absurd_bool (subst (λ (t : Status). is_of_command t ≡ true) is only)

pub never_read_fault : {A : Type 0} (s : Status) → is_of_case s ≡ true → s ≡ status.ReadFault → A
never_read_fault s only is = absurd_bool (subst (λ (t : Status). is_of_case t ≡ true) is only)

pub never_too_big : {A : Type 0} (s : Status) → is_of_case s ≡ true → s ≡ status.TooBig → A
never_too_big s only is = absurd_bool (subst (λ (t : Status). is_of_case t ≡ true) is only)
