-- What `run` answers, from its parts; and where nothing fails, that is what its input asks for.
use Rattle.std.proofs.Common.{◌≡◌, ◌⊎◌, ℕ, ◌<◌, Bool, true, false, inl, inr, List, length, Option, Some, None, refl, subst}
use Rattle.std.specs.Prelude.{IfSome}
use Rattle.dn_io.specs.Streams.{Rose}
use Rattle.dn_model.specs.Cases.{Recording}
use Rattle.dn_world.specs.declared.step.Step.{Step}
use Rattle.dn_top.specs.declared.status.Status.{Status}
use Rattle.dn_top.specs.declared.status.Status.TheVariants as status
use Rattle.dn_top.specs.declared.words.RunOptions.{RunOptions}
use Rattle.dn_top.specs.Promises.{HasCase, IsCaseRefusal, IsCaseRun, AnswersRun, is_cut_case, run_text, input_limit, is_of_reading}
use Rattle.dn_top.specs.Drives.{Writes}
use Rattle.dn_top.specs.Completeness.{HasOneReading, RunOwes, whole_run, cut_run, no_case, too_big, IsCalm, IsAnswered}
use Rattle.dn_top.proofs.Completing.{answered, calm, run_owes_one}

-- ---- refusals of reading, and of the case

pub read_refused_run : (o : RunOptions) (told : Option (List ℕ)) (s : Status) (old now : Option (List ℕ)) → is_of_reading s ≡ true → (s ≡ status.TooBig → IfSome told (λ l. input_limit < length l)) → now ≡ old → IfSome told (λ input. AnswersRun o s input old now)
read_refused_run o None s old now of_reading big same = tt
read_refused_run o (Some l) status.Ok old now of_reading big same = cc
read_refused_run o (Some l) status.Cut old now of_reading big same = cc
read_refused_run o (Some l) (status.BadCase f) old now of_reading big same = cc
read_refused_run o (Some l) status.TooBig old now of_reading big same = (big refl, same)
read_refused_run o (Some l) status.ReadFault old now of_reading big same = same
read_refused_run o (Some l) status.WriteFault old now of_reading big same = cc
read_refused_run o (Some l) status.NoMemory old now of_reading big same = inl same
read_refused_run o (Some l) (status.Differs p) old now of_reading big same = cc
read_refused_run o (Some l) status.Usage old now of_reading big same = cc
read_refused_run o (Some l) (status.Illegal i) old now of_reading big same = cc
read_refused_run o (Some l) status.Open old now of_reading big same = cc

pub case_refused_run : (o : RunOptions) (input : List ℕ) (s : Status) (told : Option (List ℕ)) → IsCaseRefusal input s → AnswersRun o s input told told
case_refused_run o input status.Ok told refused = absurd refused
case_refused_run o input status.Cut told refused = absurd refused
case_refused_run o input (status.BadCase f) told refused = (refused, refl)
case_refused_run o input status.TooBig told refused = absurd refused
case_refused_run o input status.ReadFault told refused = absurd refused
case_refused_run o input status.WriteFault told refused = absurd refused
case_refused_run o input status.NoMemory told refused = inl refl
case_refused_run o input (status.Differs p) told refused = absurd refused
case_refused_run o input status.Usage told refused = absurd refused
case_refused_run o input (status.Illegal i) told refused = absurd refused
case_refused_run o input status.Open told refused = absurd refused

-- ---- the text of a run

as_cut : (c : Recording) (cut : Bool) (steps : List Step) → is_cut_case c ≡ cut → IsCaseRun c (is_cut_case c) steps → IsCaseRun c cut steps
as_cut c cut steps is run = subst (λ (b : Bool). IsCaseRun c b steps) is run

pub case_run : (o : RunOptions) (input : List ℕ) (c : Recording) (size : ℕ) (steps : List Step) (s : Status) (old now : Option (List ℕ)) → HasCase input c size → IsCaseRun c (is_cut_case c) steps → Writes c (run_text o.journal c steps) s old now → AnswersRun o s input old now
case_run o input c size steps status.Ok old now has run writes = record { case = c; size = size; steps = steps; has = has; run = as_cut c false steps writes.0 run; text = writes.1 }
case_run o input c size steps status.Cut old now has run writes = record { case = c; size = size; steps = steps; has = has; run = as_cut c true steps writes.0 run; text = writes.1 }
case_run o input c size steps (status.BadCase f) old now has run writes = absurd writes
case_run o input c size steps status.TooBig old now has run writes = absurd writes
case_run o input c size steps status.ReadFault old now has run writes = absurd writes
case_run o input c size steps status.WriteFault old now has run writes = record { case = c; size = size; steps = steps; has = has; run = run; front = writes }
case_run o input c size steps status.NoMemory old now has run writes = inr (record { case = c; size = size; steps = steps; has = has; run = run; front = writes })
case_run o input c size steps (status.Differs p) old now has run writes = absurd writes
case_run o input c size steps status.Usage old now has run writes = absurd writes
case_run o input c size steps (status.Illegal i) old now has run writes = absurd writes
case_run o input c size steps status.Open old now has run writes = absurd writes

-- ---- what is answered is what is owed, or a failure

run_gives : (o : RunOptions) (input : List ℕ) (s : Status) (old now : Option (List ℕ)) → AnswersRun o s input old now → (s ≡ status.ReadFault → ⊥) → (s ≡ status.WriteFault → ⊥) → RunOwes input s ⊎ (s ≡ status.NoMemory)
run_gives o input status.Ok old now a read write = inl (whole_run (record { case = a.case; size = a.size; has = a.has; is = a.run.is }))
run_gives o input status.Cut old now a read write = inl (cut_run (record { case = a.case; size = a.size; has = a.has; is = a.run.is }))
run_gives o input (status.BadCase f) old now a read write = inl (no_case f a.0)
run_gives o input status.TooBig old now a read write = inl (too_big a.0)
run_gives o input status.ReadFault old now a read write = absurd (read refl)
run_gives o input status.WriteFault old now a read write = absurd (write refl)
run_gives o input status.NoMemory old now a read write = inr refl
run_gives o input (status.Differs p) old now a read write = absurd a
run_gives o input status.Usage old now a read write = absurd a
run_gives o input (status.Illegal i) old now a read write = absurd a
run_gives o input status.Open old now a read write = absurd a

pub run_completes : (o : RunOptions) (told : Option (List ℕ)) → IfSome told HasOneReading → (s : Status) (old now : Option (List ℕ)) (reads read writes wrote : ℕ) → IfSome told (λ input. AnswersRun o s input old now) → (s ≡ status.ReadFault → Rose reads read) → (s ≡ status.WriteFault → Rose writes wrote) → IfSome told (λ input. (owed : Status) → RunOwes input owed → IsCalm reads read → IsCalm writes wrote → IsAnswered owed s)
run_completes o None reading s old now reads read writes wrote answers read_fault write_fault = tt
run_completes o (Some input) reading s old now reads read writes wrote answers read_fault write_fault = λ owed owes calm_source calm_sink.
    answered (run_owes_one (record { bytes = input; one = reading })) owed s owes (run_gives o input s old now answers (λ is. calm reads read calm_source (read_fault is)) (λ is. calm writes wrote calm_sink (write_fault is)))
