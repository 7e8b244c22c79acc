-- A command keeps its promise, if its two halves keep theirs.
use Rattle.std.proofs.Common.{◌≡◌, ◌≢◌, ℕ, ◌<◌, ◌≤◌, true, false, List, [], length, Option, Some, None, refl, sym, subst, arith}
use Rattle.std.specs.Prelude.{IfSome}
use Rattle.dn_io.specs.Streams.{Rose, Gives}
use Rattle.dn_top.specs.declared.status.Status.{Status}
use Rattle.dn_top.specs.declared.status.Status.TheVariants as status
use Rattle.dn_top.specs.declared.words.RunOptions.{RunOptions}
use Rattle.dn_top.specs.declared.words.Command.{Command}
use Rattle.dn_top.specs.declared.words.Command.TheVariants as command
use Rattle.dn_top.specs.Words.{plain_of}
use Rattle.dn_top.specs.Promises.{Answers, IsCaseRefusal, input_limit, is_of_whole_input, is_of_reading, is_of_command, is_of_case, is_of_comparing}
use Rattle.dn_top.specs.Completeness.{HasOneReading, Owes, IsCalm, IsAnswered}
use Rattle.dn_top.specs.Drives.{HasOneJournal, is_of_steps}
use Rattle.dn_top.specs.Commands.{Streams, Promise, Fulfils, GaveAll, Refuses, streams, writes_nothing, is_early}
use Rattle.dn_top.proofs.Answering.{if_told, read_refused_lockstep, read_refused_check, case_refused_lockstep, case_refused_check, not_of_whole, reading_of_command, refusal_of_case, case_of_command, never_usage, never_read_fault, never_too_big}
use Rattle.dn_top.proofs.DrivesAnswering.{read_refused_rerun, read_refused_shake, case_refused_rerun, case_refused_shake, reading_of_no_steps, refusal_of_no_steps}
use Rattle.dn_top.proofs.RunAnswering.{read_refused_run, case_refused_run, run_completes}
use Rattle.dn_top.proofs.Completing.{lockstep_completes, check_completes}
use Rattle.dn_top.proofs.DrivesCompleting.{rerun_completes, shake_completes}

absurd_bool : {A : Type 0} → false ≡ true → A
absurd_bool is = cc

-- ---- what is owed is answered

completes : (task : Command) (told : Option (List ℕ)) → IfSome told HasOneReading → (s : Status) (old now : Option (List ℕ)) (reads read writes wrote : ℕ) → IfSome told (λ input. Answers task s input old now) → (is_of_steps s ≡ true → task ≡ command.Rerun → IfSome told (λ input. HasOneJournal input)) → (s ≡ status.ReadFault → Rose reads read) → (s ≡ status.WriteFault → Rose writes wrote) → IfSome told (λ input. (owed : Status) → Owes task input owed → IsCalm reads read → IsCalm writes wrote → IsAnswered owed s)
completes task None reading s old now reads read writes wrote answers one read_fault write_fault = tt
completes (command.Run o) (Some l) reading s old now reads read writes wrote answers one read_fault write_fault = run_completes o (Some l) reading s old now reads read writes wrote answers read_fault write_fault
completes command.Lockstep (Some l) reading s old now reads read writes wrote answers one read_fault write_fault = lockstep_completes (Some l) reading s old now reads read writes wrote answers read_fault write_fault
completes command.Check (Some l) reading s old now reads read writes wrote answers one read_fault write_fault = check_completes (Some l) reading s reads read writes wrote answers.0 read_fault
completes command.Rerun (Some l) reading s old now reads read writes wrote answers one read_fault write_fault = rerun_completes (Some l) reading s old now reads read writes wrote answers (λ steps. one steps refl) read_fault write_fault
completes (command.Shake w) (Some l) reading s old now reads read writes wrote answers one read_fault write_fault = shake_completes w (Some l) reading s old now reads read writes wrote answers read_fault write_fault

-- ---- the promise, from its parts

pub promised : (task : Command) (s : Status) (left : Option (List ℕ)) → IfSome left HasOneReading → (left_now : Option (List ℕ)) (reads read : ℕ) (held held_now : Option (List ℕ)) (writes wrote : ℕ) → IfSome left (λ input. Answers task s input held held_now) → (is_of_steps s ≡ true → task ≡ command.Rerun → IfSome left (λ input. HasOneJournal input)) → is_of_command s ≡ true → (writes_nothing (Some task) s ≡ true → held_now ≡ held) → (is_of_whole_input s ≡ true → IfSome left_now (λ l. l ≡ [])) → (s ≡ status.TooBig → Gives left left_now (λ came. input_limit < length came)) → (s ≢ status.TooBig → Gives left left_now (λ came. length came ≤ input_limit)) → (s ≡ status.ReadFault → Rose reads read) → (s ≡ status.WriteFault → Rose writes wrote) → Promise (Some task) s (streams left reads held writes) (streams left_now read held_now wrote)
promised task s left reading left_now reads read held held_now writes wrote answers one only silent whole too_big not_too_big read_fault write_fault = record {
  answers = answers;
  complete = completes task left reading s held held_now reads read writes wrote answers one read_fault write_fault;
  usage = (λ is. never_usage s only is, λ is. cc);
  unread = λ is. never_usage s only is;
  unwritten = λ is. never_usage s only is;
  silent = silent;
  read = whole;
  too_big = too_big;
  not_too_big = not_too_big;
  read_fault = read_fault;
  write_fault = write_fault;
}

-- nothing came
gives_none : (told : Option (List ℕ)) → Gives told told (λ came. length came ≤ input_limit)
gives_none None = record { came = []; holds = omega arith; told = refl }
gives_none (Some l) = record { came = []; holds = omega arith; told = refl }

-- words that are no command
pub unasked : (left : Option (List ℕ)) (reads : ℕ) (held : Option (List ℕ)) (writes : ℕ) → Promise None status.Usage (streams left reads held writes) (streams left reads held writes)
unasked left reads held writes = record {
  answers = tt;
  complete = tt;
  usage = (λ is. refl, λ is. refl);
  unread = λ is. refl;
  unwritten = λ is. refl;
  silent = λ is. absurd_bool is;
  read = λ is. absurd_bool is;
  too_big = λ is. cc;
  not_too_big = λ is. gives_none left;
  read_fault = λ is. cc;
  write_fault = λ is. cc;
}

-- ---- refusals of reading

reads_one : ((input : List ℕ) → HasOneReading input) → (told : Option (List ℕ)) → IfSome told HasOneReading
reads_one each None = tt
reads_one each (Some input) = each input

reading_answers : (task : Command) (told : Option (List ℕ)) (s : Status) (held : Option (List ℕ)) → is_of_reading s ≡ true → (s ≡ status.TooBig → IfSome told (λ l. input_limit < length l)) → IfSome told (λ input. Answers task s input held held)
reading_answers task None s held of_reading long = tt
reading_answers (command.Run o) (Some l) s held of_reading long = read_refused_run o (Some l) s held held of_reading long refl
reading_answers command.Lockstep (Some l) s held of_reading long = read_refused_lockstep (Some l) s held held of_reading long refl
reading_answers command.Check (Some l) s held of_reading long = (read_refused_check (Some l) s of_reading long, refl)
reading_answers command.Rerun (Some l) s held of_reading long = read_refused_rerun (Some l) s held held of_reading long refl
reading_answers (command.Shake w) (Some l) s held of_reading long = read_refused_shake w (Some l) s held held of_reading long refl

never_of_reading : {A : Type 0} (s : Status) → is_of_reading s ≡ true → s ≡ status.WriteFault → A
never_of_reading s of_reading is = absurd_bool (subst (λ (t : Status). is_of_reading t ≡ true) is of_reading)

pub reading_refused : ((input : List ℕ) → HasOneReading input) → (s : Status) (left left_now : Option (List ℕ)) (reads read : ℕ) → is_of_reading s ≡ true → (s ≡ status.TooBig → IfSome left (λ l. input_limit < length l)) → (s ≡ status.TooBig → Gives left left_now (λ came. input_limit < length came)) → (s ≢ status.TooBig → Gives left left_now (λ came. length came ≤ input_limit)) → (s ≡ status.ReadFault → Rose reads read) → Refuses s left left_now reads read
reading_refused each s left left_now reads read of_reading long too_big not_too_big read_fault = λ task held writes.
    promised task s left (reads_one each left) left_now reads read held held writes writes
    (reading_answers task left s held of_reading long) (λ steps is. reading_of_no_steps s of_reading steps) (reading_of_command s of_reading) (λ nothing. refl)
    (λ whole. not_of_whole s of_reading whole) too_big not_too_big read_fault (λ is. never_of_reading s of_reading is)

-- ---- refusals of the case

case_answers : (task : Command) (input : List ℕ) (s : Status) (held : Option (List ℕ)) → IsCaseRefusal input s → Answers task s input held held
case_answers (command.Run o) input s held refused = case_refused_run o input s held refused
case_answers command.Lockstep input s held refused = case_refused_lockstep input s held refused
case_answers command.Check input s held refused = (case_refused_check input s refused, refl)
case_answers command.Rerun input s held refused = case_refused_rerun input s held refused
case_answers (command.Shake w) input s held refused = case_refused_shake w input s held refused

never_of_refusal : {A : Type 0} (input : List ℕ) (s : Status) → IsCaseRefusal input s → s ≡ status.WriteFault → A
never_of_refusal input s refused is = absurd (subst (λ (t : Status). IsCaseRefusal input t) is refused)

pub case_refused : ((input : List ℕ) → HasOneReading input) → (input : List ℕ) (s : Status) (left left_now : Option (List ℕ)) (reads read : ℕ) → GaveAll input left left_now → IsCaseRefusal input s → Refuses s left left_now reads read
case_refused each input s left left_now reads read gave refused = λ task held writes.
    let of_case = refusal_of_case input s refused in
    promised task s left (reads_one each left) left_now reads read held held writes writes
    (if_told left input (λ l. Answers task s l held held) gave.all (case_answers task input s held refused)) (λ steps is. refusal_of_no_steps input s refused steps) (case_of_command s of_case) (λ nothing. refl)
    (λ whole. gave.none_left) (λ is. never_too_big s of_case is) (λ is. gave.few) (λ is. never_read_fault s of_case is) (λ is. never_of_refusal input s refused is)

-- ---- a driver's answer

never_early : {A : Type 0} (s : Status) → is_of_case s ≡ true → is_early s ≡ true → A
never_early status.ReadFault of_case early = cc
never_early status.TooBig of_case early = cc
never_early status.Ok of_case early = cc
never_early (status.Differs p) of_case early = cc
never_early status.Usage of_case early = cc
never_early (status.BadCase f) of_case early = cc
never_early status.Cut of_case early = cc
never_early status.WriteFault of_case early = cc
never_early status.NoMemory of_case early = cc
never_early (status.Illegal i) of_case early = cc
never_early status.Open of_case early = cc

silent_driver : (task : Command) (input : List ℕ) (s : Status) (held held_now : Option (List ℕ)) → is_of_case s ≡ true → Answers task s input held held_now → writes_nothing (Some task) s ≡ true → held_now ≡ held
silent_driver (command.Run o) input s held held_now of_case answers nothing = never_early s of_case nothing
silent_driver command.Lockstep input s held held_now of_case answers nothing = never_early s of_case nothing
silent_driver command.Check input s held held_now of_case answers nothing = answers.1
silent_driver command.Rerun input s held held_now of_case answers nothing = never_early s of_case nothing
silent_driver (command.Shake w) input s held held_now of_case answers nothing = never_early s of_case nothing

pub driven : (task : Command) (input : List ℕ) → HasOneReading input → (s : Status) (left left_now : Option (List ℕ)) (reads read : ℕ) (held held_now : Option (List ℕ)) (writes wrote : ℕ) → GaveAll input left left_now → Fulfils task input s held held_now writes wrote → Promise (Some task) s (streams left reads held writes) (streams left_now read held_now wrote)
driven task input reading s left left_now reads read held held_now writes wrote gave did =
    promised task s left (if_told left input HasOneReading gave.all reading) left_now reads read held held_now writes wrote
    (if_told left input (λ l. Answers task s l held held_now) gave.all did.answers) (λ steps is. if_told left input (λ l. HasOneJournal l) gave.all (did.one is)) (case_of_command s did.only) (silent_driver task input s held held_now did.only did.answers)
    (λ whole. gave.none_left) (λ is. never_too_big s did.only is) (λ is. gave.few) (λ is. never_read_fault s did.only is) did.write_fault

-- ---- the same command

pub same_asked : (asked other : Option Command) (s : Status) (old new : Streams) → asked ≡ other → Promise other s old new → Promise asked s old new
same_asked asked other s old new is promise = subst (λ (a : Option Command). Promise a s old new) (sym is) promise

pub same_task : (task other : Command) (input : List ℕ) (s : Status) (held held_now : Option (List ℕ)) (writes wrote : ℕ) → task ≡ other → Fulfils other input s held held_now writes wrote → Fulfils task input s held held_now writes wrote
same_task task other input s held held_now writes wrote is did = subst (λ (t : Command). Fulfils t input s held held_now writes wrote) (sym is) did

pub never_of_comparing : {A : Type 0} (s : Status) → is_of_comparing s ≡ true → s ≡ status.WriteFault → A
never_of_comparing s only is = absurd_bool (subst (λ (t : Status). is_of_comparing t ≡ true) is only)

-- the command isn't `run`
pub is_plain : (asked : Option Command) → ((o : RunOptions) → asked ≡ Some (command.Run o) → ⊥) → plain_of asked ≡ asked
is_plain None other = refl
is_plain (Some (command.Run o)) other = absurd (other o refl)
is_plain (Some command.Lockstep) other = refl
is_plain (Some command.Check) other = refl
is_plain (Some command.Rerun) other = refl
is_plain (Some (command.Shake w)) other = refl

-- a command that waits for nobody stays itself
pub stays_plain : (asked : Option Command) (plain : Command) → plain_of asked ≡ Some plain → plain_of (Some plain) ≡ Some plain
stays_plain None plain is = cc
stays_plain (Some (command.Run o)) plain is = cc
stays_plain (Some command.Lockstep) plain is = subst (λ (a : Option Command). plain_of a ≡ a) is refl
stays_plain (Some command.Check) plain is = subst (λ (a : Option Command). plain_of a ≡ a) is refl
stays_plain (Some command.Rerun) plain is = subst (λ (a : Option Command). plain_of a ≡ a) is refl
stays_plain (Some (command.Shake w)) plain is = subst (λ (a : Option Command). plain_of a ≡ a) is refl
