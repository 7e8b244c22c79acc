-- What `run --live` answers, from its parts.
use Rattle.std.proofs.Common.{◌≡◌, inl, inr, ℕ, ◌+◌, ◌≤◌, Bool, true, false, List, ◌++◌, length, Option, Some, None, refl, sym, ap, subst, ◌∙◌, append_assoc, arith}
use Rattle.dn_io.specs.Streams.{before, behind, Rose}
use Rattle.dn_io.specs.LineReading.{LineReading}
use Rattle.dn_model.specs.Cases.{Recording}
use Rattle.dn_model.specs.Cases.{Heading}
use Rattle.dn_record.specs.declared.live_end.LiveEnd.{LiveEnd}
use Rattle.dn_record.specs.declared.live_end.LiveEnd.TheVariants as ending
use Rattle.dn_record.specs.Live.{Hearing, Follows, GoesOn, hearing, opening_live, text_of}
use Rattle.dn_record.specs.Live.{AreRead, stamped, Ends, IsBadLine}
use Rattle.dn_world.specs.declared.step.Step.{Step}
use Rattle.dn_top.specs.declared.status.Status.{Status}
use Rattle.dn_top.specs.declared.status.Status.TheVariants as status
use Rattle.dn_top.specs.declared.words.RunOptions.{RunOptions}
use Rattle.dn_top.specs.Promises.{IsCaseRun, is_cut_case, run_text}
use Rattle.dn_top.specs.Drives.{Writes}
use Rattle.dn_top.specs.Commands.{Streams}
use Rattle.dn_top.specs.LiveHeads.{HasHead, head_text, RefusesHead}
use Rattle.dn_top.specs.LiveRuns.{Listens, HasHeard, Closes, AnswersLive, LivePromise, last_status, refusal_or, HasRunLive}
use Rattle.dn_top.proofs.LiveHeadLaws.{before_both}

-- ---- a feed that has closed behind its head

both_ways : (ended : Option LiveEnd) (end : LiveEnd) → ended ≡ Some end → ended ≡ None → ⊥
both_ways ended end some none = cc

closed_is_unspent : (spent : Bool) (ended : Option LiveEnd) (end : LiveEnd) → ended ≡ Some end → (spent ≡ true → ended ≡ None) → spent ≡ false
closed_is_unspent false ended end is unspent = refl
closed_is_unspent true ended end is unspent = absurd (both_ways ended end is (unspent refl))

module _ (h : Heading) (reader : LineReading) (first : ℕ) (old : Option (List ℕ)) (faults : ℕ) (beats : Option (ℕ → ℕ)) (x y : Hearing) (end : LiveEnd) (c : Recording) (start : x ≡ hearing (opening_live h reader first) old faults beats) (ended : y.live.ended ≡ Some end) (case : c ≡ record { header = y.live.header; feed = y.live.given }) where
  on : GoesOn x y → Listens h reader first old y.left faults y.faults beats y.beats c end
  on g = record {
    last = y.live;
    goes_on = subst (λ (z : Hearing). GoesOn z y) start g;
    spent = closed_is_unspent y.live.spent y.live.ended end ended g.unspent;
    ended = ended;
    case = case;
  }

  -- an open feed hasn't closed
  same : y ≡ x → Listens h reader first old y.left faults y.faults beats y.beats c end
  same is = absurd (both_ways y.live.ended end ended (ap (λ (z : Hearing). z.live.ended) (is ∙ start)))

  pub listens : Follows x y → Listens h reader first old y.left faults y.faults beats y.beats c end
  listens follows = elim follows [ inl is ↦ same is | inr g ↦ on g ]

-- ---- the head, and what was heard behind it

rose_before : (a b c : ℕ) → a ≤ b → Rose b c → Rose a c
rose_before a b c le rose = omega (arith, rose)

-- why the feed has closed, as it is said of the whole input
closes_of : (end : LiveEnd) (x y : Hearing) (h : Heading) (room number faults : ℕ) (ahead : List ℕ) → y.live.header ≡ h → y.live.number ≡ number → faults ≤ x.faults → Ends x y room ahead (Some end) → Closes end h room number ahead y.left faults y.faults
closes_of ending.Closed x y h room number faults ahead header at le ends = elim ends [ inl is ↦ inl (y.live.reader.held, is) | inr is ↦ inr is ]
closes_of (ending.Bad fault) x y h room number faults ahead header at le ends = (
  ends.0 ∙ at,
  elim ends.1 [
    | inl bad ↦ inl (y.live.reader.held, subst (λ (k : Heading). IsBadLine k ahead y.live.reader.held fault.cause) header bad)
    | inr rest ↦ inr rest
  ],
)
closes_of ending.Failed x y h room number faults ahead header at le ends = (ends.0, rose_before faults x.faults y.faults le ends.1)
closes_of ending.TooBig x y h room number faults ahead header at le ends = ends

module _ (old mid now : Option (List ℕ)) (faults faults_mid faults_now : ℕ) (beats beats_now : Option (ℕ → ℕ)) (head : Recording) (reader : LineReading) (first : ℕ) (c : Recording) (end : LiveEnd) (hd : HasHead old mid head reader first) (le : faults ≤ faults_mid) (l : Listens head.header reader first mid now faults_mid faults_now beats beats_now c end) where
  abbrev at_first : Hearing
  at_first = hearing (opening_live head.header reader first) mid faults_mid beats

  abbrev at_last : Hearing
  at_last = hearing l.last now faults_now beats_now

  same_header : c.header ≡ head.header
  same_header = ap (λ (r : Recording). r.header) l.case ∙ l.goes_on.header

  all_came : hd.came ++ l.goes_on.came ≡ head_text hd.above ++ (text_of l.goes_on.heard ++ l.goes_on.ahead)
  all_came = ap (λ (t : List ℕ). t ++ l.goes_on.came) hd.bytes ∙ append_assoc (head_text hd.above) reader.held l.goes_on.came ∙ ap (λ (t : List ℕ). head_text hd.above ++ t) l.goes_on.bytes

  counted : l.last.number ≡ length hd.above + 2 + length l.goes_on.heard
  counted = omega (arith, l.goes_on.number l.spent, hd.number)

  pub heard_of : HasHeard old now faults faults_now beats beats_now c end
  heard_of = record {
    above = hd.above;
    whole = hd.whole;
    head = head;
    size = hd.size;
    front = hd.front;
    header = same_header;
    heard = l.goes_on.heard;
    read = subst (λ (h : Heading). AreRead h l.goes_on.heard) (sym same_header) l.goes_on.read;
    timed = l.goes_on.beats;
    later = l.goes_on.later l.spent;
    feed = ap (λ (r : Recording). r.feed) l.case ∙ l.goes_on.given ∙ ap (λ (h : Heading). stamped h.groups 0 l.goes_on.heard) (sym same_header);
    ahead = l.goes_on.ahead;
    told = hd.told ∙ ap (before hd.came) l.goes_on.told ∙ before_both hd.came l.goes_on.came now ∙ ap (λ (t : List ℕ). before t now) all_came;
    room = l.goes_on.room.0;
    limit = omega (arith, hd.room, l.goes_on.room.1);
    closes = closes_of end at_first at_last c.header l.goes_on.room.0 (length hd.above + 2 + length l.goes_on.heard) faults l.goes_on.ahead (ap (λ (r : Recording). r.header) (sym l.case)) counted le (subst (λ (e : Option LiveEnd). Ends at_first at_last l.goes_on.room.0 l.goes_on.ahead e) l.ended (l.goes_on.room.2 l.spent));
  }

-- ---- statuses

module _ (o : RunOptions) (old new : Streams) (beats beats_now : Option (ℕ → ℕ)) where
  pub head_refused : (s : Status) → RefusesHead s old.left new.left → new.held ≡ old.held → AnswersLive o old new beats beats_now s
  head_refused (status.BadCase f) refused same = inl (refused, same)
  head_refused status.ReadFault refused same = inl (refused, same)
  head_refused status.TooBig refused same = inl (refused, same)
  head_refused status.NoMemory refused same = inl same
  head_refused status.Ok refused same = absurd refused
  head_refused (status.Differs p) refused same = absurd refused
  head_refused status.Usage refused same = absurd refused
  head_refused status.Cut refused same = absurd refused
  head_refused status.WriteFault refused same = absurd refused
  head_refused (status.Illegal n) refused same = absurd refused
  head_refused status.Open refused same = absurd refused

  no_head_write_fault : {A : Type 0} (s : Status) → RefusesHead s old.left new.left → s ≡ status.WriteFault → A
  no_head_write_fault s refused is = absurd (subst (λ (x : Status). RefusesHead x old.left new.left) is refused)

  pub refused_promise : (s : Status) → RefusesHead s old.left new.left → new.held ≡ old.held → (s ≡ status.ReadFault → Rose old.read_faults new.read_faults) → LivePromise o s old new beats beats_now
  refused_promise s refused same fault = record {
    answers = head_refused s refused same;
    read_fault = fault;
    write_fault = no_head_write_fault s refused;
  }

  pub memory_promise : new.held ≡ old.held → LivePromise o status.NoMemory old new beats beats_now
  memory_promise same = record { answers = inl same; read_fault = λ is. cc; write_fault = λ is. cc }

  module _ (c : Recording) (end : LiveEnd) (steps : List Step) (heard : HasHeard old.left new.left old.read_faults new.read_faults beats beats_now c end) (run : IsCaseRun c (is_cut_case c) steps) where
    as_cut : (cut : Bool) → is_cut_case c ≡ cut → IsCaseRun c cut steps
    as_cut cut is = subst (λ (b : Bool). IsCaseRun c b steps) is run

    ran : (cut : Bool) → is_cut_case c ≡ cut → new.held ≡ behind old.held (run_text o.journal c steps) → HasRunLive o old new beats beats_now cut end
    ran cut is text = record { case = c; steps = steps; heard = heard; run = as_cut cut is; text = text }

  after_ok : (c : Recording) (end : LiveEnd) (steps : List Step) → HasHeard old.left new.left old.read_faults new.read_faults beats beats_now c end → IsCaseRun c (is_cut_case c) steps → Writes c (run_text o.journal c steps) status.Ok old.held new.held → AnswersLive o old new beats beats_now (refusal_or status.Ok end)
  after_ok c ending.Closed steps heard run writes = ran c ending.Closed steps heard run false writes.0 writes.1
  after_ok c (ending.Bad f) steps heard run writes = inr (inl (ran c (ending.Bad f) steps heard run false writes.0 writes.1))
  after_ok c ending.Failed steps heard run writes = inr (inl (ran c ending.Failed steps heard run false writes.0 writes.1))
  after_ok c ending.TooBig steps heard run writes = inr (inl (ran c ending.TooBig steps heard run false writes.0 writes.1))

  after_cut : (c : Recording) (end : LiveEnd) (steps : List Step) → HasHeard old.left new.left old.read_faults new.read_faults beats beats_now c end → IsCaseRun c (is_cut_case c) steps → Writes c (run_text o.journal c steps) status.Cut old.held new.held → AnswersLive o old new beats beats_now (refusal_or status.Cut end)
  after_cut c ending.Closed steps heard run writes = ran c ending.Closed steps heard run true writes.0 writes.1
  after_cut c (ending.Bad f) steps heard run writes = inr (inr (ran c (ending.Bad f) steps heard run true writes.0 writes.1))
  after_cut c ending.Failed steps heard run writes = inr (inr (ran c ending.Failed steps heard run true writes.0 writes.1))
  after_cut c ending.TooBig steps heard run writes = inr (inr (ran c ending.TooBig steps heard run true writes.0 writes.1))

  after_writing : (c : Recording) (end : LiveEnd) (steps : List Step) → HasHeard old.left new.left old.read_faults new.read_faults beats beats_now c end → IsCaseRun c (is_cut_case c) steps → (s : Status) → Writes c (run_text o.journal c steps) s old.held new.held → AnswersLive o old new beats beats_now (last_status s end)
  after_writing c end steps heard run status.Ok writes = after_ok c end steps heard run writes
  after_writing c end steps heard run status.Cut writes = after_cut c end steps heard run writes
  after_writing c end steps heard run status.WriteFault writes = record { end = end; case = c; steps = steps; heard = heard; run = run; front = writes }
  after_writing c end steps heard run status.NoMemory writes = inr (record { end = end; case = c; steps = steps; heard = heard; run = run; front = writes })
  after_writing c end steps heard run (status.Differs p) writes = absurd writes
  after_writing c end steps heard run status.Usage writes = absurd writes
  after_writing c end steps heard run (status.BadCase f) writes = absurd writes
  after_writing c end steps heard run status.ReadFault writes = absurd writes
  after_writing c end steps heard run status.TooBig writes = absurd writes
  after_writing c end steps heard run (status.Illegal n) writes = absurd writes
  after_writing c end steps heard run status.Open writes = absurd writes

  -- a read fault is told of a feed that has failed alone
  fault_of_end : (s : Status) (end : LiveEnd) (c : Recording) → HasHeard old.left new.left old.read_faults new.read_faults beats beats_now c end → (s ≡ status.ReadFault → ⊥) → refusal_or s end ≡ status.ReadFault → Rose old.read_faults new.read_faults
  fault_of_end s ending.Closed c heard not is = absurd (not is)
  fault_of_end s (ending.Bad f) c heard not is = cc
  fault_of_end s ending.Failed c heard not is = heard.closes.1
  fault_of_end s ending.TooBig c heard not is = cc

  read_fault_of : (s : Status) (end : LiveEnd) (c : Recording) (text : List ℕ) → HasHeard old.left new.left old.read_faults new.read_faults beats beats_now c end → Writes c text s old.held new.held → last_status s end ≡ status.ReadFault → Rose old.read_faults new.read_faults
  read_fault_of status.Ok end c text heard writes is = fault_of_end status.Ok end c heard (λ e. cc) is
  read_fault_of status.Cut end c text heard writes is = fault_of_end status.Cut end c heard (λ e. cc) is
  read_fault_of status.WriteFault end c text heard writes is = cc
  read_fault_of status.NoMemory end c text heard writes is = cc
  read_fault_of (status.Differs p) end c text heard writes is = absurd writes
  read_fault_of status.Usage end c text heard writes is = absurd writes
  read_fault_of (status.BadCase f) end c text heard writes is = absurd writes
  read_fault_of status.ReadFault end c text heard writes is = absurd writes
  read_fault_of status.TooBig end c text heard writes is = absurd writes
  read_fault_of (status.Illegal n) end c text heard writes is = absurd writes
  read_fault_of status.Open end c text heard writes is = absurd writes

  no_write_fault : (s : Status) (end : LiveEnd) → (s ≡ status.WriteFault → ⊥) → refusal_or s end ≡ status.WriteFault → s ≡ status.WriteFault
  no_write_fault s ending.Closed not is = is
  no_write_fault s (ending.Bad f) not is = cc
  no_write_fault s ending.Failed not is = cc
  no_write_fault s ending.TooBig not is = cc

  write_fault_of : (s : Status) (end : LiveEnd) → last_status s end ≡ status.WriteFault → s ≡ status.WriteFault
  write_fault_of status.Ok end is = no_write_fault status.Ok end (λ e. cc) is
  write_fault_of status.Cut end is = no_write_fault status.Cut end (λ e. cc) is
  write_fault_of status.WriteFault end is = refl
  write_fault_of status.NoMemory end is = is
  write_fault_of (status.Differs p) end is = is
  write_fault_of status.Usage end is = is
  write_fault_of (status.BadCase f) end is = is
  write_fault_of status.ReadFault end is = is
  write_fault_of status.TooBig end is = is
  write_fault_of (status.Illegal n) end is = is
  write_fault_of status.Open end is = is

  pub heard_promise : (mid : Option (List ℕ)) (faults_mid : ℕ) (head : Recording) (reader : LineReading) (first : ℕ) → HasHead old.left mid head reader first → old.read_faults ≤ faults_mid → (c : Recording) (end : LiveEnd) (steps : List Step) → Listens head.header reader first mid new.left faults_mid new.read_faults beats beats_now c end → IsCaseRun c (is_cut_case c) steps → (s : Status) → Writes c (run_text o.journal c steps) s old.held new.held → (s ≡ status.WriteFault → Rose old.write_faults new.write_faults) → LivePromise o (last_status s end) old new beats beats_now
  heard_promise mid faults_mid head reader first hd le c end steps l run s writes fault =
      let heard : HasHeard old.left new.left old.read_faults new.read_faults beats beats_now c end = heard_of old.left mid new.left old.read_faults faults_mid new.read_faults beats beats_now head reader first c end hd le l in
      record {
        answers = after_writing c end steps heard run s writes;
        read_fault = read_fault_of s end c (run_text o.journal c steps) heard writes;
        write_fault = λ is. fault (write_fault_of s end is);
      }

-- ---- what holds of two values holds of the same values

pub moved : {A B : Type 0} (P : A → B → Type 0) {a a' : A} {b b' : B} → a ≡ a' → b ≡ b' → P a b → P a' b'
moved P {a = a} {b' = b'} same other p = subst (λ x. P x b') same (subst (P a) other p)
