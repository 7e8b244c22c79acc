use Rattle.std.proofs.Common.{◌≡◌, ◌++◌, false, true, inr, Ok, ap, refl, sym, subst, ◌∙◌}
use Rattle.dn_io.specs.LineReading.{Tells}
use Rattle.dn_io.specs.declared.line_reader.Line.{Line}
use Rattle.dn_record.specs.Live.{Live, IsOpen, Follows, hearing}
use Rattle.dn_record.specs.Listening.{Takes}
use Rattle.dn_record.proofs.Hearing.{Came, left_on, answer_on, answer_keeps, listening, heard_out}
use Rattle.dn_record.proofs.live_log.LiveLog.hear.Goals as goal

pub returns-in_err-line-clause-follows : goal.returns-in_err-line-clause-follows
returns-in_err-line-clause-follows g c =
    let f = c.self.inside in
    let x : Live = c.args.self.now in
    let seen = c.self.view_is in
    let unspent : x.spent ≡ false = sym (ap (λ (u : Live). u.spent) seen) ∙ c.if-self.false in
    let came = c.in_err-line.ensures.given in
    inr (left_on x (record { header = f.header; reader = c.next.new.self; given = f.given; last = f.recorder.last; number = f.number; ended = f.ended; spent = true }) (g.S.Source.left c.args.source.now) (g.S.Source.left c.next.new.source) (g.S.Source.faults c.args.source.now) (g.S.Source.faults c.next.new.source) (g.M.Metronome.beats c.args.beats.now) (g.M.Metronome.beats c.args.beats.now)
    came.came (c.requires, unspent) came.told c.in_err-line.ensures.later (ap (λ (u : Live). u.header) seen) (ap (λ (u : Live). u.given) seen) (ap (λ (u : Live). u.ended) seen ∙ c.requires) refl)

pub returns-in_err-fed-clause-follows : goal.returns-in_err-fed-clause-follows
returns-in_err-fed-clause-follows g c =
    let x : Live = c.args.self.now in
    let seen = c.self.view_is in
    let unspent : x.spent ≡ false = sym (ap (λ (u : Live). u.spent) seen) ∙ c.if-self.false in
    let came = c.in_ok-line.ensures.given in
    let left = c.in_err-fed.ensures.err in
    inr (left_on x c.take.new.self (g.S.Source.left c.args.source.now) (g.S.Source.left c.next.new.source) (g.S.Source.faults c.args.source.now) (g.S.Source.faults c.next.new.source) (g.M.Metronome.beats c.args.beats.now) (g.M.Metronome.beats c.take.new.beats)
    came.came (c.requires, unspent) came.told c.in_ok-line.ensures.later (left.header ∙ ap (λ (u : Live). u.header) seen) (left.given ∙ ap (λ (u : Live). u.given) seen) (left.ended ∙ ap (λ (u : Live). u.ended) seen ∙ c.requires) left.spent)

pub invariant_of-self-3 : goal.invariant_of-self-3
invariant_of-self-3 g c =
    let f = c.self.inside in
    let v : Live = record { header = f.header; reader = f.lines; given = f.given; last = f.recorder.last; number = f.number; ended = f.ended; spent = f.spent } in
    let x : Live = c.args.self.now in
    let seen = c.self.view_is in
    let s = c.self-2.inside in
    let z : Live = record { header = s.header; reader = s.lines; given = s.given; last = s.recorder.last; number = s.number; ended = s.ended; spent = s.spent } in
    let unspent : v.spent ≡ false = c.if-self.false in
    let unclosed : IsOpen v = (ap (λ (u : Live). u.ended) seen ∙ c.requires, unspent) in
    let takes = subst (λ (u : Live). Takes c.in_ok-line.line (listening v c.next.new.self) u (g.M.Metronome.beats c.args.beats.now) (g.M.Metronome.beats c.take.new.beats)) (sym c.self-2.view_is) c.in_ok-fed.ensures.takes in
    answer_keeps v (f.lines.held ++ c.in_ok-line.ensures.given.came) c.in_ok-line.line c.next.new.self z s.recorder.groups (g.M.Metronome.beats c.args.beats.now) (g.M.Metronome.beats c.take.new.beats)
    (c.self.invariant.last unspent) (c.self.invariant.number unclosed) c.in_ok-line.ensures.given.holds takes c.self-2.invariant

pub returns-clause-follows : goal.returns-clause-follows
returns-clause-follows g c =
    let f = c.self.inside in
    let v : Live = record { header = f.header; reader = f.lines; given = f.given; last = f.recorder.last; number = f.number; ended = f.ended; spent = f.spent } in
    let x : Live = c.args.self.now in
    let seen = c.self.view_is in
    let line : Line = c.in_ok-line.line in
    let reader = c.next.new.self in
    let given = c.in_ok-line.ensures.given in
    let left = g.S.Source.left c.args.source.now in
    let now = g.S.Source.left c.next.new.source in
    let faults = g.S.Source.faults c.args.source.now in
    let risen = g.S.Source.faults c.next.new.source in
    let beats = g.M.Metronome.beats c.args.beats.now in
    let later_beats = g.M.Metronome.beats c.take.new.beats in
    let unspent : x.spent ≡ false = sym (ap (λ (u : Live). u.spent) seen) ∙ c.if-self.false in
    let came : Came x left now faults risen line reader = record {
      came = given.came;
      told = given.told;
      tells = subst (λ (u : Live). Tells line u.reader (u.reader.held ++ given.came) reader) seen given.holds;
      at_end = c.in_ok-line.ensures.none_left;
      failed = λ is. c.in_ok-line.ensures.failed (ap (λ (l : Line). Ok l) is);
      rises = c.in_ok-line.ensures.later;
    } in
    let takes : Takes line (listening x reader) c.take.new.self beats later_beats = subst (λ (u : Live). Takes line (listening u reader) c.take.new.self beats later_beats) seen c.in_ok-fed.ensures.takes in
    subst (λ (u : Live). Follows (hearing x left faults beats) (hearing (heard_out u) now risen later_beats)) (sym c.self-2.view_is)
    (inr (answer_on x left now faults risen beats later_beats line reader (c.requires, unspent) came c.take.new.self takes))
