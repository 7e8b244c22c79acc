use Rattle.std.proofs.Common.{◌≡◌, ℕ, ◌+◌, ◌<◌, List, ◌++◌, length, append-nil, sym, ap, subst, ◌∙◌, arith, rules}
use Rattle.std.proofs.lemmas.List.{length-append}
use Rattle.std.specs.List.{Contains}
use Rattle.dn_io.specs.LineReading.{LineReading}
use Rattle.dn_io.proofs.LineReadingLaws.{newline_or_none, gives_so, gives_on, so_far_on, full_ahead, clean_on, over_ahead}
use Rattle.dn_io.proofs.line_reader.LineReader.gather.Goals as goal

pub returns-in_err-take_piece-clause-given : goal.returns-in_err-take_piece-clause-given
returns-in_err-take_piece-clause-given g c =
    gives_on c.loop-line.invariant.so_far c.in-Held.ensures.bytes.0 (λ x y so is. search rules)

pub returns-in-Ended-clause-given : goal.returns-in-Ended-clause-given
returns-in-Ended-clause-given g c =
    let first = c.args.self.now.held in
    let line = c.loop-line.line.items in
    let filled = c.refill.new.self in
    let moved = rw c.in-Ended.is at c.in_ok-take_piece.ensures in
    let so_far = gives_on c.loop-line.invariant.so_far c.in-Held.ensures.bytes.0 (λ x y so is. so_far_on first line c.loop-line.self.held filled.held x y so (ap (λ (r : LineReading). r.held) is)) in
    let is = c.in-Held.ensures.bytes.0.holds in
    let room : filled.room ≡ c.loop-line.self.room = ap (λ (r : LineReading). r.room) is in
    let long = length-append line moved.0 in
    gives_so so_far (λ x so. rw moved.2 (
      clean_on line moved.0 c.loop-line.invariant.clean moved.1,
      full_ahead first line filled.held x moved.0 c.take_piece.new.self.held so moved.3,
      omega (arith, c.loop-line.invariant.room, room, long, moved.4),
      moved.5 ∙ ap (λ (r : LineReading). r.is_open) is ∙ c.loop-line.invariant.is_open,
    ))

pub loop-line-preserved : goal.loop-line-preserved
loop-line-preserved g c =
    let first = c.args.self.now.held in
    let line = c.loop-line.line.items in
    let filled = c.refill.new.self in
    let inv = c.loop-line.invariant in
    let moved = rw c.in-Part.is at c.in_ok-take_piece.ensures in
    let so_far = gives_on inv.so_far c.in-Held.ensures.bytes.0 (λ x y so is. so_far_on first line c.loop-line.self.held filled.held x y so (ap (λ (r : LineReading). r.held) is)) in
    let is = c.in-Held.ensures.bytes.0.holds in
    let room : filled.room ≡ c.loop-line.self.room = ap (λ (r : LineReading). r.room) is in
    let long : length c.take_piece.new.line.items ≡ length line + length filled.held = ap (λ (t : List ℕ). length t) moved.1 ∙ length-append line filled.held in
    record {
      so_far = gives_so so_far (λ x so. rw (moved.1, moved.2) (so ∙ sym (append-nil (line ++ filled.held))));
      clean = rw moved.1 (clean_on line filled.held inv.clean moved.0);
      room = omega (arith, inv.room, room, long, moved.3);
      is_open = moved.4 ∙ ap (λ (r : LineReading). r.is_open) is ∙ inv.is_open;
      later = omega (arith, inv.later, c.in-Held.ensures.later);
      at_once = λ has. (
          let same = inv.at_once has in
          let there : Contains c.loop-line.self.held 10 = subst (λ (r : LineReading). Contains r.held 10) (sym same.1) has in
          let some : 0 < length c.loop-line.self.held = omega (arith, there.1) in
          let kept = c.in-Held.ensures.at_once some in
          newline_or_none filled.held moved.0 (subst (λ (r : LineReading). Contains r.held 10) (sym kept.1) there));
    }

pub returns-in-Over-clause-given : goal.returns-in-Over-clause-given
returns-in-Over-clause-given g c =
    let first = c.args.self.now.held in
    let line = c.loop-line.line.items in
    let filled = c.refill.new.self in
    let inv = c.loop-line.invariant in
    let moved = rw c.in-Over.is at c.in_ok-take_piece.ensures in
    let so_far = gives_on inv.so_far c.in-Held.ensures.bytes.0 (λ x y so is. so_far_on first line c.loop-line.self.held filled.held x y so (ap (λ (r : LineReading). r.held) is)) in
    let room : filled.room ≡ c.loop-line.self.room = ap (λ (r : LineReading). r.room) c.in-Held.ensures.bytes.0.holds in
    gives_so so_far (λ x so. over_ahead first line filled.held x c.args.self.now.room filled.room so (inv.room ∙ ap (λ (n : ℕ). length line + n) (sym room)) inv.clean moved.0 moved.1)
