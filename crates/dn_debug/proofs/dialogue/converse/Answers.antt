use Rattle.std.proofs.Common.{List, ℕ, ◌++◌, append_assoc, refl, ◌∙◌, subst, arith}
use Rattle.dn_debug.specs.Situations.{situation_of}
use Rattle.dn_debug.specs.Conversing.{HasHeard, HasConversed}
use Rattle.dn_debug.proofs.Heard.{comes_on, heard_more, conversed_then, gives_none}
use Rattle.dn_debug.proofs.dialogue.converse.Goals as goal

pub turns-init : goal.turns-init
turns-init g c = record {
  is_open = c.requires;
  case = refl;
  heard = λ net feed same sits. (sits, gives_none net feed (situation_of g.P.Probe.watcher c.args.session.now) c.args.lines.now.room c.args.lines.now.held (g.S.Source.left c.args.source.now) (g.K.Sink.holds c.args.sink.now));
  read_later = omega arith;
  write_later = omega arith;
}

pub returns-in-Some-clause-conversed : goal.returns-in-Some-clause-conversed
returns-in-Some-clause-conversed g c =
    λ net feed same sits.
    let so = c.turns.invariant.heard net feed same sits in
    let W = g.P.Probe.watcher in
    let s = situation_of W c.args.session.now in
    let first = c.args.lines.now.held in
    comes_on so.1 (c.in-Some.ensures.turned net feed same so.0)
    (λ x y heard turns.
    subst (λ (bs : List ℕ). HasConversed net feed s c.args.lines.now.room bs (g.S.Source.left c.turn.new.source) c.in-Some.how (g.K.Sink.holds c.args.sink.now) (g.K.Sink.holds c.turn.new.sink)) (append_assoc first x y)
    (conversed_then net feed W s c.args.lines.now.room c.turns.session c.turn.new.session c.turns.lines c.turn.new.lines (first ++ x) y (g.S.Source.left c.turn.new.source) c.in-Some.how (g.K.Sink.holds c.args.sink.now) (g.K.Sink.holds c.turns.sink) (g.K.Sink.holds c.turn.new.sink) heard turns))

pub turns-preserved : goal.turns-preserved
turns-preserved g c = record {
  is_open = (c.turn.ensures.onward c.in_default.is).0;
  case = c.turn.ensures.case ∙ c.turns.invariant.case;
  heard = λ net feed same sits.
      let so = c.turns.invariant.heard net feed same sits in
      let W = g.P.Probe.watcher in
      let s = situation_of W c.args.session.now in
      let first = c.args.lines.now.held in
      let turned = rw c.in_default.is at c.turn.ensures.turned net feed same so.0 in (
        turned.holds.5.sits,
        comes_on so.1 turned
            (λ x y heard turns.
            subst (λ (bs : List ℕ). HasHeard net feed s c.args.lines.now.room bs c.turn.new.lines.held c.turn.new.lines.room (situation_of W c.turn.new.session) (g.K.Sink.holds c.args.sink.now) (g.K.Sink.holds c.turn.new.sink)) (append_assoc first x y)
            (heard_more net feed W s c.args.lines.now.room c.turns.session c.turn.new.session c.turns.lines c.turn.new.lines (first ++ x) y (g.S.Source.left c.turn.new.source) (g.K.Sink.holds c.args.sink.now) (g.K.Sink.holds c.turns.sink) (g.K.Sink.holds c.turn.new.sink) heard turns)),
      );
  read_later = omega (arith, c.turns.invariant.read_later, c.turn.ensures.read_later);
  write_later = omega (arith, c.turns.invariant.write_later, c.turn.ensures.write_later);
}
