use Rattle.std.proofs.Common.{◌≡◌, true, sym, ap, ◌∙◌, inl, inr, ⊎_elim}
use Rattle.dn_world.specs.Logs.{fed, is_stopped}
use Rattle.dn_fabric.specs.Fabrics.{log_in}
use Rattle.dn_workers.specs.Feed.{EndsWithClose}
use Rattle.dn_workers.proofs.Feeds.{put_back_self, put_back_more, up_to_nothing, due_next, closed_by, fed_halted}
use Rattle.dn_workers.proofs.feeder.feed.Goals as goal

pub loop-init : goal.loop-init
loop-init g c = record {
  comes = g.met.F.Feeder.comes_from_itself c.args.feeder.now;
  runs = c.requires.open;
  put_back = put_back_self c.args.seat.now c.requires.free;
  up_to = up_to_nothing (g.F.Feeder.given c.args.feeder.now) c.args.seat.now.seen c.requires.unfed c.requires.given;
}

pub hold-requires-clause-due : goal.hold-requires-clause-due
hold-requires-clause-due g c κs within =
    let m = g.F.Feeder in let i = c.loop.invariant in let old = c.loop.feeder in let new = c.next-in-loop.new.self in let t = c.take-fabric in
    let same = g.met.F.Feeder.comes_with_header c.args.feeder.now old i.comes ∙ (c.requires.header ∙ sym i.put_back.same.header) in
    (m.given new, m.closed new, due_next c.loop.seat t.new.seat (log_in t.result) (m.header old) c.in-Ok.fed (m.given old) (m.given new) (m.closed new) t.ensures.holding same i.up_to c.in-Ok.ensures.ok)

pub returns-in_err-hold-in-Ok-clause-comes : goal.returns-in_err-hold-in-Ok-clause-comes
returns-in_err-hold-in-Ok-clause-comes g c = g.met.F.Feeder.comes_onward c.args.feeder.now c.loop.feeder c.next-in-loop.new.self c.loop.invariant.comes c.next-in-loop.ensures.comes

pub returns-in_err-hold-in-Ok-clause-same : goal.returns-in_err-hold-in-Ok-clause-same
returns-in_err-hold-in-Ok-clause-same g c = (put_back_more c.args.seat.now c.loop.seat c.take-fabric.new.seat c.hold.new.seat (log_in c.take-fabric.result) c.loop.invariant.put_back c.take-fabric.ensures.holding c.hold.ensures.put_back).same

pub returns-in_err-hold-in-Ok-clause-seen : goal.returns-in_err-hold-in-Ok-clause-seen
returns-in_err-hold-in-Ok-clause-seen g c = (put_back_more c.args.seat.now c.loop.seat c.take-fabric.new.seat c.hold.new.seat (log_in c.take-fabric.result) c.loop.invariant.put_back c.take-fabric.ensures.holding c.hold.ensures.put_back).seen

pub returns-in_err-hold-in-Ok-clause-fed : goal.returns-in_err-hold-in-Ok-clause-fed
returns-in_err-hold-in-Ok-clause-fed g c =
    let m = g.F.Feeder in let i = c.loop.invariant in let old = c.loop.feeder in let new = c.next-in-loop.new.self in let t = c.take-fabric in
    let same = g.met.F.Feeder.comes_with_header c.args.feeder.now old i.comes ∙ (c.requires.header ∙ sym i.put_back.same.header) in
    c.hold.ensures.fed (m.given new) (m.closed new) (due_next c.loop.seat t.new.seat (log_in t.result) (m.header old) c.in-Ok.fed (m.given old) (m.given new) (m.closed new) t.ensures.holding same i.up_to c.in-Ok.ensures.ok)

pub loop-preserved : goal.loop-preserved
loop-preserved g c =
    let m = g.F.Feeder in let i = c.loop.invariant in let old = c.loop.feeder in let new = c.next-in-loop.new.self in let t = c.take-fabric in
    let same = g.met.F.Feeder.comes_with_header c.args.feeder.now old i.comes ∙ (c.requires.header ∙ sym i.put_back.same.header) in
    let on = c.in_ok-hold-in-Ok.ensures.more c.in-GoesOn.is (m.given new) (m.closed new) (due_next c.loop.seat t.new.seat (log_in t.result) (m.header old) c.in-Ok.fed (m.given old) (m.given new) (m.closed new) t.ensures.holding same i.up_to c.in-Ok.ensures.ok) in
    record {
      comes = g.met.F.Feeder.comes_onward c.args.feeder.now old new i.comes c.next-in-loop.ensures.comes;
      runs = on.0;
      put_back = put_back_more c.args.seat.now c.loop.seat t.new.seat c.hold.new.seat (log_in t.result) i.put_back t.ensures.holding c.hold.ensures.put_back;
      up_to = on.1;
    }

pub returns-in-Over-clause-comes : goal.returns-in-Over-clause-comes
returns-in-Over-clause-comes g c = g.met.F.Feeder.comes_onward c.args.feeder.now c.loop.feeder c.next-in-loop.new.self c.loop.invariant.comes c.next-in-loop.ensures.comes

pub returns-in-Over-clause-same : goal.returns-in-Over-clause-same
returns-in-Over-clause-same g c = (put_back_more c.args.seat.now c.loop.seat c.take-fabric.new.seat c.hold.new.seat (log_in c.take-fabric.result) c.loop.invariant.put_back c.take-fabric.ensures.holding c.hold.ensures.put_back).same

pub returns-in-Over-clause-seen : goal.returns-in-Over-clause-seen
returns-in-Over-clause-seen g c = (put_back_more c.args.seat.now c.loop.seat c.take-fabric.new.seat c.hold.new.seat (log_in c.take-fabric.result) c.loop.invariant.put_back c.take-fabric.ensures.holding c.hold.ensures.put_back).seen

pub returns-in-Over-clause-fed : goal.returns-in-Over-clause-fed
returns-in-Over-clause-fed g c =
    let m = g.F.Feeder in let i = c.loop.invariant in let old = c.loop.feeder in let new = c.next-in-loop.new.self in let t = c.take-fabric in
    let same = g.met.F.Feeder.comes_with_header c.args.feeder.now old i.comes ∙ (c.requires.header ∙ sym i.put_back.same.header) in
    c.hold.ensures.fed (m.given new) (m.closed new) (due_next c.loop.seat t.new.seat (log_in t.result) (m.header old) c.in-Ok.fed (m.given old) (m.given new) (m.closed new) t.ensures.holding same i.up_to c.in-Ok.ensures.ok)

pub returns-in-Over-clause-ok : goal.returns-in-Over-clause-ok
returns-in-Over-clause-ok g c =
    let m = g.F.Feeder in let old = c.loop.feeder in let new = c.next-in-loop.new.self in let now = c.hold.new.seat.seen in
    ⊎_elim (λ (s : is_stopped now ≡ true). inl s)
    (λ (e : _ × EndsWithClose now). inr (closed_by (m.header old) (m.given old) (m.given new) c.in-Ok.fed (m.closed new) e.0 c.in-Ok.ensures.ok, e.1))
    (c.in_ok-hold-in-Ok.ensures.over c.in-Over.is)

pub returns-in-Err-clause-comes : goal.returns-in-Err-clause-comes
returns-in-Err-clause-comes g c = g.met.F.Feeder.comes_onward c.args.feeder.now c.loop.feeder c.next-in-loop.new.self c.loop.invariant.comes c.next-in-loop.ensures.comes

pub returns-in-Err-clause-same : goal.returns-in-Err-clause-same
returns-in-Err-clause-same g c = let t = c.take-fabric-in-Err in (put_back_more c.args.seat.now c.loop.seat t.new.seat c.halt.new.seat (log_in t.result) c.loop.invariant.put_back t.ensures.holding c.halt.ensures.put_back).same

pub returns-in-Err-clause-seen : goal.returns-in-Err-clause-seen
returns-in-Err-clause-seen g c = let t = c.take-fabric-in-Err in (put_back_more c.args.seat.now c.loop.seat t.new.seat c.halt.new.seat (log_in t.result) c.loop.invariant.put_back t.ensures.holding c.halt.ensures.put_back).seen

pub returns-in-Err-clause-fed : goal.returns-in-Err-clause-fed
returns-in-Err-clause-fed g c =
    let m = g.F.Feeder in let old = c.loop.feeder in let new = c.next-in-loop.new.self in let t = c.take-fabric-in-Err in
    fed_halted (m.given old) (m.given new) (m.closed new) c.loop.seat.seen c.halt.new.seat.seen c.in-Err.ensures.err.0 (c.halt.ensures.same_fed ∙ ap (λ s. fed s.seen) t.ensures.holding) c.loop.invariant.up_to
