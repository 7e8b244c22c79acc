use Rattle.std.proofs.Common.{◌≡◌, [], ◌∙◌, rules}
use Rattle.dn_workers.proofs.Gathering.{gathering_first, gathering_more, gathering_last, last_is}
use Rattle.dn_workers.proofs.seats.join_all.Goals as goal

pub loop-seat-init : goal.loop-seat-init
loop-seat-init g c = gathering_first c.args.seats.items c.args.first.now c.requires.free c.requires.first c.requires.feeds (c.requires.out ∙ c.args.seats.ok.0) c.requires.seats

pub loop-seat-preserved : goal.loop-seat-preserved
loop-seat-preserved g c =
    let k = c.loop-seat.invariant in
    let seat = c.in-Some.seat in
    let e = c.in-Some.ensures.items in
    let is = last_is c.args.seats.items c.loop-seat.seats.items c.pop.new.self.items c.args.first.now c.loop-seat.first seat k e in
    let joined = c.join_seat.ensures in
    gathering_more c.args.seats.items c.loop-seat.seats.items c.pop.new.self.items c.args.first.now c.loop-seat.first c.join_seat.new.into seat k e joined.joined joined.into_seen joined.ended_seen (joined.into_fed is.2 k.first.feeds)

pub returns-clause-seats : goal.returns-clause-seats
returns-clause-seats g c =
    let none : c.loop-seat.seats.items ≡ [] = search rules in
    (gathering_last c.args.seats.items c.loop-seat.seats.items c.args.first.now c.loop-seat.first c.loop-seat.invariant none).1
