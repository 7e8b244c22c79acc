use Rattle.std.proofs.Common.{◌≡◌, ◌∙◌, ◌<◌, true, sym, ap, subst, rules, length, drop}
use Rattle.std.specs.List.{AllByRecursion}
use Rattle.dn_model.specs.Settled.{IsPrefixOf}
use Rattle.dn_world.specs.Logs.{fed}
use Rattle.dn_fabric.specs.Fabrics.{log_in}
use Rattle.dn_turn.specs.Seat.{right_seat}
use Rattle.dn_workers.specs.Joined.{AreNew, IsWorkers, HasAllOf}
use Rattle.dn_workers.proofs.Going.{prefix_trans}
use Rattle.dn_workers.proofs.Whole.{taken, unfed, are_free, are_workers, some_worker, has_all, has_run}
use Rattle.dn_workers.proofs.threads.run_threads.Goals as goal

pub feed_and_work-requires-clause-unfed : goal.feed_and_work-requires-clause-unfed
feed_and_work-requires-clause-unfed g c κs within =
    ap (λ s. fed s.seen) (c.split_seat-feeder_seat.ensures.right ∙ ap (right_seat true) c.in_ok-turn.ensures) ∙ unfed c.args.fabric c.requires.opening

pub feed_and_work-requires-clause-seats : goal.feed_and_work-requires-clause-seats
feed_and_work-requires-clause-seats g c κs within =
    let first = c.split_seat-feeder_seat.new.seat in
    let was = c.as_mut_slice.result.now in
    let new : AreNew c.args.workers first was = subst (AreNew c.args.workers first) (sym c.as_mut_slice.ensures.value) c.in_ok-seats.ensures.seats in
    let count : length was ≡ c.args.workers = c.as_mut_slice.ensures.len ∙ c.in_ok-seats.ensures.count in
    let turn : first.turn ≡ c.in_ok-turn.turn = search rules in
    λ k d lt. let free = are_free first was c.args.workers k d (search rules) new (subst (λ n. k < n) count lt) in (free.0 ∙ turn, free.1)

pub join_all-requires-clause-seats : goal.join_all-requires-clause-seats
join_all-requires-clause-seats g c κs within =
    let first = c.split_seat-feeder_seat.new.seat in
    let was = c.as_mut_slice.result.now in
    let now = c.feed_and_work.new.seats in
    let new : AreNew c.args.workers first was = subst (AreNew c.args.workers first) (sym c.as_mut_slice.ensures.value) c.in_ok-seats.ensures.seats in
    let count : length was ≡ c.args.workers = c.as_mut_slice.ensures.len ∙ c.in_ok-seats.ensures.count in
    let same : length now ≡ length was = c.feed_and_work.auto.seats in
    let back = taken c.in_ok-seats.seats.len now (drop (length now) c.in_ok-seats.seats.items) (same ∙ c.as_mut_slice.ensures.len) in
    subst (AllByRecursion (IsWorkers c.join_seat.new.into)) (sym back)
    (are_workers g.G.Guest.meaning first c.join_seat.new.into was now c.args.workers same count new c.feed_and_work.ensures.worked (search rules))

-- the last seat's network is that of the seat from which the workers' seats were split off, and of the feeder's
same_header : (g : _) (c : goal.After-journal g) → c.join_all.new.first.header ≡ c.split_seat-feeder_seat.new.seat.header
same_header g c = search rules

same_opening : (g : _) (c : goal.After-journal g) → c.join_all.new.first.opening ≡ c.split_seat-feeder_seat.new.seat.opening
same_opening g c = search rules

last_has : (g : _) (c : goal.After-journal g) → HasAllOf c.join_all.new.first c.close-fabric.result
last_has g c = record { header = c.close-fabric.ensures.header.0; opening = c.close-fabric.ensures.header.1; running = search rules; seen = c.close-fabric.ensures.seen }

feeder_has : (g : _) (c : goal.After-journal g) → HasAllOf c.feed_and_work.new.seat c.close-fabric.result
feeder_has g c =
    let feeder = c.split_seat-feeder_seat.result in
    let same = c.feed_and_work.ensures.fed.same in
    let header : c.join_all.new.first.header ≡ feeder.header = same_header g c ∙ search rules in
    let opening : c.join_all.new.first.opening ≡ feeder.opening = same_opening g c ∙ search rules in
    has_all c.feed_and_work.new.seat c.join_all.new.first c.close-fabric.result (last_has g c) (header ∙ sym same.header) (opening ∙ sym same.opening)
    (prefix_trans c.feed_and_work.new.seat.seen c.join_seat.new.into.seen c.join_all.new.first.seen c.join_seat.ensures.ended_seen c.join_all.ensures.first.seen)

fed_by_feeder : (g : _) (c : goal.After-journal g) → fed (log_in c.close-fabric.result) ≡ fed c.feed_and_work.new.seat.seen
fed_by_feeder g c =
    let feeds : c.feed_and_work.new.seat.feeds ≡ true = c.feed_and_work.ensures.fed.same.feeds ∙ search rules in
    c.close-fabric.ensures.fed ∙ (c.join_all.ensures.first.same_fed ∙ c.join_seat.ensures.ended_fed feeds)

pub returns-clause-ok : goal.returns-clause-ok
returns-clause-ok g c =
    let m = g.G.Guest.meaning in
    let f = c.close-fabric.result in
    let first = c.split_seat-feeder_seat.new.seat in
    let feeder = c.split_seat-feeder_seat.result in
    let after = c.feed_and_work.new.seat in
    let last = c.join_all.new.first in
    let was = c.as_mut_slice.result.now in
    let now = c.feed_and_work.new.seats in
    let new : AreNew c.args.workers first was = subst (AreNew c.args.workers first) (sym c.as_mut_slice.ensures.value) c.in_ok-seats.ensures.seats in
    let count : length was ≡ c.args.workers = c.as_mut_slice.ensures.len ∙ c.in_ok-seats.ensures.count in
    let same : length now ≡ length was = c.feed_and_work.auto.seats in
    let back = taken c.in_ok-seats.seats.len now (drop (length now) c.in_ok-seats.seats.items) (same ∙ c.as_mut_slice.ensures.len) in
    let seen : AllByRecursion (λ seat. IsPrefixOf seat.seen last.seen) now = subst (AllByRecursion (λ seat. IsPrefixOf seat.seen last.seen)) back c.join_all.ensures.seats in
    let all = last_has g c in
    let worker = some_worker m first last was now c.args.workers f c.requires.some same count new c.feed_and_work.ensures.worked seen all (same_header g c) (same_opening g c) in
    let fed_all = c.feed_and_work.ensures.fed in
    let has = feeder_has g c in
    let fed_by = fed_by_feeder g c in
    let net = c.journal.ensures.network.0 in
    let is = c.journal.ensures.network.1 in
    let r = c.journal.ensures.reached net is all.running in
    let l = c.ended_runs.ensures in
    let given = g.F.Feeder.given c.feed_and_work.new.feeder in
    let closed = g.F.Feeder.closed c.feed_and_work.new.feeder in
    has_run m c.args.fabric f given (all.header ∙ (same_header g c ∙ search rules)) (all.opening ∙ (same_opening g c ∙ search rules)) all.running (λ net is. c.journal.ensures.reached net is all.running)
    (l.given f given closed feeder after has fed_all fed_by) (l.accepted net f r) (l.closed net f given closed feeder after r has fed_all fed_by)
    (l.over m net f worker.0 c.journal.ensures.rules is r worker.1 worker.2)

pub returns-clause-closed : goal.returns-clause-closed
returns-clause-closed g c = c.ended_runs.ensures.feeder c.close-fabric.result (g.F.Feeder.given c.feed_and_work.new.feeder) (g.F.Feeder.closed c.feed_and_work.new.feeder) c.split_seat-feeder_seat.result c.feed_and_work.new.seat (feeder_has g c) c.feed_and_work.ensures.fed
