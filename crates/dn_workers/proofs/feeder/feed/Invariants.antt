use Rattle.std.proofs.Common.{◌≡◌, false}
use Rattle.dn_workers.specs.Holds.{HasPutBack}
use Rattle.dn_workers.specs.Feed.{IsFedUpTo}
use Rattle.dn_workers.proofs.feeder.feed.Given as goal

abbrev pub invariant-loop : goal.invariant-loop
invariant-loop g l =
    record {
      comes : g.F.Feeder.comes l.fn.feeder l.feeder;
      runs : g.F.Feeder.closed l.feeder ≡ false;
      put_back : HasPutBack l.fn.seat l.seat;
      up_to : IsFedUpTo (g.F.Feeder.given l.feeder) l.seat.seen;
    }
