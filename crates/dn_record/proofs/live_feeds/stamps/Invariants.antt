use Rattle.std.proofs.Common.{◌≡◌, false}
use Rattle.dn_record.proofs.live_feeds.stamps.Given as goal

abbrev pub invariant-feed : goal.invariant-feed
invariant-feed g l = g.F.Feeder.closed l.feeder ≡ false
