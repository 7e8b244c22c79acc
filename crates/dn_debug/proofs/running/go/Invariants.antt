use Rattle.std.proofs.Common.{◌≡◌, List}
use Rattle.dn_model.specs.declared.feed.External.{External}
use Rattle.dn_model.specs.Network.{Network}
use Rattle.dn_debug.specs.Watching.{watched}
use Rattle.dn_debug.specs.Situations.{IsAt}
use Rattle.dn_debug.proofs.Goings.{IsGoing}
use Rattle.dn_debug.proofs.running.go.Given as goal

abbrev pub invariant-rows : goal.invariant-rows
invariant-rows g l = record {
  header : l.walk.engine.header ≡ l.fn.walk.engine.header;
  breaks : l.walk.breaks.items ≡ l.fn.walk.breaks.items;
  going : (net : Network _) (feed : List External) → net.guests ≡ g.G.Guest.meaning → IsAt net feed l.fn.walk.engine l.fn.walk.latest → IsGoing net feed l.fn.walk.breaks.items l.extent l.fn.walk.engine.place (watched g.P.Probe.watcher l.fn.walk.watching) l.routers l.fn.out l._row l.walk.engine (watched g.P.Probe.watcher l.walk.watching) l.walk.latest l.out;
}
