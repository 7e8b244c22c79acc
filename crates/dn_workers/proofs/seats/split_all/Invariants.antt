use Rattle.std.proofs.Common.{◌≡◌, length}
use Rattle.dn_workers.specs.Joined.{HasSplit, AreNew}
use Rattle.dn_workers.proofs.seats.split_all.Given as goal

abbrev pub invariant-loop : goal.invariant-loop
invariant-loop g l = record {
  first : HasSplit l.counter l.fn.first l.first;
  count : length l.seats.items ≡ l.counter;
  seats : AreNew l.counter l.fn.first l.seats.items;
}
