use Rattle.std.proofs.Common.{◌≡◌, take}
use Rattle.dn_model.proofs.feed.Feed.copy.Given as goal

abbrev pub invariant-loop-external : goal.invariant-loop-external
invariant-loop-external l = l.items.items ≡ take l.external-index l.self
