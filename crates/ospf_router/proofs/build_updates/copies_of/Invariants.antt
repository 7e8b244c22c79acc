use Rattle.std.proofs.Common.{◌≡◌, take}
use Rattle.std.specs.List.{filter_map}
use Rattle.ospf_router.specs.BuildUpdates.{copy_of}
use Rattle.ospf_router.proofs.build_updates.copies_of.Given as goal

abbrev pub invariant-loop-key : goal.invariant-loop-key
invariant-loop-key l = l.copies.items ≡ filter_map (copy_of l.now l.db) (take l.key-index l.keys)
