use Rattle.std.proofs.Common.{◌≡◌, length}
use Rattle.dn_ckpt.specs.Shelves.{kept_up_to}
use Rattle.dn_ckpt.proofs.ends.drop_past.Given as goal

abbrev pub invariant-loop-kept : goal.invariant-loop-kept
invariant-loop-kept g l = kept_up_to l.place l.kept.entries ≡ kept_up_to l.fn.place l.fn.kept.entries

abbrev pub decreases-loop-kept : goal.decreases-loop-kept
decreases-loop-kept g l = length l.kept.entries
