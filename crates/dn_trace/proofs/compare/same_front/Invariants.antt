use Rattle.std.proofs.Common.{◌≡◌, ◌≤◌, length, take}
use Rattle.dn_trace.proofs.compare.same_front.Given as goal

abbrev pub invariant-loop-place : goal.invariant-loop-place
invariant-loop-place l = record {
  within : l.place ≤ length l.one;
  same : take l.place l.one ≡ take l.place l.other;
}
