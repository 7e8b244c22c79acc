use Rattle.std.proofs.Common.{◌≡◌, ◌+◌, ◌*◌, ◌≤◌, ◌^◌, take}
use Rattle.std.specs.Prelude.{sum}
use Rattle.ospf_wire.specs.Fletcher.{weighted}
use Rattle.ospf_wire.proofs.fletcher.with_bytes.Given as goal

abbrev pub invariant-loop-byte : goal.invariant-loop-byte
invariant-loop-byte l = record {
  plain : l.all.plain ≡ l.fn.sums.plain + sum (take l.byte-index l.bytes);
  weighted : l.all.weighted ≡ l.fn.sums.weighted + l.byte-index * l.fn.sums.plain + weighted (take l.byte-index l.bytes);
  plain_small : l.all.plain ≤ l.fn.sums.plain + 255 * l.byte-index;
  weighted_small : l.all.weighted ≤ l.fn.sums.weighted + 2 ^ 25 * l.byte-index;
}
