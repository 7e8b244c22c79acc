use Rattle.std.proofs.Common.{◌≡◌, ◌++◌, take}
use Rattle.dn_guest.specs.Hex.{hex}
use Rattle.dn_guest.proofs.hex.push_hex.Given as goal

abbrev pub invariant-loop-byte : goal.invariant-loop-byte
invariant-loop-byte l = l.out ≡ l.fn.out ++ hex (take l.byte-index l.bytes)
