use Rattle.std.proofs.Common.{take}
use Rattle.dn_io.specs.LineReading.{HasNoNewline}
use Rattle.dn_io.proofs.line_reader.newline_in.Given as goal

-- the bytes so far are no newlines
abbrev pub invariant-loop-i : goal.invariant-loop-i
invariant-loop-i l = HasNoNewline (take l.i l.text)
