use Rattle.std.proofs.Common.{◌≡◌, take, drop}
use Rattle.dn_text.specs.Lines.{lines}
use Rattle.dn_text.proofs.LineLaws.{onto}
use Rattle.dn_text.proofs.lines.first_line.Given as goal

abbrev pub invariant-loop-i : goal.invariant-loop-i
invariant-loop-i l = lines l.text ≡ onto (take l.i l.text) (lines (drop l.i l.text))
