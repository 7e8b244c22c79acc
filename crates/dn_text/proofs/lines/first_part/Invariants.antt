use Rattle.std.proofs.Common.{◌≡◌, take, drop}
use Rattle.dn_text.specs.Lines.{parts}
use Rattle.dn_text.proofs.LineLaws.{onto}
use Rattle.dn_text.proofs.lines.first_part.Given as goal

abbrev pub invariant-loop-i : goal.invariant-loop-i
invariant-loop-i l = parts l.separator l.text ≡ onto (take l.i l.text) (parts l.separator (drop l.i l.text))
