use Rattle.std.proofs.Common.{◌+◌, ◌∷◌, List, ℕ, take, ap, sym, ◌∙◌, rules}
use Rattle.dn_text.specs.Lines.{lines}
use Rattle.dn_text.proofs.LineLaws.{rest_is, lines_here, lines_on, lines_end}
use Rattle.dn_text.proofs.lines.first_line.Goals as goal

pub returns-then-byte-eq10-clause-lines : goal.returns-then-byte-eq10-clause-lines
returns-then-byte-eq10-clause-lines c =
    let rest = rest_is (c.loop-i.i + 1) c.args.text.now in
    lines_here c.args.text.now c.loop-i.i (search rules) (search rules) c.loop-i.invariant ∙ ap (λ (t : List ℕ). take (c.loop-i.i + 1) c.args.text.now ∷ lines t) (sym rest)

pub loop-i-preserved : goal.loop-i-preserved
loop-i-preserved c = lines_on c.args.text.now c.loop-i.i (search rules) (search rules) c.loop-i.invariant

pub returns-clause-lines : goal.returns-clause-lines
returns-clause-lines c = lines_end c.args.text.now c.loop-i.i c.requires (search rules) c.loop-i.invariant
