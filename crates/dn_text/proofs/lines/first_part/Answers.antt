use Rattle.std.proofs.Common.{◌+◌, ◌∷◌, List, ℕ, take, ap, sym, ◌∙◌, rules}
use Rattle.dn_text.specs.Lines.{parts}
use Rattle.dn_text.proofs.LineLaws.{rest_is, parts_here, parts_on, parts_end}
use Rattle.dn_text.proofs.lines.first_part.Goals as goal

pub returns-then-byte-separator : goal.returns-then-byte-separator
returns-then-byte-separator c =
    let rest = rest_is (c.loop-i.i + 1) c.args.text.now in
    parts_here c.args.separator c.args.text.now c.loop-i.i (search rules) (search rules) c.loop-i.invariant ∙ ap (λ (t : List ℕ). take c.loop-i.i c.args.text.now ∷ parts c.args.separator t) (sym rest)

pub loop-i-preserved : goal.loop-i-preserved
loop-i-preserved c = parts_on c.args.separator c.args.text.now c.loop-i.i (search rules) (search rules) c.loop-i.invariant

pub returns : goal.returns
returns c = parts_end c.args.separator c.args.text.now c.loop-i.i (search rules) c.loop-i.invariant
