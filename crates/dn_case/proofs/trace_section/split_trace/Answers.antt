use Rattle.std.proofs.Common.{◌≡◌, ◌+◌, false, length, ap, ◌∙◌, arith, rules}
use Rattle.dn_text.specs.Lines.{lines}
use Rattle.dn_case.specs.TraceSections.{closes}
use Rattle.dn_case.proofs.TraceSectionLaws.{close_len, close_later}
use Rattle.dn_case.proofs.trace_section.split_trace.Goals as goal

pub lines-preserved : goal.lines-preserved
lines-preserved c =
    let all = c.args.rest.now in
    let left = c.lines.left.now in
    let line = c.first_line-in-lines.result.0.now in
    let behind = c.first_line-in-lines.result.1.now in
    let open_ : closes line ≡ false = search rules in
    let more : close_len (lines left) ≡ length line + close_len (lines behind) =
    ap close_len c.first_line-in-lines.ensures.lines ∙ close_later line (lines behind) open_ in
    let sizes : length line + length behind ≡ length left = c.first_line-in-lines.ensures.sizes in
    record {
      same = omega (arith, more, sizes, c.lines.invariant.same, c.lines.invariant.shorter);
      shorter = omega (arith, sizes, c.lines.invariant.shorter);
    }

pub returns-then-closes : goal.returns-then-closes
returns-then-closes c = search rules
