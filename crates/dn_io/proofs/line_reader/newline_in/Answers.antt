use Rattle.std.proofs.Common.{◌+◌, drop, rules}
use Rattle.std.proofs.lemmas.List.{length-take-le}
use Rattle.dn_io.proofs.LineReadingLaws.{cut_here, none_at_all}
use Rattle.dn_io.proofs.line_reader.newline_in.Goals as goal

pub returns-then-byte-eq10 : goal.returns-then-byte-eq10
returns-then-byte-eq10 c =
    let text = c.args.text.now in
    let i = c.loop-i.i in (
      c.loop-i.invariant,
      drop (i + 1) text,
      cut_here text i (search rules) (search rules),
      length-take-le i text (search rules),
    )

pub returns : goal.returns
returns c = none_at_all c.args.text.now c.loop-i.i (search rules) c.loop-i.invariant
