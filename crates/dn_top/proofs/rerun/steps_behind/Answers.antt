use Rattle.std.proofs.Common.{ℕ, List, length, ap, ◌∙◌, arith}
use Rattle.std.proofs.lemmas.List.{length-drop}
use Rattle.dn_text.specs.Lines.{lines}
use Rattle.dn_journal.specs.Reading.{IsFirstBad}
use Rattle.dn_top.proofs.Places.{take_short, lines_few}
use Rattle.dn_top.proofs.rerun.steps_behind.Goals as goal

pub in_the_input-requires : goal.in_the_input-requires
in_the_input-requires c =
    let place = c.journal_place-place.result in
    let input = c.args.input.now in
    let front = ap (λ (l : List ℕ). length l) c.front.ensures in
    let short = take_short place input in
    let first : IsFirstBad c.args.header.now (lines c.behind.result.now) c.in-Err-Fault.fault.line = rw (c.in-Err-Fault.is, c.in-Err-Fault.field-0-is) at c.read_journal.ensures.fault in
    let counted = first.counted.1 in
    let few = lines_few c.behind.result.now in
    let part = ap (λ (l : List ℕ). length l) c.behind.ensures ∙ length-drop place input in
    let small = c.requires.small in
    omega (arith, front, short, counted, few, part, small)
