use Rattle.std.proofs.Common.{Some, codes}
use Rattle.std.proofs.lemmas.Bool.Decides.{Decides-eqb}
use Rattle.std.proofs.lemmas.Slice.Eq.{strip_prefix_is, strip_suffix_is}
use Rattle.dn_journal.proofs.StepLaws.{end_iff, same_option}
use Rattle.dn_journal.proofs.read.is_end.Goals as goal

pub returns-in-Some-strip_suffix : goal.returns-in-Some-strip_suffix
returns-in-Some-strip_suffix c =
    let prefix = strip_prefix_is Decides-eqb c.args.line.now (codes "end journal ") (Some c.in-Some.rest) c.in-Some.ensures.cases in
    let suffix = strip_suffix_is Decides-eqb c.in-Some.rest.now (codes "\n") (Some c.in-Some-strip_suffix.field) c.in-Some-strip_suffix.ensures.cases in
    let reads = c.decimal.ensures.spelled c.args.count c.ranges.count.fits in
    end_iff c.args.line.now c.in-Some.rest.now c.in-Some-strip_suffix.field.now c.args.count c.decimal.result c.eq.result prefix suffix reads (same_option c.decimal.result c.args.count c.eq.result c.eq.ensures)
