use Rattle.std.proofs.Common.{ap, ◌∙◌}
use Rattle.dn_text.specs.Decimals.{within}
use Rattle.dn_text.proofs.DecimalLaws.{spelled}
use Rattle.dn_text.proofs.decimals.decimal.Goals as goal

pub returns-clause-spelled : goal.returns-clause-spelled
returns-clause-spelled c = spelled c.args.field.now c.within.result (c.within.ensures ∙ ap within c.numeral.ensures)
