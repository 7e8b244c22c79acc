use Rattle.std.proofs.Common.{◌≡◌, None, IfOk, rules}
use Rattle.dn_text.specs.Hexadecimals.{unhex}
use Rattle.dn_text.proofs.HexadecimalLaws.{spelled, spelled_ok}
use Rattle.dn_text.proofs.hexadecimals.unhex.Goals as goal

pub returns-then-is_empty-clause-spelled : goal.returns-then-is_empty-clause-spelled
returns-then-is_empty-clause-spelled c =
    let value : None ≡ unhex c.args.field.now = search rules in
    spelled c.args.field.now None value

pub returns-clause-spelled : goal.returns-clause-spelled
returns-clause-spelled c =
    let value : IfOk c.pairs.result (λ found. found ≡ unhex c.args.field.now) = search rules in
    spelled_ok c.pairs.result c.args.field.now value
