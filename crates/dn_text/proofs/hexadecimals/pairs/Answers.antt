use Rattle.std.proofs.Common.{◌≡◌, ◌++◌, ◌∷◌, [], List, ℕ, ap, ◌∙◌, rules, drop}
use Rattle.dn_text.specs.Hexadecimals.{pairs}
use Rattle.dn_text.proofs.LineLaws.{rest_is}
use Rattle.dn_text.proofs.HexadecimalLaws.{front, pairs_more, pairs_bad, pairs_end, pairs_odd}
use Rattle.dn_text.proofs.hexadecimals.pairs.Goals as goal

pub returns-in_default : goal.returns-in_default
returns-in_default c = pairs_bad c.pairs.bytes c.pairs.left.now (pairs c.args.field.now) (search rules) (search rules) c.pairs.invariant

pub pairs-preserved : goal.pairs-preserved
pairs-preserved c =
    let more = pairs_more c.pairs.bytes c.pairs.left.now c.in-Some.byte (pairs c.args.field.now) (search rules) (search rules) c.pairs.invariant in
    let rest = rest_is 2 c.pairs.left.now in
    let pushed : c.push.new.self ≡ c.pairs.bytes ++ c.in-Some.byte ∷ [] = search rules in
    ap (λ (t : List ℕ). front c.push.new.self (pairs t)) rest ∙ ap (λ (b : List ℕ). front b (pairs (drop 2 c.pairs.left.now))) pushed ∙ more

pub returns-then-is_empty : goal.returns-then-is_empty
returns-then-is_empty c = pairs_end c.pairs.bytes c.pairs.left.now (pairs c.args.field.now) (search rules) c.pairs.invariant

pub returns-else-is_empty : goal.returns-else-is_empty
returns-else-is_empty c = pairs_odd c.pairs.bytes c.pairs.left.now (pairs c.args.field.now) (search rules) (search rules) c.pairs.invariant
