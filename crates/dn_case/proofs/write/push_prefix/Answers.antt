use Rattle.std.proofs.Common.{◌++◌, [], ℕ, ap, ◌∙◌, codes}
use Rattle.std.specs.Fmt.{decimal}
use Rattle.std.proofs.lemmas.Result.{on_ok_weaker}
use Rattle.dn_case.proofs.Texts.{prefix_text, three_joined}
use Rattle.dn_case.proofs.write.push_prefix.Goals as goal

pub returns-clause-ok : goal.returns-clause-ok
returns-clause-ok c =
    on_ok_weaker c.append_all-2.result
    (λ e.
    three_joined _ _ _ _ _ _ _ _ c.in_ok-append_all.ensures.ok c.in_ok-push_network.ensures.ok
    (e ∙ ap (λ (n : ℕ). c.push_network.new.out ++ (codes " " ++ (decimal n ++ (codes "\n" ++ [])))) c.from.ensures)
    (prefix_text c.args.name.now c.args.prefix.now))
    c.append_all-2.ensures.ok
