use Rattle.std.proofs.Common.{◌++◌, List, ℕ, ap, ◌∙◌, append_assoc}
use Rattle.std.proofs.lemmas.List.{append-nil}
use Rattle.std.proofs.lemmas.Result.{on_ok_weaker}
use Rattle.dn_net.specs.Texts.{address_text, network_text}
use Rattle.dn_net.proofs.texts.push_network.Goals as goal

pub returns-clause-ok : goal.returns-clause-ok
unfolding network_text address_text
returns-clause-ok c =
    on_ok_weaker c.append_all.result
    (λ e. e ∙ ap (λ (text : List ℕ). c.args.out.now ++ text) (rw (c.from.ensures, c.from-2.ensures, c.from-3.ensures, c.from-4.ensures, c.from-5.ensures) (simp (append_assoc, append-nil))))
    c.append_all.ensures.ok
