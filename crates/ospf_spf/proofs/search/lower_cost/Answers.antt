use Rattle.std.proofs.Common.{◌≡◌, Some, None, arith, get_or-set_same, get_or-set_other, sym, ◌∙◌, slice_set}
use Rattle.std.proofs.lemmas.Bool.{false_from_ne_true}
use Rattle.ospf_spf.specs.Search.{label, flag}
use Rattle.ospf_spf.proofs.Frontier.{exact_new, exact_lower}
use Rattle.ospf_spf.proofs.search.lower_cost.Goals as goal

pub returns-in_ok-insert-in-Some-clause-exact : goal.returns-in_ok-insert-in-Some-clause-exact
returns-in_ok-insert-in-Some-clause-exact c =
    let w = c.args.to in
    exact_lower (label c.args.best.now) (label (slice_set c.args.best.now w (Some c.args.new))) (flag c.args.done.now) c.args.todo.now c.remove.new.self c.insert.new.self w c.in-Some.old c.args.new c.requires.exact
    (false_from_ne_true _ (λ h. let s = c.requires.settled h in let e : Some c.in-Some.old ≡ Some s.0 = sym c.in-Some.is ∙ s.1 in let f : c.in-Some.old ≡ s.0 = cc in omega arith))
    c.in-Some.is
    (get_or-set_same c.args.best.now w (Some c.args.new) None c.requires.within)
    (λ v ne. get_or-set_other c.args.best.now w v (Some c.args.new) None ne)
    c.remove.ensures.updates
    c.in_ok-insert-in-Some.ensures.updates

pub returns-in_ok-insert-in-None-clause-exact : goal.returns-in_ok-insert-in-None-clause-exact
returns-in_ok-insert-in-None-clause-exact c =
    let w = c.args.to in
    exact_new (label c.args.best.now) (label (slice_set c.args.best.now w (Some c.args.new))) (flag c.args.done.now) c.args.todo.now c.insert-in-None.new.self w c.args.new c.requires.exact
    (false_from_ne_true _ (λ h. let s = c.requires.settled h in let e : None ≡ Some s.0 = sym c.in-None.is ∙ s.1 in cc))
    c.in-None.is
    (get_or-set_same c.args.best.now w (Some c.args.new) None c.requires.within)
    (λ v ne. get_or-set_other c.args.best.now w v (Some c.args.new) None ne)
    c.in_ok-insert-in-None.ensures.updates
