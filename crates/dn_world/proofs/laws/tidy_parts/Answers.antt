use Rattle.std.proofs.Common.{arith}
use Rattle.dn_world.specs.World.{is_same}
use Rattle.dn_world.specs.Steps.{after}
use Rattle.dn_lists.proofs.Sorting.{count_is_sum}
use Rattle.dn_world.proofs.Tidy.{all_tidy, all_neat, step_neat, world_tidy, todo_by_one, void_by_one}
use Rattle.dn_world.proofs.Canonical.{tidy_same, todo_append}
use Rattle.dn_world.proofs.laws.tidy_parts.Goals as goal

pub returns-clause-step : goal.returns-clause-step
returns-clause-step g c = λ net w s a. all_tidy net (after net w s).parts (step_neat net w s (all_neat net w.parts a))

pub returns-clause-run : goal.returns-clause-run
returns-clause-run g c = λ net steps. world_tidy net steps

pub returns-clause-same : goal.returns-clause-same
returns-clause-same g c =
    λ p q s t done even.
    tidy_same p q s t done
    (λ e.
    let h = even e in
    let a = count_is_sum (is_same e) p.todo in
    let b = count_is_sum (is_same e) q.voids in
    let x = count_is_sum (is_same e) q.todo in
    let y = count_is_sum (is_same e) p.voids in
    omega (arith, h, a, b, x, y))

pub returns-clause-todo : goal.returns-clause-todo
returns-clause-todo g c = λ e p t. todo_by_one e p t

pub returns-clause-voids : goal.returns-clause-voids
returns-clause-voids g c = λ e p t. void_by_one e p t

pub returns-clause-one_by_one : goal.returns-clause-one_by_one
returns-clause-one_by_one g c = λ es fs p t. todo_append es fs p t
