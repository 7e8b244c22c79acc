use Rattle.std.proofs.Common.{List, ℕ, subst}
use Rattle.std.proofs.lemmas.Result.{err_from_is_err_and}
use Rattle.dn_top.specs.Promises.{IsCaseRefusal}
use Rattle.dn_top.proofs.Promising.{reading_refused, case_refused}
use Rattle.dn_top.proofs.input.read_given.Goals as goal

pub returns-in_err-input-clause-refusal : goal.returns-in_err-input-clause-refusal
returns-in_err-input-clause-refusal g c =
    let fact = reading_refused c.one_reading.ensures c.in_err-input.field-0.0 (g.S.Source.left c.args.source.now) (g.S.Source.left c.read_input.new.source) (g.S.Source.faults c.args.source.now) (g.S.Source.faults c.read_input.new.source) c.in_err-input.ensures.refusal c.in_err-input.ensures.too_long c.in_err-input.ensures.too_big c.in_err-input.ensures.not_too_big c.in_err-input.ensures.fault in
    let p = err_from_is_err_and c.from_residual.result c.from_residual.ensures.1 in
    rw (p.1, p.2) fact

pub returns-in-Err-clause-refusal : goal.returns-in-Err-clause-refusal
returns-in-Err-clause-refusal g c =
    case_refused c.one_reading.ensures c.in_ok-input.input.items c.in-Err.status (g.S.Source.left c.args.source.now) (g.S.Source.left c.read_input.new.source) (g.S.Source.faults c.args.source.now) (g.S.Source.faults c.read_input.new.source)
    (record { all = c.in_ok-input.ensures.all; none_left = c.in_ok-input.ensures.none_left; few = c.in_ok-input.ensures.few })
    (subst (λ (l : List ℕ). IsCaseRefusal l c.in-Err.status) c.as_slice.ensures.value c.in-Err.ensures.refusal)
