use Rattle.std.proofs.Common.{sym, subst}
use Rattle.dn_model.specs.Cases.{Recording}
use Rattle.dn_case.specs.Reading.{IsCaseFront}
use Rattle.dn_case.proofs.Judging.{is_found, is_fault, has_none, meets_rules}
use Rattle.dn_case.proofs.read.read_case.Goals as goal

pub case_of-requires : goal.case_of-requires
case_of-requires c = meets_rules c.args.text.now c.in-Ok.standing c.in-Ok.size c.in-Ok.ensures.reading

pub returns-in-Ok-clause-found : goal.returns-in-Ok-clause-found
returns-in-Ok-clause-found c =
    let found = is_found c.args.text.now c.in-Ok.standing c.in-Ok.size c.in-Ok.ensures.reading in
    subst (λ (case : Recording). IsCaseFront c.args.text.now case c.in-Ok.size) (sym c.case_of.ensures) found

pub returns-in-Err-clause-fault : goal.returns-in-Err-clause-fault
returns-in-Err-clause-fault c = is_fault c.args.text.now c.in-Err.error c.in-Err.ensures.reading

pub returns-in-Err-clause-none : goal.returns-in-Err-clause-none
returns-in-Err-clause-none c = has_none c.args.text.now c.in-Err.error c.in-Err.ensures.reading
