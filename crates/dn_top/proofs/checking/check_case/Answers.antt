use Rattle.std.proofs.Common.{ℕ, drop, arith, subst}
use Rattle.dn_trace.specs.Differing.{DiffersAt}
use Rattle.dn_top.specs.Promises.{IsOtherTrace, network_of, trace_of}
use Rattle.dn_top.proofs.Networks.{place_within, other_trace}
use Rattle.dn_top.proofs.checking.check_case.Goals as goal

-- src/checking.rt:69:56
pub overflow_add-result : goal.overflow_add-result
overflow_add-result c =
    let there : DiffersAt c.behind.result.now (trace_of c.args.case.now) c.in-Ok-Differs.place = c.in-Ok-Differs.ensures.differs (network_of c.args.case.now.header) c.in-Ok.ensures.run c.in-Ok-Differs.place (cc (c.in-Ok-Differs.field-0-is)) in
    let differs : DiffersAt (drop c.args.size c.args.input.now) (trace_of c.args.case.now) c.in-Ok-Differs.place = rw c.behind.ensures at there in
    let place = place_within c.args.input.now c.args.case.now c.args.size c.in-Ok-Differs.place c.requires.within differs in
    let small = c.requires.small in
    omega (arith, place, small)

-- src/checking.rt:53:1
pub returns-in-Ok-Differs-clause-differs : goal.returns-in-Ok-Differs-clause-differs
returns-in-Ok-Differs-clause-differs c place is =
    let there : DiffersAt c.behind.result.now (trace_of c.args.case.now) c.in-Ok-Differs.place = c.in-Ok-Differs.ensures.differs (network_of c.args.case.now.header) c.in-Ok.ensures.run c.in-Ok-Differs.place (cc (c.in-Ok-Differs.field-0-is)) in
    let differs : DiffersAt (drop c.args.size c.args.input.now) (trace_of c.args.case.now) c.in-Ok-Differs.place = rw c.behind.ensures at there in
    let other = other_trace c.args.input.now c.args.case.now c.args.size c.in-Ok-Differs.place differs in
    subst (λ (at : ℕ). IsOtherTrace c.args.input.now c.args.case.now c.args.size at) (cc is) other
