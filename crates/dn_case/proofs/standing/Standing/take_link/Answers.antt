use Rattle.std.proofs.Common.{◌≡◌, false, nat_eq, sym, rules, arith}
use Rattle.std.specs.Cmp.Lexicographic.{pointwise}
use Rattle.dn_case.proofs.RouterLaws.{differ}
use Rattle.dn_case.proofs.standing.Standing.take_link.Goals as goal

pub push-requires-clause-differ : goal.push-requires-clause-differ
push-requires-clause-differ c =
    let apart : pointwise nat_eq c.args.a.now c.args.b.now ≡ false = search rules in
    differ c.args.self.now.routers c.args.a.now c.args.b.now c.in-Some.i c.in-Some-number_of.j (sym c.in-Some.ensures.found) (sym c.in-Some-number_of.ensures.found) apart

pub push-requires-clause-a_port : goal.push-requires-clause-a_port
push-requires-clause-a_port c = omega arith

pub returns-clause-read : goal.returns-clause-read
returns-clause-read c = grind arith
