use Rattle.std.proofs.Common.{rules, ◌≤◌, ℕ, length, arith}
use Rattle.dn_model.specs.Links.{ends}
use Rattle.dn_model.specs.Cases.{Heading, IsHeading}
use Rattle.dn_model.proofs.Ports.{ends_length, ports_few}
use Rattle.dn_model.proofs.emission.ends.Goals as goal

few_ends : (h : Heading) → IsHeading h → (r : ℕ) → length (ends h.links r) ≤ 16
few_ends h is r = omega (arith, ends_length h.links r, ports_few h is r)

pub returns-clause-few : goal.returns-clause-few
returns-clause-few c =
    let is : IsHeading c.args.header.now = rw c.header.view_is at c.header.invariant in
    let few : length (ends c.args.header.now.links c.args.router) ≤ 16 = few_ends c.args.header.now is c.args.router in
    search (rules, few)
