use Rattle.std.proofs.Common.{◌≡◌, map}
use Rattle.dn_lockstep.specs.Wirings.{all_ends}
use Rattle.dn_lockstep.proofs.wiring.Wiring.new.Given as goal

abbrev pub invariant-loop-router : goal.invariant-loop-router
invariant-loop-router l = map (λ v. v.items) l.all.items ≡ all_ends l.header.links l.router
