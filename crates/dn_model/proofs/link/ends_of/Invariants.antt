use Rattle.std.proofs.Common.{◌≡◌, ◌++◌, drop}
use Rattle.dn_model.specs.Links.{ends}
use Rattle.dn_model.proofs.link.ends_of.Given as goal

abbrev pub invariant-loop-link : goal.invariant-loop-link
invariant-loop-link l = l.made.items ++ ends (drop l.link-index l.links) l.router ≡ ends l.links l.router
