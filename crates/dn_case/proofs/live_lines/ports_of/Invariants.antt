use Rattle.std.proofs.Common.{◌≡◌, ◌≤◌, ◌+◌, length}
use Rattle.dn_model.specs.Links.{ports_of}
use Rattle.dn_case.proofs.live_lines.ports_of.Given as goal

abbrev pub invariant-links : goal.invariant-links
invariant-links l = record {
  sum : l.count + ports_of l.left l.router ≡ ports_of l.links l.router;
  few : l.count + length l.left ≤ length l.links;
}

abbrev pub decreases-links : goal.decreases-links
decreases-links l = length l.left
