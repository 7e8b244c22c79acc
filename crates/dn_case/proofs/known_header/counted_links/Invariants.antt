use Rattle.std.proofs.Common.{◌≡◌, ◌++◌, length}
use Rattle.dn_model.specs.Cases.{AreLinks}
use Rattle.dn_case.proofs.known_header.counted_links.Given as goal

abbrev pub invariant-links : goal.invariant-links
invariant-links l = record {
  whole : l.counted ++ l.left ≡ l.links;
  are : AreLinks 64 l.counted l.left;
}

abbrev pub decreases-links : goal.decreases-links
decreases-links l = length l.left
