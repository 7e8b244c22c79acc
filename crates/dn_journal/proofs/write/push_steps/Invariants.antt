use Rattle.std.proofs.Common.{◌≡◌, ◌++◌, length}
use Rattle.std.specs.List.{flat_map, AllByRecursion}
use Rattle.dn_guest.specs.KeepsFront.{KeepsFront}
use Rattle.dn_journal.specs.Spelling.{IsOf, step_line}
use Rattle.dn_journal.proofs.write.push_steps.Given as goal

abbrev pub invariant-steps : goal.invariant-steps
invariant-steps l = record {
  text : l.out ++ flat_map (step_line l.header) l.left ≡ l.fn.out ++ flat_map (step_line l.header) l.steps;
  kept : KeepsFront l.fn.out l.out;
  all : AllByRecursion (IsOf l.header) l.left;
}

abbrev pub decreases-steps : goal.decreases-steps
decreases-steps l = length l.left
