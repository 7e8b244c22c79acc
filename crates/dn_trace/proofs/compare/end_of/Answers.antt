use Rattle.std.proofs.Common.{arith}
use Rattle.dn_trace.proofs.compare.end_of.Goals as goal

pub returns-then-at-section : goal.returns-then-at-section
returns-then-at-section c = grind arith

pub returns-in-Whole : goal.returns-in-Whole
returns-in-Whole c = grind arith

pub returns-in-Cut : goal.returns-in-Cut
returns-in-Cut c = grind arith
