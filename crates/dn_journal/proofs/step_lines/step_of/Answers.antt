use Rattle.std.proofs.Common.{sym}
use Rattle.dn_journal.proofs.StepLaws.{plain_finds, inject_found, inject_none}
use Rattle.dn_journal.proofs.step_lines.step_of.Goals as goal

pub returns-in_default : goal.returns-in_default
returns-in_default c = plain_finds c.args.known.now c.args.line.now c.whole_step.result c.requires (sym c.in_default.ensures) c.whole_step.ensures

pub returns-in-None : goal.returns-in-None
returns-in-None c = let k = rw c.in-None.is at c.in_ok-external.ensures in inject_none c.args.known.now c.args.line.now c.in-Some.external.now (sym c.in-Some.ensures) k

pub returns-in-Some-2 : goal.returns-in-Some-2
returns-in-Some-2 c = let k = rw c.in-Some-2.is at c.in_ok-external.ensures in inject_found c.args.known.now c.args.line.now c.in-Some.external.now c.in-Some-2.external (sym c.in-Some.ensures) k
