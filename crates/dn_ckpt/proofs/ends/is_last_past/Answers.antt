use Rattle.dn_ckpt.proofs.Entries.{all_up_to}
use Rattle.dn_ckpt.proofs.ends.is_last_past.Goals as goal

pub returns-in-Some-clause-none : goal.returns-in-Some-clause-none
returns-in-Some-clause-none g c = λ l. all_up_to c.args.place c.in-Some.at.now c.args.kept.now.entries l c.in-Some.ensures.all_up_to
