use Rattle.dn_ckpt.proofs.Entries.{all_from}
use Rattle.dn_ckpt.proofs.ends.is_first_before.Goals as goal

pub returns-in-Some-clause-none : goal.returns-in-Some-clause-none
returns-in-Some-clause-none g c = λ l. all_from c.args.place c.in-Some.at.now c.args.kept.now.entries l c.in-Some.ensures.all_from
