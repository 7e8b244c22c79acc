use Rattle.dn_io.proofs.StreamLaws.{PutsFront-none, PutsFront-longer, PutsFront-after}
use Rattle.dn_io.proofs.laws.fronts.Goals as goal

pub returns-clause-nothing : goal.returns-clause-nothing
returns-clause-nothing c = PutsFront-none

pub returns-clause-longer : goal.returns-clause-longer
returns-clause-longer c = λ old now one two front. PutsFront-longer two front

pub returns-clause-both : goal.returns-clause-both
returns-clause-both c = λ old between now one two all front. PutsFront-after one all front
