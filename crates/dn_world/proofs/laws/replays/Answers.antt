use Rattle.std.proofs.Common.{◌≡◌}
use Rattle.dn_world.specs.Steps.{is_wrong}
use Rattle.dn_world.proofs.Parts.{all_since}
use Rattle.dn_world.proofs.Balance.{sent_append, sent_more}
use Rattle.dn_world.proofs.Uses.{state_append, state_more, done_in_two}
use Rattle.dn_world.proofs.laws.replays.Goals as goal

pub returns-clause-state : goal.returns-clause-state
returns-clause-state g c = λ net r xs ys. state_append net r xs ys

pub returns-clause-state_more : goal.returns-clause-state_more
returns-clause-state_more g c = λ net r xs e. state_more net r xs e

pub returns-clause-sent : goal.returns-clause-sent
returns-clause-sent g c = λ net r xs ys. sent_append net r xs ys

pub returns-clause-sent_more : goal.returns-clause-sent_more
returns-clause-sent_more g c = λ net r xs e. sent_more net r xs e

pub returns-clause-done : goal.returns-clause-done
returns-clause-done g c = λ net p. done_in_two net p

pub returns-clause-own : goal.returns-clause-own
returns-clause-own g c = λ net p r a. all_since (λ e. e.router ≡ r) (is_wrong p) p.done a
