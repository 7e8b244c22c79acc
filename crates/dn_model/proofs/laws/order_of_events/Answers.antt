use Rattle.dn_model.proofs.EventOrder.{event_cmp_is, event_same, input_same, keys_rise}
use Rattle.dn_model.proofs.laws.order_of_events.Goals as goal

pub returns-clause-apart : goal.returns-clause-apart
returns-clause-apart c = λ x y h. event_same x y h

pub returns-clause-inputs_apart : goal.returns-clause-inputs_apart
returns-clause-inputs_apart c = λ x y h. input_same x y h

pub returns-clause-keys : goal.returns-clause-keys
returns-clause-keys c = λ x y h. keys_rise x y h

pub returns-clause-parts : goal.returns-clause-parts
returns-clause-parts c = λ x y. event_cmp_is x y
