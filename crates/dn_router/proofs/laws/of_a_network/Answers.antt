use Rattle.dn_router.proofs.Network.{node_from_is, node_is, emits_is, sent_is}
use Rattle.dn_router.proofs.laws.of_a_network.Goals as goal

pub returns-clause-node : goal.returns-clause-node
returns-clause-node g c = λ net r history. node_is net r history

pub returns-clause-node_from : goal.returns-clause-node_from
returns-clause-node_from g c = λ net node history. node_from_is net node history

pub returns-clause-emits : goal.returns-clause-emits
returns-clause-emits g c = λ net r history e h. emits_is net r history e h

pub returns-clause-sent : goal.returns-clause-sent
returns-clause-sent g c = λ net r node history a. sent_is net r node history a
