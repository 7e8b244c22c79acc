use Rattle.std.proofs.Common.{◌∙◌, sym}
use Rattle.dn_model.specs.Network.{sent}
use Rattle.dn_model.specs.Settled.{below}
use Rattle.dn_lists.proofs.Sorting.{count_is_sum}
use Rattle.dn_model.proofs.Committed.{is_same, message_was_sent}
use Rattle.dn_model.proofs.laws.messages_were_sent.Goals as goal

pub returns : goal.returns
returns g c =
    λ net feed bound f settled own e message is inside from.
    sym (count_is_sum (is_same e) (below bound (f e.router)))
    ∙ message_was_sent net feed bound f settled own e message is inside from
    ∙ count_is_sum (is_same e) (sent net e.key.origin (below bound (f e.key.origin)))
