use Rattle.std.proofs.Common.{◌<◌, length, ◌∙◌, rules}
use Rattle.dn_lockstep.proofs.Taking.{not_empty}
use Rattle.dn_lockstep.proofs.queue.EventQueue.is_empty.Goals as goal

pub returns-else-is_empty : goal.returns-else-is_empty
returns-else-is_empty c =
    let some : 0 < length c.self.inside.first.items = search rules in
    (λ h. search rules, λ none. not_empty c.self.inside.first.items c.self.inside.later _ some (c.self.view_is ∙ none))
