use Rattle.std.proofs.Common.{◌∙◌, sym, rules}
use Rattle.dn_case.proofs.RouterLaws.{names_kept}
use Rattle.dn_case.proofs.known_routers.KnownRouters.push_prefix.Goals as goal

pub invariant_of-self-2 : goal.invariant_of-self-2
invariant_of-self-2 c =
    c.self.invariant ∙ sym (names_kept c.self.inside.items.items c.args.number c.index_mut.result.now c.push.new.self (search rules) (search rules))
