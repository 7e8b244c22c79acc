use Rattle.std.proofs.Common.{sym, ap, ◌∙◌, subst}
use Rattle.dn_ckpt.specs.Shelves.{HasBase, base_place, kept_at}
use Rattle.dn_ckpt.proofs.Entries.{base_is, none_up_to}
use Rattle.dn_ckpt.proofs.shelf.Shelf.entry_for.Goals as goal

pub returns-clause-place : goal.returns-clause-place
returns-clause-place g c =
    base_is c.args.place c.self.inside.kept.entries c.next_back.new.self (c.in-Some.at.now, c.in-Some.node.now) c.range.result c.range.ensures.ordered (c.range.ensures.between tt) c.in-Some.ensures.steps
    ∙ ap (base_place c.args.place) c.self.view_is

pub returns-clause-node : goal.returns-clause-node
returns-clause-node g c =
    ap (λ kept. kept_at kept c.in-Some.at.now) (sym c.self.view_is)
    ∙ ((c.range.ensures.in_range tt).3 (c.in-Some.at.now, c.in-Some.node.now) c.next_back.new.self c.in-Some.ensures.steps).1

pub unreachable-requires : goal.unreachable-requires
unreachable-requires g c =
    none_up_to c.args.place c.self.inside.kept.entries c.range.result (c.range.ensures.between tt) c.in-None.ensures.steps.0
    (subst (HasBase c.args.place) (sym c.self.view_is) c.requires)
