use Rattle.std.proofs.Common.{rules, sym, ◌∙◌}
use Rattle.dn_top.proofs.Showing.{cut_after, ends_after}
use Rattle.dn_top.proofs.shown.push_ends.Goals as goal

pub returns-then-is_cut : goal.returns-then-is_cut
returns-then-is_cut c =
    let after = cut_after c.args.case.now c.args.fabric.now c.args.out.now c.push_cut_line.new.out (sym c.is_cut.ensures.cut ∙ c.if-is_cut.true) c.requires.shows in
    search (rules, after)

pub returns : goal.returns
returns c =
    let after = ends_after c.args.case.now c.args.fabric.now c.args.routers.now c.args.out.now c.push_states.new.out c.push_row_count.new.out c.requires.same (sym c.is_cut.ensures.cut ∙ c.if-is_cut.false) c.requires.shows c.in_ok-push_states.ensures in
    search (rules, after)
