use Rattle.std.proofs.Common.{◌≡◌, ◌++◌, ℕ, List, sym, ap, ◌∙◌}
use Rattle.dn_model.specs.Cases.{Recording}
use Rattle.dn_case.specs.Shapes.{End}
use Rattle.dn_case.specs.Spelling.{spelled, case_text}
use Rattle.dn_case.proofs.Texts.{text_is, header_joined, on_ok}
use Rattle.dn_case.proofs.write.write_case.Goals as goal

pub returns-clause-ok : goal.returns-clause-ok
returns-clause-ok c =
    let inside : Recording = record { header = c.case.inside.header; feed = c.case.inside.feed } in
    on_ok c.push_end_line.result _ _
    (λ (p : c.push_end_line.new.out ≡ c.push_feed.new.out ++ spelled End).
    header_joined _ _ _ _ _ _ _ _ _ c.in_ok-push_header.ensures.ok c.in_ok-push_feed_line.ensures.ok c.in_ok-push_feed.ensures.ok p
    ∙ ap (λ (t : List ℕ). c.args.out.now ++ t) (sym (text_is inside) ∙ ap case_text c.case.view_is))
    c.push_end_line.ensures.ok
