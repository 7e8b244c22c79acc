use Rattle.std.proofs.Common.{◌≡◌, ◌-◌, ◌++◌, length, take, ap, ◌∙◌, arith}
use Rattle.dn_fabric.proofs.Commits.{cut_shown, all_shown}
use Rattle.dn_fabric.proofs.committing.add_rows.Goals as goal
use Rattle.dn_fabric.proofs.committing.add_rows.Goals.{then-more, else-more}

pub returns-clause-rows : goal.returns-clause-rows
returns-clause-rows c =
    let rows = c.args.rows.now.items in
    let fresh = c.args.fresh.items in
    let limit = c.args.limit in
    let a = c.in_ok-append.ensures.items in
    let many = c.args.rows.now.ok.0 in
    let more = c.args.fresh.ok.0 in
    let n : c.len.result ≡ length rows = omega (arith, many, c.len.ensures) in
    let m : c.len-2.result ≡ length fresh = omega (arith, more, c.len-2.ensures) in
    elim c.if-more.branch [
      | then-more w ↦ a ∙ ap (λ v. rows ++ v.items) w.shown-is ∙ ap (λ l. rows ++ l) w.truncate.ensures.items ∙ ap (λ k. rows ++ take (limit - k) fresh) n ∙ cut_shown limit rows fresh c.requires
      | else-more w ↦ a ∙ ap (λ v. rows ++ v.items) w.shown-is ∙ all_shown limit rows fresh (omega (arith, n, m, c.requires, w.if-more.false))
    ]
