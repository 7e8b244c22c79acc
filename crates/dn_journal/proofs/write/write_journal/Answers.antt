use Rattle.std.proofs.Common.{◌≡◌, ◌++◌, ℕ, List, length, sym, subst, codes}
use Rattle.dn_guest.specs.KeepsFront.{KeepsFront}
use Rattle.dn_text.proofs.Kept.{keeps_then}
use Rattle.dn_case.proofs.Texts.{on_ok}
use Rattle.dn_journal.specs.Spelling.{end_line}
use Rattle.dn_journal.proofs.TextLaws.{keeps_more, written}
use Rattle.dn_journal.proofs.write.write_journal.Goals as goal

pub returns-clause-ok : goal.returns-clause-ok
returns-clause-ok c =
    on_ok c.push_end.result _ _
    (λ (p : c.push_end.new.out ≡ c.push_steps.new.out ++ end_line (length c.args.steps.now)). written c.args.header.now c.args.steps.now c.args.out.now _ _ _ c.in_ok-append.ensures.ok c.in_ok-push_steps.ensures.ok p)
    c.push_end.ensures.ok

pub returns-clause-kept : goal.returns-clause-kept
returns-clause-kept c =
    let out = c.args.out.now in
    let first : KeepsFront out c.append.new.self = subst (λ (t : List ℕ). KeepsFront out t) (sym c.in_ok-append.ensures.ok) (keeps_more out (codes "journal\n")) in
    let then = keeps_then out c.append.new.self c.push_steps.new.out first c.in_ok-push_steps.ensures.kept in
    keeps_then out c.push_steps.new.out c.push_end.new.out then c.push_end.ensures.kept
