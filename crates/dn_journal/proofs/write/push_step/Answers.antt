use Rattle.std.proofs.Common.{ℕ, List, subst, sym, codes, arith}
use Rattle.dn_guest.specs.KeepsFront.{KeepsFront}
use Rattle.dn_text.proofs.Kept.{keeps_then}
use Rattle.dn_journal.proofs.StepLaws.{from_outside}
use Rattle.dn_journal.proofs.TextLaws.{keeps_more}
use Rattle.dn_journal.proofs.write.push_step.Goals as goal

pub push_external-requires-clause-input : goal.push_external-requires-clause-input
push_external-requires-clause-input c =
    let is = rw c.in-Inject.is at c.requires in
    from_outside c.args.header.now c.in-Inject.external.router c.in-Inject.external.input is.2

pub returns-in_ok-append-in-Inject-clause-kept : goal.returns-in_ok-append-in-Inject-clause-kept
returns-in_ok-append-in-Inject-clause-kept c =
    let out = c.args.out.now in
    let word : KeepsFront out c.append-in-Inject.new.self = subst (λ (t : List ℕ). KeepsFront out t) (sym c.in_ok-append-in-Inject.ensures.ok) (keeps_more out (codes "inject ")) in
    keeps_then out c.append-in-Inject.new.self c.push_external.new.out word c.push_external.ensures.kept

pub returns-in-Close-clause-ok : goal.returns-in-Close-clause-ok
returns-in-Close-clause-ok c = grind arith
