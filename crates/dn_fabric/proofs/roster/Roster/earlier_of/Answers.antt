use Rattle.std.proofs.Common.{refl, sym, ap, ◌∙◌, subst}
use Rattle.std.specs.Prelude.{Some, if◌then◌else◌}
use Rattle.dn_fabric.specs.Rosters.{IsFound}
use Rattle.dn_fabric.specs.Work.{earlier_of}
use Rattle.dn_fabric.proofs.Errands.{found_none, found_first, found_either}
use Rattle.dn_fabric.proofs.roster.Roster.earlier_of.Goals as goal

pub returns-in-None-default : goal.returns-in-None-default
returns-in-None-default g c = λ o s found at.
    found_none c.args.self.now o c.args.found c.args.number s.part.todo (sym c.in-None-default.is-0 ∙ ap (λ d. d.least) (c.errand.ensures s at)) found

pub returns-in-Some-None : goal.returns-in-Some-None
returns-in-Some-None g c = λ o s found at.
    let rs = c.args.self.now in
    found_first rs o c.args.number s s.part.todo c.in-Some-None.field-0-0 at refl (sym c.in-Some-None.is-0 ∙ ap (λ d. d.least) (c.errand.ensures s at)) (subst (IsFound rs o) c.in-Some-None.is-1 found)

pub returns-then-is_earlier : goal.returns-then-is_earlier
returns-then-is_earlier g c = λ o s found at.
    let rs = c.args.self.now in
    let n = c.args.number in
    let other = c.in-Some-Some.other in
    subst (λ b. IsFound rs (earlier_of n s.part.todo o) (if b then Some n else Some other)) c.if-is_earlier.true
    (found_either rs o n other s s.part.todo c.in-Some-Some.key c.is_earlier.result at refl (sym c.in-Some-Some.is-0 ∙ ap (λ d. d.least) (c.errand.ensures s at)) c.is_earlier.ensures (subst (IsFound rs o) c.in-Some-Some.is-1 found))

pub returns-else-is_earlier : goal.returns-else-is_earlier
returns-else-is_earlier g c = λ o s found at.
    let rs = c.args.self.now in
    let n = c.args.number in
    let other = c.in-Some-Some.other in
    subst (λ b. IsFound rs (earlier_of n s.part.todo o) (if b then Some n else Some other)) c.if-is_earlier.false
    (found_either rs o n other s s.part.todo c.in-Some-Some.key c.is_earlier.result at refl (sym c.in-Some-Some.is-0 ∙ ap (λ d. d.least) (c.errand.ensures s at)) c.is_earlier.ensures (subst (IsFound rs o) c.in-Some-Some.is-1 found))
