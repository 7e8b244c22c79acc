use Rattle.std.proofs.Common.{◌≡◌, Some, None, sym, ap, ◌∙◌, subst}
use Rattle.dn_model.specs.declared.feed.External.{External as ExternalDef}
use Rattle.dn_model.specs.Cases.{Heading}
use Rattle.dn_case.specs.declared.shape.Shape.{Shape}
use Rattle.dn_case.specs.Shapes.{line, ask, line_of, External}
use Rattle.dn_case.specs.Externals.{IsExternalLine}
use Rattle.dn_case.proofs.ExternalLines.{external_found, no_line_read, other_line_read, other_shape, fault_read}
use Rattle.dn_case.proofs.known_header.KnownHeader.external.Goals as goal

pub returns-in_default : goal.returns-in_default
returns-in_default c =
    let s = c.self.inside.standing in
    let none : line_of c.args.line.now ≡ None = sym c.in_default.ensures.read in
    subst (λ (h : Heading). (x : ExternalDef) → ¬ IsExternalLine h x c.args.line.now) c.self.view_is (no_line_read s c.args.line.now c.self.invariant.0 c.self.invariant.1 none)

pub returns-in_default-shape : goal.returns-in_default-shape
returns-in_default-shape c =
    let s = c.self.inside.standing in
    let is : line_of c.args.line.now ≡ Some (line c.in-Some.shape) = sym c.in-Some.ensures.read in
    subst (λ (h : Heading). (x : ExternalDef) → ¬ IsExternalLine h x c.args.line.now) c.self.view_is
    (other_line_read s c.args.line.now (line c.in-Some.shape) c.self.invariant.0 c.self.invariant.1 is (other_shape c.in-Some.shape c.in_default-shape.not-External))

pub returns-in-Ok : goal.returns-in-Ok
returns-in-Ok c =
    let s = c.self.inside.standing in
    let is : line_of c.args.line.now ≡ Some (External c.in-External.group c.in-External.name.now (ask c.in-External.asked)) = sym c.in-Some.ensures.read ∙ ap (λ (x : Shape). Some (line x)) c.in-External.is in
    subst (λ (h : Heading). IsExternalLine h c.in-Ok.external c.args.line.now) c.self.view_is
    (external_found s c.in-Ok.external c.args.line.now _ _ _ c.self.invariant.0 c.self.invariant.1 is c.in-Ok.ensures)

pub returns-in-Err-Bad : goal.returns-in-Err-Bad
returns-in-Err-Bad c =
    let s = c.self.inside.standing in
    let is : line_of c.args.line.now ≡ Some (External c.in-External.group c.in-External.name.now (ask c.in-External.asked)) = sym c.in-Some.ensures.read ∙ ap (λ (x : Shape). Some (line x)) c.in-External.is in
    let fails = rw c.in-Err-Bad.field-0-is at c.in-Err-Bad.ensures in
    subst (λ (h : Heading). (x : ExternalDef) → ¬ IsExternalLine h x c.args.line.now) c.self.view_is
    (fault_read s c.args.line.now _ _ _ c.in-Err-Bad.field-0-0 c.self.invariant.0 c.self.invariant.1 is fails)
