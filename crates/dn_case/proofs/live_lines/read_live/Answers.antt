-- Each answer of a header that is seen as its fields, and then of the header.
use Rattle.std.proofs.Common.{◌≡◌, ℕ, true, false, Some, None, Ok, Err, sym, ◌∙◌, subst, rules}
use Rattle.dn_guest.specs.declared.input.Input.{Input}
use Rattle.dn_model.specs.Cases.{Heading}
use Rattle.dn_model.specs.Routers.{number_of}
use Rattle.dn_model.specs.Links.{ports_of}
use Rattle.dn_case.specs.declared.cause.Cause.TheVariants as cause
use Rattle.dn_case.specs.Shapes.{ask}
use Rattle.dn_case.specs.Standings.{ask_fits, lacks_port, input_of}
use Rattle.dn_case.specs.Takings.{with_external}
use Rattle.dn_case.specs.LiveLines.{behind_header, untimed, live_reading, IsLiveLine}
use Rattle.dn_case.proofs.LiveLaws.{bad_reading, no_live_line, taken_reading, fault_live_line, live_line_found, range_taken, name_taken, port_taken, live_taken}
use Rattle.dn_case.proofs.live_lines.read_live.Goals as goal

pub returns-in_default-clause-none : goal.returns-in_default-clause-none
returns-in_default-clause-none c =
    subst (λ (h : Heading). (router : ℕ) (input : Input) → ¬ IsLiveLine h router input c.args.line.now) c.header.view_is
    (no_live_line _ c.args.line.now c.header.invariant (sym c.in_default.ensures))

pub returns-in_default-clause-read : goal.returns-in_default-clause-read
returns-in_default-clause-read c = bad_reading c.args.header.now c.args.line.now (sym c.in_default.ensures)

pub returns-then-not-ask_fits-clause-none : goal.returns-then-not-ask_fits-clause-none
returns-then-not-ask_fits-clause-none c =
    let a = ask c.in-Some.asked in
    let fits : ask_fits a ≡ false = search rules in
    subst (λ (h : Heading). (router : ℕ) (input : Input) → ¬ IsLiveLine h router input c.args.line.now) c.header.view_is
    (fault_live_line _ c.args.line.now c.in-Some.name.now a cause.Range c.header.invariant (sym c.in-Some.ensures) (range_taken _ c.in-Some.name.now a c.header.invariant fits))

pub returns-then-not-ask_fits-clause-read : goal.returns-then-not-ask_fits-clause-read
returns-then-not-ask_fits-clause-read c =
    let a = ask c.in-Some.asked in
    let fits : ask_fits a ≡ false = search rules in
    subst (λ (h : Heading). live_reading h c.args.line.now ≡ Err cause.Range) c.header.view_is
    (taken_reading _ c.args.line.now c.in-Some.name.now a (sym c.in-Some.ensures) ∙ range_taken _ c.in-Some.name.now a c.header.invariant fits)

pub returns-in_default-number_of-clause-none : goal.returns-in_default-number_of-clause-none
returns-in_default-number_of-clause-none c =
    let a = ask c.in-Some.asked in
    let fits : ask_fits a ≡ true = search rules in
    let none : number_of c.header.inside.routers c.in-Some.name.now ≡ None = search rules in
    subst (λ (h : Heading). (router : ℕ) (input : Input) → ¬ IsLiveLine h router input c.args.line.now) c.header.view_is
    (fault_live_line _ c.args.line.now c.in-Some.name.now a cause.Name c.header.invariant (sym c.in-Some.ensures) (name_taken _ c.in-Some.name.now a c.header.invariant fits none))

pub returns-in_default-number_of-clause-read : goal.returns-in_default-number_of-clause-read
returns-in_default-number_of-clause-read c =
    let a = ask c.in-Some.asked in
    let fits : ask_fits a ≡ true = search rules in
    let none : number_of c.header.inside.routers c.in-Some.name.now ≡ None = search rules in
    subst (λ (h : Heading). live_reading h c.args.line.now ≡ Err cause.Name) c.header.view_is
    (taken_reading _ c.args.line.now c.in-Some.name.now a (sym c.in-Some.ensures) ∙ name_taken _ c.in-Some.name.now a c.header.invariant fits none)

pub returns-then-lacks_port-clause-none : goal.returns-then-lacks_port-clause-none
returns-then-lacks_port-clause-none c =
    let a = ask c.in-Some.asked in
    let i = c.in-Some-number_of.router in
    let fits : ask_fits a ≡ true = search rules in
    let is : number_of c.header.inside.routers c.in-Some.name.now ≡ Some i = search rules in
    let lacks : lacks_port (ports_of c.header.inside.links i) a ≡ true = search rules in
    subst (λ (h : Heading). (router : ℕ) (input : Input) → ¬ IsLiveLine h router input c.args.line.now) c.header.view_is
    (fault_live_line _ c.args.line.now c.in-Some.name.now a cause.Port c.header.invariant (sym c.in-Some.ensures) (port_taken _ c.in-Some.name.now a i c.header.invariant fits is lacks))

pub returns-then-lacks_port-clause-read : goal.returns-then-lacks_port-clause-read
returns-then-lacks_port-clause-read c =
    let a = ask c.in-Some.asked in
    let i = c.in-Some-number_of.router in
    let fits : ask_fits a ≡ true = search rules in
    let is : number_of c.header.inside.routers c.in-Some.name.now ≡ Some i = search rules in
    let lacks : lacks_port (ports_of c.header.inside.links i) a ≡ true = search rules in
    subst (λ (h : Heading). live_reading h c.args.line.now ≡ Err cause.Port) c.header.view_is
    (taken_reading _ c.args.line.now c.in-Some.name.now a (sym c.in-Some.ensures) ∙ port_taken _ c.in-Some.name.now a i c.header.invariant fits is lacks)

pub returns-clause-found : goal.returns-clause-found
returns-clause-found c =
    let a = ask c.in-Some.asked in
    let i = c.in-Some-number_of.router in
    let fits : ask_fits a ≡ true = search rules in
    let is : number_of c.header.inside.routers c.in-Some.name.now ≡ Some i = search rules in
    let has : lacks_port (ports_of c.header.inside.links i) a ≡ false = search rules in
    let input : c.in_ok-input_of.field-0 ≡ input_of a = search rules in
    subst (λ (h : Heading). IsLiveLine h i c.in_ok-input_of.field-0 c.args.line.now) c.header.view_is
    (rw input (live_line_found _ c.args.line.now c.in-Some.name.now a i (input_of a) c.header.invariant (sym c.in-Some.ensures) (live_taken _ c.in-Some.name.now a i c.header.invariant fits is has)))

pub returns-clause-read : goal.returns-clause-read
returns-clause-read c =
    let a = ask c.in-Some.asked in
    let i = c.in-Some-number_of.router in
    let fits : ask_fits a ≡ true = search rules in
    let is : number_of c.header.inside.routers c.in-Some.name.now ≡ Some i = search rules in
    let has : lacks_port (ports_of c.header.inside.links i) a ≡ false = search rules in
    let input : c.in_ok-input_of.field-0 ≡ input_of a = search rules in
    subst (λ (h : Heading). live_reading h c.args.line.now ≡ Ok (with_external (behind_header h) (untimed i c.in_ok-input_of.field-0))) c.header.view_is
    (rw input (taken_reading _ c.args.line.now c.in-Some.name.now a (sym c.in-Some.ensures) ∙ live_taken _ c.in-Some.name.now a i c.header.invariant fits is has))
