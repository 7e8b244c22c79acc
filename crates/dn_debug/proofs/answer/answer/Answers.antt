use Rattle.std.proofs.Common.{◌≡◌, List, [], Some, None, sym, ap, ◌∙◌, subst}
use Rattle.dn_model.specs.declared.router.RouterDef.{RouterDef}
use Rattle.dn_model.specs.Cases.{Heading, AreRouters}
use Rattle.dn_command.specs.Commands.{command_of}
use Rattle.dn_debug.specs.Watching.{watched}
use Rattle.dn_debug.specs.Situations.{situation}
use Rattle.dn_debug.proofs.Replied.{unknown_replied, command_replied}
use Rattle.dn_debug.proofs.answer.answer.Goals as goal

pub returns-in_default-clause-replied : goal.returns-in_default-clause-replied
returns-in_default-clause-replied g c =
    λ net feed same is.
    let walk = c.args.walk.now in
    let defs : c.as_slice.result.now ≡ net.header.routers = c.as_slice.ensures ∙ (ap (λ (h : Heading). h.routers) c.header.view_is ∙ (ap (λ (h : Heading). h.routers) (sym c.requires) ∙ ap (λ (h : Heading). h.routers) is.stands.header)) in
    let none : command_of net.header.routers c.args.line.now ≡ None = ap (λ (ds : List RouterDef). command_of ds c.args.line.now) (sym defs) ∙ (sym c.in_ok-command.ensures ∙ c.in_default.is) in
    unknown_replied net feed (situation walk.engine.place walk.breaks.items (watched g.P.Probe.watcher walk.watching)) c.args.line.now walk.engine walk.latest c.args.out.now c.push_unknown.new.out is none c.in_ok-push_unknown.ensures

pub answer_command-requires-clause-asked : goal.answer_command-requires-clause-asked
answer_command-requires-clause-asked g c κs within =
    let same : c.as_slice.result.now ≡ c.args.header.now.routers = c.as_slice.ensures ∙ ap (λ (h : Heading). h.routers) c.header.view_is in
    let some : command_of c.args.header.now.routers c.args.line.now ≡ Some c.in-Some.command = ap (λ (ds : List RouterDef). command_of ds c.args.line.now) (sym same) ∙ (sym c.in_ok-command.ensures ∙ c.in-Some.is) in
    let rules : AreRouters [] c.args.header.now.routers = subst (λ (h : Heading). AreRouters [] h.routers) c.header.view_is c.header.invariant.routers in
    ((c.a_line_is_read_as_what_it_asks_for.ensures c.args.header.now.routers c.args.line.now c.in-Some.command rules).0 some).asked

pub returns-clause-replied : goal.returns-clause-replied
returns-clause-replied g c =
    λ net feed same is.
    let walk = c.args.walk.now in
    let now = c.answer_command.new.walk in
    let defs : c.as_slice.result.now ≡ net.header.routers = c.as_slice.ensures ∙ (ap (λ (h : Heading). h.routers) c.header.view_is ∙ (ap (λ (h : Heading). h.routers) (sym c.requires) ∙ ap (λ (h : Heading). h.routers) is.stands.header)) in
    let some : command_of net.header.routers c.args.line.now ≡ Some c.in-Some.command = ap (λ (ds : List RouterDef). command_of ds c.args.line.now) (sym defs) ∙ (sym c.in_ok-command.ensures ∙ c.in-Some.is) in
    command_replied net feed (situation walk.engine.place walk.breaks.items (watched g.P.Probe.watcher walk.watching)) c.args.line.now c.told_of-told.result c.in-Some.command now.engine now.latest (situation now.engine.place now.breaks.items (watched g.P.Probe.watcher now.watching)) c.args.out.now c.answer_command.new.out some c.told_of-told.ensures
    (c.in_ok-answer_command.ensures.answered net feed same is)
