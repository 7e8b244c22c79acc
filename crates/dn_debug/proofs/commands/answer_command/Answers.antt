use Rattle.std.proofs.Common.{◌≡◌, ℕ, List, ◌++◌, true, false, Some, None, refl, sym, ap, ◌∙◌, subst}
use Rattle.dn_model.specs.Cases.{Heading}
use Rattle.dn_model.specs.Settled.{row_limit}
use Rattle.dn_command.specs.declared.command.Command.TheVariants as command
use Rattle.dn_debug.specs.Watching.{watched}
use Rattle.dn_debug.specs.Lines.{place_line}
use Rattle.dn_debug.specs.Situations.{situation}
use Rattle.dn_debug.specs.Replying.{HasWatched, HasUnwatched}
use Rattle.dn_debug.proofs.Answered.{as_asked, ran_answered, break_answered, watch_answered, unwatch_answered, show_answered, queue_answered, where_answered, last_answered, quit_answered}
use Rattle.dn_debug.proofs.commands.answer_command.Goals as goal

pub returns-in_ok-advance-in-Step-clause-answered :
    goal.returns-in_ok-advance-in-Step-clause-answered
returns-in_ok-advance-in-Step-clause-answered g c =
    λ net feed same is.
    let walk = c.args.walk.now in
    let now = c.advance.new.walk in
    let old = watched g.P.Probe.watcher walk.watching in
    let new = watched g.P.Probe.watcher now.watching in
    as_asked net feed (situation walk.engine.place walk.breaks.items old) now.engine now.latest (situation now.engine.place now.breaks.items new) c.args.out.now c.advance.new.out c.args.command (command.Step c.in-Step.most) c.in-Step.is
    (ran_answered net feed walk.breaks.items now.breaks.items (record { most = c.in-Step.most; group = None; each = true }) walk.engine.place old now.engine new now.latest c.args.out.now c.advance.new.out (command.Step c.in-Step.most) refl c.in_ok-advance-in-Step.ensures.breaks (c.in_ok-advance-in-Step.ensures.gone net feed same is))

pub returns-in_ok-advance-in-Run-clause-answered :
    goal.returns-in_ok-advance-in-Run-clause-answered
unfolding row_limit
returns-in_ok-advance-in-Run-clause-answered g c =
    λ net feed same is.
    let walk = c.args.walk.now in
    let now = c.advance-in-Run.new.walk in
    let old = watched g.P.Probe.watcher walk.watching in
    let new = watched g.P.Probe.watcher now.watching in
    as_asked net feed (situation walk.engine.place walk.breaks.items old) now.engine now.latest (situation now.engine.place now.breaks.items new) c.args.out.now c.advance-in-Run.new.out c.args.command command.Run c.in-Run.is
    (ran_answered net feed walk.breaks.items now.breaks.items (record { most = 200001; group = None; each = false }) walk.engine.place old now.engine new now.latest c.args.out.now c.advance-in-Run.new.out command.Run refl c.in_ok-advance-in-Run.ensures.breaks (c.in_ok-advance-in-Run.ensures.gone net feed same is))

pub returns-in_ok-advance-in-Until-clause-answered :
    goal.returns-in_ok-advance-in-Until-clause-answered
unfolding row_limit
returns-in_ok-advance-in-Until-clause-answered g c =
    λ net feed same is.
    let walk = c.args.walk.now in
    let now = c.advance-in-Until.new.walk in
    let old = watched g.P.Probe.watcher walk.watching in
    let new = watched g.P.Probe.watcher now.watching in
    as_asked net feed (situation walk.engine.place walk.breaks.items old) now.engine now.latest (situation now.engine.place now.breaks.items new) c.args.out.now c.advance-in-Until.new.out c.args.command (command.Until c.in-Until.group) c.in-Until.is
    (ran_answered net feed walk.breaks.items now.breaks.items (record { most = 200001; group = Some c.in-Until.group; each = false }) walk.engine.place old now.engine new now.latest c.args.out.now c.advance-in-Until.new.out (command.Until c.in-Until.group) refl c.in_ok-advance-in-Until.ensures.breaks (c.in_ok-advance-in-Until.ensures.gone net feed same is))

pub returns-in_ok-set_break-in-Break-clause-answered :
    goal.returns-in_ok-set_break-in-Break-clause-answered
returns-in_ok-set_break-in-Break-clause-answered g c =
    λ net feed same is.
    let walk = c.args.walk.now in
    let old = watched g.P.Probe.watcher walk.watching in
    as_asked net feed (situation walk.engine.place walk.breaks.items old) walk.engine walk.latest (situation walk.engine.place c.set_break.new.breaks.items old) c.args.out.now c.set_break.new.out c.args.command (command.Break c.in-Break.stop) c.in-Break.is
    (break_answered net feed walk.engine.place walk.breaks.items old walk.engine walk.latest c.args.out.now is c.in-Break.stop c.set_break.new.breaks.items c.set_break.new.out c.in_ok-set_break-in-Break.ensures.breaks c.in_ok-set_break-in-Break.ensures.text)

pub returns-in_ok-watch-in-Watch-clause-answered :
    goal.returns-in_ok-watch-in-Watch-clause-answered
returns-in_ok-watch-in-Watch-clause-answered g c =
    λ net feed same is.
    let walk = c.args.walk.now in
    let old = watched g.P.Probe.watcher walk.watching in
    let new = watched g.P.Probe.watcher c.watch.new.watching in
    let header : c.args.header.now ≡ net.header = sym c.requires.same ∙ is.stands.header in
    as_asked net feed (situation walk.engine.place walk.breaks.items old) walk.engine walk.latest (situation walk.engine.place walk.breaks.items new) c.args.out.now c.watch.new.out c.args.command (command.Watch c.in-Watch.name) c.in-Watch.is
    (watch_answered net feed walk.engine.place walk.breaks.items old walk.engine walk.latest c.args.out.now is c.args.header.now c.in-Watch.name new c.watch.new.out header
    (subst (λ (name : List ℕ). HasWatched c.args.header.now name old new c.args.out.now c.watch.new.out) c.as_slice.ensures c.in_ok-watch-in-Watch.ensures))

pub returns-in_ok-unwatch-in-Unwatch-clause-answered :
    goal.returns-in_ok-unwatch-in-Unwatch-clause-answered
returns-in_ok-unwatch-in-Unwatch-clause-answered g c =
    λ net feed same is.
    let walk = c.args.walk.now in
    let old = watched g.P.Probe.watcher walk.watching in
    let new = watched g.P.Probe.watcher c.unwatch.new.watching in
    as_asked net feed (situation walk.engine.place walk.breaks.items old) walk.engine walk.latest (situation walk.engine.place walk.breaks.items new) c.args.out.now c.unwatch.new.out c.args.command (command.Unwatch c.in-Unwatch.name) c.in-Unwatch.is
    (unwatch_answered net feed walk.engine.place walk.breaks.items old walk.engine walk.latest c.args.out.now is c.in-Unwatch.name new c.unwatch.new.out
    (subst (λ (name : List ℕ). HasUnwatched name old new c.args.out.now c.unwatch.new.out) c.as_slice-in-Unwatch.ensures c.in_ok-unwatch-in-Unwatch.ensures))

pub returns-in_ok-show-in-Show-clause-answered : goal.returns-in_ok-show-in-Show-clause-answered
returns-in_ok-show-in-Show-clause-answered g c =
    λ net feed same is.
    let walk = c.args.walk.now in
    let old = watched g.P.Probe.watcher walk.watching in
    let header : c.args.header.now ≡ net.header = sym c.requires.same ∙ is.stands.header in
    let defs : c.as_slice-routers.result.now ≡ net.header.routers = c.as_slice-routers.ensures ∙ (ap (λ (h : Heading). h.routers) c.header.view_is ∙ ap (λ (h : Heading). h.routers) header) in
    as_asked net feed (situation walk.engine.place walk.breaks.items old) walk.engine walk.latest (situation walk.engine.place walk.breaks.items old) c.args.out.now c.show.new.out c.args.command (command.Show c.in-Show.router) c.in-Show.is
    (show_answered net feed walk.engine.place walk.breaks.items old walk.engine walk.latest c.args.out.now is c.in-Show.router g.G.Guest.meaning c.as_slice-routers.result.now c.show.new.out same defs (c.in_ok-show-in-Show.ensures net feed is.stands))

pub returns-in_ok-queue-in-Queue-clause-answered : goal.returns-in_ok-queue-in-Queue-clause-answered
returns-in_ok-queue-in-Queue-clause-answered g c =
    λ net feed same is.
    let walk = c.args.walk.now in
    let old = watched g.P.Probe.watcher walk.watching in
    let header : c.args.header.now ≡ net.header = sym c.requires.same ∙ is.stands.header in
    let defs : c.as_slice-routers.result.now ≡ net.header.routers = c.as_slice-routers.ensures ∙ (ap (λ (h : Heading). h.routers) c.header.view_is ∙ ap (λ (h : Heading). h.routers) header) in
    as_asked net feed (situation walk.engine.place walk.breaks.items old) walk.engine walk.latest (situation walk.engine.place walk.breaks.items old) c.args.out.now c.queue.new.out c.args.command (command.Queue c.in-Queue.router) c.in-Queue.is
    (queue_answered net feed walk.engine.place walk.breaks.items old walk.engine walk.latest c.args.out.now is c.in-Queue.router c.as_slice-routers.result.now c.queue.new.out defs (c.in_ok-queue-in-Queue.ensures net feed is.stands))

pub returns-in_ok-push_place-in-Where-clause-answered :
    goal.returns-in_ok-push_place-in-Where-clause-answered
returns-in_ok-push_place-in-Where-clause-answered g c =
    λ net feed same is.
    let walk = c.args.walk.now in
    let old = watched g.P.Probe.watcher walk.watching in
    as_asked net feed (situation walk.engine.place walk.breaks.items old) walk.engine walk.latest (situation walk.engine.place walk.breaks.items old) c.args.out.now c.push_place.new.out c.args.command command.Where c.in-Where.is
    (where_answered net feed walk.engine.place walk.breaks.items old walk.engine walk.latest c.args.out.now is c.push_place.new.out
    (c.in_ok-push_place-in-Where.ensures ∙ ap (λ (n : ℕ). c.args.out.now ++ place_line n) c.place.ensures.place))

pub returns-in_ok-push_lines-in-Last-clause-answered :
    goal.returns-in_ok-push_lines-in-Last-clause-answered
returns-in_ok-push_lines-in-Last-clause-answered g c =
    λ net feed same is.
    let walk = c.args.walk.now in
    let old = watched g.P.Probe.watcher walk.watching in
    let header : c.args.header.now ≡ net.header = sym c.requires.same ∙ is.stands.header in
    let defs : c.as_slice-routers.result.now ≡ net.header.routers = c.as_slice-routers.ensures ∙ (ap (λ (h : Heading). h.routers) c.header.view_is ∙ ap (λ (h : Heading). h.routers) header) in
    as_asked net feed (situation walk.engine.place walk.breaks.items old) walk.engine walk.latest (situation walk.engine.place walk.breaks.items old) c.args.out.now c.push_lines.new.out c.args.command command.Last c.in-Last.is
    (last_answered net feed walk.engine.place walk.breaks.items old walk.engine walk.latest c.args.out.now is c.as_slice-routers.result.now c.push_lines.new.out refl defs c.in_ok-push_lines-in-Last.ensures)

pub returns-in-Quit-clause-answered : goal.returns-in-Quit-clause-answered
returns-in-Quit-clause-answered g c =
    λ net feed same is.
    let walk = c.args.walk.now in
    let old = watched g.P.Probe.watcher walk.watching in
    as_asked net feed (situation walk.engine.place walk.breaks.items old) walk.engine walk.latest (situation walk.engine.place walk.breaks.items old) c.args.out.now c.args.out.now c.args.command command.Quit c.in-Quit.is
    (quit_answered net feed walk.engine.place walk.breaks.items old walk.engine walk.latest c.args.out.now is)
