use Rattle.std.proofs.Common.{◌≡◌, ◌++◌, ◌∷◌, [], true, false, get_or, refl, sym, ap, ◌∙◌, subst, set}
use Rattle.std.specs.Prelude.{slice_set}
use Rattle.dn_guest.specs.Meaning.{Meaning}
use Rattle.dn_router.specs.Orders.{Task}
use Rattle.dn_world.specs.declared.step.Step.TheVariants.{Handle}
use Rattle.dn_world.specs.Steps.{after}
use Rattle.dn_fabric.specs.declared.answer.Finished.{Finished}
use Rattle.dn_fabric.specs.declared.answer.Finished.TheVariants.{Applied, Stale}
use Rattle.dn_fabric.specs.Fabrics.{Live, Fabric, HasStopped}
use Rattle.dn_fabric.specs.Answers.{HasHandled, HasEnded, HasFinished}
use Rattle.dn_fabric.proofs.Calls.{OfEach, the_network, leased_inside, halted_holds, on_err_all}
use Rattle.dn_fabric.proofs.Taken.{fab, finish_taken, stale_holds, half_taken}
use Rattle.dn_fabric.proofs.fabric.Fabric.finish.Goals as goal

-- what `apply` answered, by what it was
handled_is : {S : Type 0} (guests : Meaning S) (f : Fabric S) (task : Task S) (found answer : Finished) (now : Live S) → found ≡ answer → OfEach guests f (λ net. HasHandled net f.live task found now) → OfEach guests f (λ net. HasHandled net f.live task answer now)
handled_is guests f task found answer now is h net of = subst (λ a. HasHandled net f.live task a now) is (h net of)

pub apply-requires-clause-inside : goal.apply-requires-clause-inside
apply-requires-clause-inside g c κs within =
    let f = fab c.self.inside.world c.self.inside.journal.items c.self.inside.leased.items in
    leased_inside g.G.Guest.meaning f c.self.invariant c.args.outcome.router (subst (λ (b : Fabric g.row.G.Denot). get_or b.leased c.args.outcome.router false ≡ true) (sym c.self.view_is) c.requires.leased)

pub invariant_of-self-in_err-note-in-Applied : goal.invariant_of-self-in_err-note-in-Applied
invariant_of-self-in_err-note-in-Applied g c =
    let f = fab c.self.inside.world c.self.inside.journal.items c.self.inside.leased.items in
    let running = ap (λ b. b.live.stopped) c.self.view_is ∙ c.requires.running in
    let handled = handled_is g.G.Guest.meaning f c.args.outcome c.in_ok-apply.field-0 Applied c.apply.new.self c.in-Applied.is c.in_ok-apply.ensures.ok in
    halted_holds g.G.Guest.meaning f (fab c.note.new.world c.note.new.journal.items c.self.inside.leased.items) c.self.invariant
    (half_taken g.G.Guest.meaning (record { onward = c.one_more_step.ensures.onward; stays = c.one_more_step.ensures.stays; grows = c.one_more_step.ensures.grows; taken_off = c.one_more_step.ensures.taken_off; log = c.one_more_step.ensures.log }) f c.self.invariant running c.apply.new.self c.note.new.world c.note.new.journal.items
    (λ net. record c.self.inside.world { world = after net c.self.inside.world.world (Handle c.args.outcome.router) })
    (λ net of. (handled net of).1) (λ net. refl) (λ net. refl) c.in_err-note-in-Applied.ensures.stopped c.in_err-note-in-Applied.ensures.same) refl

pub returns-in_err-note-in-Applied-clause-err : goal.returns-in_err-note-in-Applied-clause-err
returns-in_err-note-in-Applied-clause-err g c =
    let f = fab c.self.inside.world c.self.inside.journal.items c.self.inside.leased.items in
    let running = ap (λ b. b.live.stopped) c.self.view_is ∙ c.requires.running in
    let handled = handled_is g.G.Guest.meaning f c.args.outcome c.in_ok-apply.field-0 Applied c.apply.new.self c.in-Applied.is c.in_ok-apply.ensures.ok in
    let now = fab c.note.new.world c.note.new.journal.items c.self.inside.leased.items in
    on_err_all c.from_residual-in_err-note-in-Applied.result
    (subst (λ (b : Fabric g.row.G.Denot). HasStopped b now) c.self.view_is
    (half_taken g.G.Guest.meaning (record { onward = c.one_more_step.ensures.onward; stays = c.one_more_step.ensures.stays; grows = c.one_more_step.ensures.grows; taken_off = c.one_more_step.ensures.taken_off; log = c.one_more_step.ensures.log }) f c.self.invariant running c.apply.new.self c.note.new.world c.note.new.journal.items
    (λ net. record c.self.inside.world { world = after net c.self.inside.world.world (Handle c.args.outcome.router) })
    (λ net of. (handled net of).1) (λ net. refl) (λ net. refl) c.in_err-note-in-Applied.ensures.stopped c.in_err-note-in-Applied.ensures.same))

pub invariant_of-self-in-Applied : goal.invariant_of-self-in-Applied
invariant_of-self-in-Applied g c =
    let f = fab c.self.inside.world c.self.inside.journal.items c.self.inside.leased.items in
    let running = ap (λ b. b.live.stopped) c.self.view_is ∙ c.requires.running in
    let handled = handled_is g.G.Guest.meaning f c.args.outcome c.in_ok-apply.field-0 Applied c.apply.new.self c.in-Applied.is c.in_ok-apply.ensures.ok in
    (finish_taken g.G.Guest.meaning (record { onward = c.one_more_step.ensures.onward; stays = c.one_more_step.ensures.stays; grows = c.one_more_step.ensures.grows; taken_off = c.one_more_step.ensures.taken_off; log = c.one_more_step.ensures.log }) f c.self.invariant running c.args.outcome.router c.note.new.world c.note.new.journal.items (slice_set c.self.inside.leased.items c.from.result false)
    (leased_inside g.G.Guest.meaning f c.self.invariant c.args.outcome.router (subst (λ (b : Fabric g.row.G.Denot). get_or b.leased c.args.outcome.router false ≡ true) (sym c.self.view_is) c.requires.leased))
    (let found = the_network g.G.Guest.meaning f c.self.invariant in (handled found.0 found.1).0.0)
    (ap (λ r. set c.self.inside.leased.items r false) (c.from.ensures ∙ c.router-router.ensures))
    (λ net of. c.in_ok-note-in-Applied.ensures.world ∙ (handled net of).1)
    (c.in_ok-note-in-Applied.ensures.journal ∙ ap (λ r. c.self.inside.journal.items ++ Handle r ∷ []) c.router-router.ensures)).holds

pub returns-in_ok-note-in-Applied-clause-ok : goal.returns-in_ok-note-in-Applied-clause-ok
returns-in_ok-note-in-Applied-clause-ok g c =
    let f = fab c.self.inside.world c.self.inside.journal.items c.self.inside.leased.items in
    let running = ap (λ b. b.live.stopped) c.self.view_is ∙ c.requires.running in
    let handled = handled_is g.G.Guest.meaning f c.args.outcome c.in_ok-apply.field-0 Applied c.apply.new.self c.in-Applied.is c.in_ok-apply.ensures.ok in
    let now = fab c.note.new.world c.note.new.journal.items (slice_set c.self.inside.leased.items c.from.result false) in
    let done = finish_taken g.G.Guest.meaning (record { onward = c.one_more_step.ensures.onward; stays = c.one_more_step.ensures.stays; grows = c.one_more_step.ensures.grows; taken_off = c.one_more_step.ensures.taken_off; log = c.one_more_step.ensures.log }) f c.self.invariant running c.args.outcome.router c.note.new.world c.note.new.journal.items (slice_set c.self.inside.leased.items c.from.result false)
    (leased_inside g.G.Guest.meaning f c.self.invariant c.args.outcome.router (subst (λ (b : Fabric g.row.G.Denot). get_or b.leased c.args.outcome.router false ≡ true) (sym c.self.view_is) c.requires.leased))
    (let found = the_network g.G.Guest.meaning f c.self.invariant in (handled found.0 found.1).0.0)
    (ap (λ r. set c.self.inside.leased.items r false) (c.from.ensures ∙ c.router-router.ensures))
    (λ net of. c.in_ok-note-in-Applied.ensures.world ∙ (handled net of).1)
    (c.in_ok-note-in-Applied.ensures.journal ∙ ap (λ r. c.self.inside.journal.items ++ Handle r ∷ []) c.router-router.ensures) in
    subst (λ (b : Fabric g.row.G.Denot). OfEach g.G.Guest.meaning b (λ net. HasFinished net b c.args.outcome Applied now)) c.self.view_is
    (λ net of. ((handled net of).0, done.stepped net of))

pub returns-in_ok-note-in-Applied-clause-noted : goal.returns-in_ok-note-in-Applied-clause-noted
returns-in_ok-note-in-Applied-clause-noted g c =
    let f = fab c.self.inside.world c.self.inside.journal.items c.self.inside.leased.items in
    let running = ap (λ b. b.live.stopped) c.self.view_is ∙ c.requires.running in
    let handled = handled_is g.G.Guest.meaning f c.args.outcome c.in_ok-apply.field-0 Applied c.apply.new.self c.in-Applied.is c.in_ok-apply.ensures.ok in
    let now = fab c.note.new.world c.note.new.journal.items (slice_set c.self.inside.leased.items c.from.result false) in
    let done = finish_taken g.G.Guest.meaning (record { onward = c.one_more_step.ensures.onward; stays = c.one_more_step.ensures.stays; grows = c.one_more_step.ensures.grows; taken_off = c.one_more_step.ensures.taken_off; log = c.one_more_step.ensures.log }) f c.self.invariant running c.args.outcome.router c.note.new.world c.note.new.journal.items (slice_set c.self.inside.leased.items c.from.result false)
    (leased_inside g.G.Guest.meaning f c.self.invariant c.args.outcome.router (subst (λ (b : Fabric g.row.G.Denot). get_or b.leased c.args.outcome.router false ≡ true) (sym c.self.view_is) c.requires.leased))
    (let found = the_network g.G.Guest.meaning f c.self.invariant in (handled found.0 found.1).0.0)
    (ap (λ r. set c.self.inside.leased.items r false) (c.from.ensures ∙ c.router-router.ensures))
    (λ net of. c.in_ok-note-in-Applied.ensures.world ∙ (handled net of).1)
    (c.in_ok-note-in-Applied.ensures.journal ∙ ap (λ r. c.self.inside.journal.items ++ Handle r ∷ []) c.router-router.ensures) in
    subst (λ (b : Fabric g.row.G.Denot). HasEnded b c.args.outcome Applied now) c.self.view_is done.noted

pub invariant_of-self-in-Stale : goal.invariant_of-self-in-Stale
invariant_of-self-in-Stale g c =
    let f = fab c.self.inside.world c.self.inside.journal.items c.self.inside.leased.items in
    let stale = handled_is g.G.Guest.meaning f c.args.outcome c.in_ok-apply.field-0 Stale c.apply.new.self c.in-Stale.is c.in_ok-apply.ensures.ok in
    let found = the_network g.G.Guest.meaning f c.self.invariant in
    stale_holds g.G.Guest.meaning f c.self.invariant c.args.outcome.router c.apply.new.self (slice_set c.self.inside.leased.items c.from-in-Stale.result false)
    (stale found.0 found.1).1
    (ap (λ r. set c.self.inside.leased.items r false) (c.from-in-Stale.ensures ∙ c.router-router.ensures))

pub returns-in-Stale-clause-ok : goal.returns-in-Stale-clause-ok
returns-in-Stale-clause-ok g c =
    let f = fab c.self.inside.world c.self.inside.journal.items c.self.inside.leased.items in
    let stale = handled_is g.G.Guest.meaning f c.args.outcome c.in_ok-apply.field-0 Stale c.apply.new.self c.in-Stale.is c.in_ok-apply.ensures.ok in
    let found = the_network g.G.Guest.meaning f c.self.invariant in
    let now = fab c.apply.new.self c.self.inside.journal.items (slice_set c.self.inside.leased.items c.from-in-Stale.result false) in
    let place : c.from-in-Stale.result ≡ c.args.outcome.router = c.from-in-Stale.ensures ∙ c.router-router.ensures in
    subst (λ (b : Fabric g.row.G.Denot). OfEach g.G.Guest.meaning b (λ net. HasFinished net b c.args.outcome Stale now)) c.self.view_is
    (λ net of. ((stale net of).0, λ i. fab ((stale net of).1 i) c.self.inside.journal.items (set c.self.inside.leased.items (place i) false)))

pub returns-in-Stale-clause-noted : goal.returns-in-Stale-clause-noted
returns-in-Stale-clause-noted g c =
    let f = fab c.self.inside.world c.self.inside.journal.items c.self.inside.leased.items in
    let stale = handled_is g.G.Guest.meaning f c.args.outcome c.in_ok-apply.field-0 Stale c.apply.new.self c.in-Stale.is c.in_ok-apply.ensures.ok in
    let found = the_network g.G.Guest.meaning f c.self.invariant in
    let now = fab c.apply.new.self c.self.inside.journal.items (slice_set c.self.inside.leased.items c.from-in-Stale.result false) in
    let place : c.from-in-Stale.result ≡ c.args.outcome.router = c.from-in-Stale.ensures ∙ c.router-router.ensures in
    subst (λ (b : Fabric g.row.G.Denot). HasEnded b c.args.outcome Stale now) c.self.view_is
    (λ i. fab ((stale found.0 found.1).1 i) c.self.inside.journal.items (set c.self.inside.leased.items (place i) false))
