use Rattle.std.proofs.Common.{◌<◌, length, refl, sym, ap, ◌∙◌, subst}
use Rattle.std.specs.List.{AllByRecursion}
use Rattle.dn_world.specs.declared.step.Step.TheVariants.{RollBack}
use Rattle.dn_world.specs.World.{part, is_behind}
use Rattle.dn_world.specs.Steps.{after, taken_off}
use Rattle.dn_world.specs.Runs.{IsPast}
use Rattle.dn_fabric.specs.Fabrics.{Fabric, HasStepped, HasNoted, HasStopped}
use Rattle.dn_fabric.proofs.Calls.{OfEach, halted_holds, on_err_all}
use Rattle.dn_fabric.proofs.Taken.{fab, roll_back_taken, late_taken, half_taken}
use Rattle.dn_fabric.proofs.fabric.Fabric.roll_back.Goals as goal

pub returns-in_err-roll_back-clause-late : goal.returns-in_err-roll_back-clause-late
returns-in_err-roll_back-clause-late g c =
    let f = fab c.self.inside.world c.self.inside.journal.items c.self.inside.leased.items in
    subst (λ (b : Fabric g.row.G.Denot). OfEach g.G.Guest.meaning b (λ net. AllByRecursion (λ e. IsPast b.live.world.boundary e.key) (taken_off net (part b.live.world c.args.router)))) c.self.view_is
    (late_taken g.G.Guest.meaning (record { onward = c.one_more_step.ensures.onward; stays = c.one_more_step.ensures.stays; grows = c.one_more_step.ensures.grows; taken_off = c.one_more_step.ensures.taken_off; log = c.one_more_step.ensures.log }) f c.self.invariant (ap (λ b. b.live.stopped) c.self.view_is ∙ c.requires.running) c.args.router
    (subst (λ (b : Fabric g.row.G.Denot). c.args.router < length b.live.header.routers) (sym c.self.view_is) c.requires.inside)
    (ap (λ b. is_behind (part b.live.world c.args.router)) c.self.view_is ∙ c.requires.behind))

pub invariant_of-self-in_err-note : goal.invariant_of-self-in_err-note
invariant_of-self-in_err-note g c =
    let f = fab c.self.inside.world c.self.inside.journal.items c.self.inside.leased.items in
    halted_holds g.G.Guest.meaning f (fab c.note.new.world c.note.new.journal.items c.self.inside.leased.items) c.self.invariant
    (half_taken g.G.Guest.meaning (record { onward = c.one_more_step.ensures.onward; stays = c.one_more_step.ensures.stays; grows = c.one_more_step.ensures.grows; taken_off = c.one_more_step.ensures.taken_off; log = c.one_more_step.ensures.log }) f c.self.invariant (ap (λ b. b.live.stopped) c.self.view_is ∙ c.requires.running) c.roll_back.new.self c.note.new.world c.note.new.journal.items
    (λ net. record c.self.inside.world { world = after net c.self.inside.world.world (RollBack c.args.router) })
    c.in_ok-roll_back.ensures.ok (λ net. refl) (λ net. refl) c.in_err-note.ensures.stopped c.in_err-note.ensures.same) refl

pub returns-in_err-note-clause-late : goal.returns-in_err-note-clause-late
returns-in_err-note-clause-late g c =
    let f = fab c.self.inside.world c.self.inside.journal.items c.self.inside.leased.items in
    subst (λ (b : Fabric g.row.G.Denot). OfEach g.G.Guest.meaning b (λ net. AllByRecursion (λ e. IsPast b.live.world.boundary e.key) (taken_off net (part b.live.world c.args.router)))) c.self.view_is
    (late_taken g.G.Guest.meaning (record { onward = c.one_more_step.ensures.onward; stays = c.one_more_step.ensures.stays; grows = c.one_more_step.ensures.grows; taken_off = c.one_more_step.ensures.taken_off; log = c.one_more_step.ensures.log }) f c.self.invariant (ap (λ b. b.live.stopped) c.self.view_is ∙ c.requires.running) c.args.router
    (subst (λ (b : Fabric g.row.G.Denot). c.args.router < length b.live.header.routers) (sym c.self.view_is) c.requires.inside)
    (ap (λ b. is_behind (part b.live.world c.args.router)) c.self.view_is ∙ c.requires.behind))

pub returns-in_err-note-clause-err : goal.returns-in_err-note-clause-err
returns-in_err-note-clause-err g c =
    let f = fab c.self.inside.world c.self.inside.journal.items c.self.inside.leased.items in
    let now = fab c.note.new.world c.note.new.journal.items c.self.inside.leased.items in
    on_err_all c.from_residual-in_err-note.result
    (subst (λ (b : Fabric g.row.G.Denot). HasStopped b now) c.self.view_is
    (half_taken g.G.Guest.meaning (record { onward = c.one_more_step.ensures.onward; stays = c.one_more_step.ensures.stays; grows = c.one_more_step.ensures.grows; taken_off = c.one_more_step.ensures.taken_off; log = c.one_more_step.ensures.log }) f c.self.invariant (ap (λ b. b.live.stopped) c.self.view_is ∙ c.requires.running) c.roll_back.new.self c.note.new.world c.note.new.journal.items
    (λ net. record c.self.inside.world { world = after net c.self.inside.world.world (RollBack c.args.router) })
    c.in_ok-roll_back.ensures.ok (λ net. refl) (λ net. refl) c.in_err-note.ensures.stopped c.in_err-note.ensures.same))

pub invariant_of-self-2 : goal.invariant_of-self-2
invariant_of-self-2 g c =
    let f = fab c.self.inside.world c.self.inside.journal.items c.self.inside.leased.items in
    (roll_back_taken g.G.Guest.meaning (record { onward = c.one_more_step.ensures.onward; stays = c.one_more_step.ensures.stays; grows = c.one_more_step.ensures.grows; taken_off = c.one_more_step.ensures.taken_off; log = c.one_more_step.ensures.log }) f c.self.invariant (ap (λ b. b.live.stopped) c.self.view_is ∙ c.requires.running) c.args.router c.note.new.world c.note.new.journal.items
    (subst (λ (b : Fabric g.row.G.Denot). c.args.router < length b.live.header.routers) (sym c.self.view_is) c.requires.inside)
    (ap (λ b. is_behind (part b.live.world c.args.router)) c.self.view_is ∙ c.requires.behind)
    (λ net of. c.in_ok-note.ensures.world ∙ c.in_ok-roll_back.ensures.ok net of) c.in_ok-note.ensures.journal).holds

pub returns-clause-ok : goal.returns-clause-ok
returns-clause-ok g c =
    let f = fab c.self.inside.world c.self.inside.journal.items c.self.inside.leased.items in
    let now = fab c.note.new.world c.note.new.journal.items c.self.inside.leased.items in
    subst (λ (b : Fabric g.row.G.Denot). OfEach g.G.Guest.meaning b (λ net. HasStepped net b (RollBack c.args.router) now)) c.self.view_is
    (roll_back_taken g.G.Guest.meaning (record { onward = c.one_more_step.ensures.onward; stays = c.one_more_step.ensures.stays; grows = c.one_more_step.ensures.grows; taken_off = c.one_more_step.ensures.taken_off; log = c.one_more_step.ensures.log }) f c.self.invariant (ap (λ b. b.live.stopped) c.self.view_is ∙ c.requires.running) c.args.router c.note.new.world c.note.new.journal.items
    (subst (λ (b : Fabric g.row.G.Denot). c.args.router < length b.live.header.routers) (sym c.self.view_is) c.requires.inside)
    (ap (λ b. is_behind (part b.live.world c.args.router)) c.self.view_is ∙ c.requires.behind)
    (λ net of. c.in_ok-note.ensures.world ∙ c.in_ok-roll_back.ensures.ok net of) c.in_ok-note.ensures.journal).stepped

pub returns-clause-noted : goal.returns-clause-noted
returns-clause-noted g c =
    let f = fab c.self.inside.world c.self.inside.journal.items c.self.inside.leased.items in
    let now = fab c.note.new.world c.note.new.journal.items c.self.inside.leased.items in
    subst (λ (b : Fabric g.row.G.Denot). HasNoted b (RollBack c.args.router) now) c.self.view_is
    (roll_back_taken g.G.Guest.meaning (record { onward = c.one_more_step.ensures.onward; stays = c.one_more_step.ensures.stays; grows = c.one_more_step.ensures.grows; taken_off = c.one_more_step.ensures.taken_off; log = c.one_more_step.ensures.log }) f c.self.invariant (ap (λ b. b.live.stopped) c.self.view_is ∙ c.requires.running) c.args.router c.note.new.world c.note.new.journal.items
    (subst (λ (b : Fabric g.row.G.Denot). c.args.router < length b.live.header.routers) (sym c.self.view_is) c.requires.inside)
    (ap (λ b. is_behind (part b.live.world c.args.router)) c.self.view_is ∙ c.requires.behind)
    (λ net of. c.in_ok-note.ensures.world ∙ c.in_ok-roll_back.ensures.ok net of) c.in_ok-note.ensures.journal).noted

pub returns-clause-late : goal.returns-clause-late
returns-clause-late g c =
    let f = fab c.self.inside.world c.self.inside.journal.items c.self.inside.leased.items in
    subst (λ (b : Fabric g.row.G.Denot). OfEach g.G.Guest.meaning b (λ net. AllByRecursion (λ e. IsPast b.live.world.boundary e.key) (taken_off net (part b.live.world c.args.router)))) c.self.view_is
    (late_taken g.G.Guest.meaning (record { onward = c.one_more_step.ensures.onward; stays = c.one_more_step.ensures.stays; grows = c.one_more_step.ensures.grows; taken_off = c.one_more_step.ensures.taken_off; log = c.one_more_step.ensures.log }) f c.self.invariant (ap (λ b. b.live.stopped) c.self.view_is ∙ c.requires.running) c.args.router
    (subst (λ (b : Fabric g.row.G.Denot). c.args.router < length b.live.header.routers) (sym c.self.view_is) c.requires.inside)
    (ap (λ b. is_behind (part b.live.world c.args.router)) c.self.view_is ∙ c.requires.behind))
