use Rattle.std.proofs.Common.{◌<◌, length, sym, ap, ◌∙◌, subst}
use Rattle.dn_world.specs.declared.step.Step.TheVariants.{Deliver}
use Rattle.dn_fabric.specs.Fabrics.{Fabric, HasStepped, HasNoted}
use Rattle.dn_fabric.proofs.Calls.{OfEach, waiting_past}
use Rattle.dn_fabric.proofs.Taken.{fab, deliver_taken}
use Rattle.dn_fabric.proofs.fabric.Fabric.deliver.Goals as goal

pub deliver-requires-clause-past : goal.deliver-requires-clause-past
deliver-requires-clause-past g c κs within =
    waiting_past g.G.Guest.meaning (fab c.self.inside.world c.self.inside.journal.items c.self.inside.leased.items) c.self.invariant (ap (λ f. f.live.stopped) c.self.view_is ∙ c.requires.running)

pub invariant_of-self-2 : goal.invariant_of-self-2
invariant_of-self-2 g c =
    let f = fab c.self.inside.world c.self.inside.journal.items c.self.inside.leased.items in
    (deliver_taken g.G.Guest.meaning (record { onward = c.one_more_step.ensures.onward; stays = c.one_more_step.ensures.stays; grows = c.one_more_step.ensures.grows; taken_off = c.one_more_step.ensures.taken_off; log = c.one_more_step.ensures.log }) f c.self.invariant (ap (λ f. f.live.stopped) c.self.view_is ∙ c.requires.running) c.args.place c.note.new.world c.note.new.journal.items
    (subst (λ f. c.args.place < length f.live.world.flight) (sym c.self.view_is) c.requires.there)
    (c.in_ok-note.ensures.world ∙ c.in_ok-deliver.ensures.ok) c.in_ok-note.ensures.journal).holds

pub returns-clause-ok : goal.returns-clause-ok
returns-clause-ok g c =
    let f = fab c.self.inside.world c.self.inside.journal.items c.self.inside.leased.items in
    let step = deliver_taken g.G.Guest.meaning (record { onward = c.one_more_step.ensures.onward; stays = c.one_more_step.ensures.stays; grows = c.one_more_step.ensures.grows; taken_off = c.one_more_step.ensures.taken_off; log = c.one_more_step.ensures.log }) f c.self.invariant (ap (λ f. f.live.stopped) c.self.view_is ∙ c.requires.running) c.args.place c.note.new.world c.note.new.journal.items
    (subst (λ f. c.args.place < length f.live.world.flight) (sym c.self.view_is) c.requires.there)
    (c.in_ok-note.ensures.world ∙ c.in_ok-deliver.ensures.ok) c.in_ok-note.ensures.journal in
    subst (λ (b : Fabric g.row.G.Denot). OfEach g.G.Guest.meaning b (λ net. HasStepped net b (Deliver c.args.place) (fab c.note.new.world c.note.new.journal.items c.self.inside.leased.items))) c.self.view_is step.stepped

pub returns-clause-noted : goal.returns-clause-noted
returns-clause-noted g c =
    let f = fab c.self.inside.world c.self.inside.journal.items c.self.inside.leased.items in
    let step = deliver_taken g.G.Guest.meaning (record { onward = c.one_more_step.ensures.onward; stays = c.one_more_step.ensures.stays; grows = c.one_more_step.ensures.grows; taken_off = c.one_more_step.ensures.taken_off; log = c.one_more_step.ensures.log }) f c.self.invariant (ap (λ f. f.live.stopped) c.self.view_is ∙ c.requires.running) c.args.place c.note.new.world c.note.new.journal.items
    (subst (λ f. c.args.place < length f.live.world.flight) (sym c.self.view_is) c.requires.there)
    (c.in_ok-note.ensures.world ∙ c.in_ok-deliver.ensures.ok) c.in_ok-note.ensures.journal in
    subst (λ (b : Fabric g.row.G.Denot). HasNoted b (Deliver c.args.place) (fab c.note.new.world c.note.new.journal.items c.self.inside.leased.items)) c.self.view_is step.noted
