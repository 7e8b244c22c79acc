use Rattle.std.proofs.Common.{◌+◌, sym, ap, ◌∙◌, subst}
use Rattle.dn_world.specs.declared.step.Step.TheVariants.{Close}
use Rattle.dn_fabric.specs.Fabrics.{Fabric, HasStepped, HasNoted}
use Rattle.dn_fabric.proofs.Calls.{OfEach}
use Rattle.dn_fabric.proofs.Taken.{fab, close_taken}
use Rattle.dn_fabric.proofs.fabric.Fabric.close.Goals as goal

pub invariant_of-self-2 : goal.invariant_of-self-2
invariant_of-self-2 g c =
    let f = fab c.self.inside.world c.self.inside.journal.items c.self.inside.leased.items in
    (close_taken g.G.Guest.meaning (record { onward = c.one_more_step.ensures.onward; stays = c.one_more_step.ensures.stays; grows = c.one_more_step.ensures.grows; taken_off = c.one_more_step.ensures.taken_off; log = c.one_more_step.ensures.log }) f c.self.invariant (ap (λ f. f.live.stopped) c.self.view_is ∙ c.requires.running) c.note.new.world c.note.new.journal.items
    (ap (λ f. f.live.world.closed) c.self.view_is ∙ c.requires.unclosed)
    (ap (λ f. f.live.world.floor + 1) c.self.view_is ∙ c.requires.last ∙ sym (ap (λ f. f.live.header.groups) c.self.view_is))
    (c.in_ok-note.ensures.world ∙ c.close.ensures) c.in_ok-note.ensures.journal).holds

pub returns-clause-ok : goal.returns-clause-ok
returns-clause-ok g c =
    let f = fab c.self.inside.world c.self.inside.journal.items c.self.inside.leased.items in
    let step = close_taken g.G.Guest.meaning (record { onward = c.one_more_step.ensures.onward; stays = c.one_more_step.ensures.stays; grows = c.one_more_step.ensures.grows; taken_off = c.one_more_step.ensures.taken_off; log = c.one_more_step.ensures.log }) f c.self.invariant (ap (λ f. f.live.stopped) c.self.view_is ∙ c.requires.running) c.note.new.world c.note.new.journal.items
    (ap (λ f. f.live.world.closed) c.self.view_is ∙ c.requires.unclosed)
    (ap (λ f. f.live.world.floor + 1) c.self.view_is ∙ c.requires.last ∙ sym (ap (λ f. f.live.header.groups) c.self.view_is))
    (c.in_ok-note.ensures.world ∙ c.close.ensures) c.in_ok-note.ensures.journal in
    subst (λ (b : Fabric g.row.G.Denot). OfEach g.G.Guest.meaning b (λ net. HasStepped net b (Close) (fab c.note.new.world c.note.new.journal.items c.self.inside.leased.items))) c.self.view_is step.stepped

pub returns-clause-noted : goal.returns-clause-noted
returns-clause-noted g c =
    let f = fab c.self.inside.world c.self.inside.journal.items c.self.inside.leased.items in
    let step = close_taken g.G.Guest.meaning (record { onward = c.one_more_step.ensures.onward; stays = c.one_more_step.ensures.stays; grows = c.one_more_step.ensures.grows; taken_off = c.one_more_step.ensures.taken_off; log = c.one_more_step.ensures.log }) f c.self.invariant (ap (λ f. f.live.stopped) c.self.view_is ∙ c.requires.running) c.note.new.world c.note.new.journal.items
    (ap (λ f. f.live.world.closed) c.self.view_is ∙ c.requires.unclosed)
    (ap (λ f. f.live.world.floor + 1) c.self.view_is ∙ c.requires.last ∙ sym (ap (λ f. f.live.header.groups) c.self.view_is))
    (c.in_ok-note.ensures.world ∙ c.close.ensures) c.in_ok-note.ensures.journal in
    subst (λ (b : Fabric g.row.G.Denot). HasNoted b (Close) (fab c.note.new.world c.note.new.journal.items c.self.inside.leased.items)) c.self.view_is step.noted
