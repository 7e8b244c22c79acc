use Rattle.std.proofs.Common.{◌+◌, ◌<◌, sym, ap, ◌∙◌, subst}
use Rattle.dn_world.specs.declared.step.Step.TheVariants.{Beacon}
use Rattle.dn_fabric.specs.Fabrics.{Fabric, HasStepped, HasNoted}
use Rattle.dn_fabric.proofs.Calls.{OfEach, bound_past}
use Rattle.dn_fabric.proofs.Taken.{fab, beacon_taken}
use Rattle.dn_fabric.proofs.fabric.Fabric.beacon.Goals as goal

pub beacon-requires-clause-past : goal.beacon-requires-clause-past
beacon-requires-clause-past g c κs within =
    bound_past g.G.Guest.meaning (fab c.self.inside.world c.self.inside.journal.items c.self.inside.leased.items) c.self.invariant (ap (λ f. f.live.stopped) c.self.view_is ∙ c.requires.running)

pub invariant_of-self-2 : goal.invariant_of-self-2
invariant_of-self-2 g c =
    let f = fab c.self.inside.world c.self.inside.journal.items c.self.inside.leased.items in
    (beacon_taken g.G.Guest.meaning (record { onward = c.one_more_step.ensures.onward; stays = c.one_more_step.ensures.stays; grows = c.one_more_step.ensures.grows; taken_off = c.one_more_step.ensures.taken_off; log = c.one_more_step.ensures.log }) f c.self.invariant (ap (λ f. f.live.stopped) c.self.view_is ∙ c.requires.running) c.note.new.world c.note.new.journal.items
    (ap (λ f. f.live.world.closed) c.self.view_is ∙ c.requires.unclosed)
    (subst (λ f. f.live.world.floor + 1 < f.live.header.groups) (sym c.self.view_is) c.requires.left)
    (c.in_ok-note.ensures.world ∙ c.in_ok-beacon.ensures.ok) c.in_ok-note.ensures.journal).holds

pub returns-clause-ok : goal.returns-clause-ok
returns-clause-ok g c =
    let f = fab c.self.inside.world c.self.inside.journal.items c.self.inside.leased.items in
    let step = beacon_taken g.G.Guest.meaning (record { onward = c.one_more_step.ensures.onward; stays = c.one_more_step.ensures.stays; grows = c.one_more_step.ensures.grows; taken_off = c.one_more_step.ensures.taken_off; log = c.one_more_step.ensures.log }) f c.self.invariant (ap (λ f. f.live.stopped) c.self.view_is ∙ c.requires.running) c.note.new.world c.note.new.journal.items
    (ap (λ f. f.live.world.closed) c.self.view_is ∙ c.requires.unclosed)
    (subst (λ f. f.live.world.floor + 1 < f.live.header.groups) (sym c.self.view_is) c.requires.left)
    (c.in_ok-note.ensures.world ∙ c.in_ok-beacon.ensures.ok) c.in_ok-note.ensures.journal in
    subst (λ (b : Fabric g.row.G.Denot). OfEach g.G.Guest.meaning b (λ net. HasStepped net b Beacon (fab c.note.new.world c.note.new.journal.items c.self.inside.leased.items))) c.self.view_is step.stepped

pub returns-clause-noted : goal.returns-clause-noted
returns-clause-noted g c =
    let f = fab c.self.inside.world c.self.inside.journal.items c.self.inside.leased.items in
    let step = beacon_taken g.G.Guest.meaning (record { onward = c.one_more_step.ensures.onward; stays = c.one_more_step.ensures.stays; grows = c.one_more_step.ensures.grows; taken_off = c.one_more_step.ensures.taken_off; log = c.one_more_step.ensures.log }) f c.self.invariant (ap (λ f. f.live.stopped) c.self.view_is ∙ c.requires.running) c.note.new.world c.note.new.journal.items
    (ap (λ f. f.live.world.closed) c.self.view_is ∙ c.requires.unclosed)
    (subst (λ f. f.live.world.floor + 1 < f.live.header.groups) (sym c.self.view_is) c.requires.left)
    (c.in_ok-note.ensures.world ∙ c.in_ok-beacon.ensures.ok) c.in_ok-note.ensures.journal in
    subst (λ (b : Fabric g.row.G.Denot). HasNoted b Beacon (fab c.note.new.world c.note.new.journal.items c.self.inside.leased.items)) c.self.view_is step.noted
