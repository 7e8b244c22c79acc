use Rattle.std.proofs.Common.{◌≡◌, ◌<◌, ◌++◌, ◌∷◌, [], length, refl, sym, ap, ◌∙◌, subst}
use Rattle.dn_model.specs.declared.feed.External.{External}
use Rattle.dn_world.specs.declared.step.Step.TheVariants.{Inject}
use Rattle.dn_world.specs.World.{floor_bound}
use Rattle.dn_world.specs.Steps.{inject, is_injectable}
use Rattle.dn_world.specs.Runs.{IsPast}
use Rattle.dn_fabric.specs.Fabrics.{Live, Fabric, HasStepped, HasNoted}
use Rattle.dn_fabric.proofs.Calls.{OfEach, bound_past}
use Rattle.dn_fabric.proofs.Taken.{fab, inject_taken, from_ok, marked_ok}
use Rattle.dn_fabric.proofs.fabric.Fabric.inject.Goals as goal

pub inject-requires-clause-past : goal.inject-requires-clause-past
inject-requires-clause-past g c κs within =
    let same : c.mark.new.self ≡ c.self.inside.world = c.in_ok-copy.ensures.mark ∙ marked_ok c.self.inside.world c.in_ok-copy.copy c.copy-copy.result c.in_ok-copy.ensures.same in
    subst (λ (l : Live g.row.G.Denot). IsPast l.world.boundary (floor_bound l.header l.world)) (sym same)
    (bound_past g.G.Guest.meaning (fab c.self.inside.world c.self.inside.journal.items c.self.inside.leased.items) c.self.invariant (ap (λ b. b.live.stopped) c.self.view_is ∙ c.requires.running))

abbrev at_floor : {S : Type 0} → Fabric S → External → External
at_floor b x = record x { group = b.live.world.floor }

pub invariant_of-self-2 : goal.invariant_of-self-2
invariant_of-self-2 g c =
    let f = fab c.self.inside.world c.self.inside.journal.items c.self.inside.leased.items in
    let given : External = record { group = c.floor.result; router = c.args.router; input = c.args.input } in
    let x = at_floor f given in
    let at : given ≡ x = (λ i. record { group = c.floor.ensures i; router = c.args.router; input = c.args.input }) in
    let same : c.mark.new.self ≡ c.self.inside.world = c.in_ok-copy.ensures.mark ∙ marked_ok c.self.inside.world c.in_ok-copy.copy c.copy-copy.result c.in_ok-copy.ensures.same in
    let copy : c.in_ok-copy.copy ≡ x = from_ok (λ made. made ≡ given) c.in_ok-copy.copy c.copy-copy.result c.in_ok-copy.ensures.same c.copy-copy.ensures ∙ at in
    (inject_taken g.G.Guest.meaning (record { onward = c.one_more_step.ensures.onward; stays = c.one_more_step.ensures.stays; grows = c.one_more_step.ensures.grows; taken_off = c.one_more_step.ensures.taken_off; log = c.one_more_step.ensures.log }) f c.self.invariant (ap (λ b. b.live.stopped) c.self.view_is ∙ c.requires.running) x c.note.new.world c.note.new.journal.items
    (ap (λ b. b.live.world.closed) c.self.view_is ∙ c.requires.unclosed) refl
    (subst (λ (b : Fabric g.row.G.Denot). c.args.router < length b.live.header.routers) (sym c.self.view_is) c.requires.inside)
    (ap (λ b. is_injectable b.live.header c.args.router c.args.input) c.self.view_is ∙ c.requires.asked)
    (c.in_ok-note.ensures.world ∙ c.in_ok-inject.ensures.ok ∙ (λ i. record (same i) { world = inject (same i).world (at i) }))
    (c.in_ok-note.ensures.journal ∙ (λ i. c.self.inside.journal.items ++ Inject (copy i) ∷ []))).holds

pub returns-clause-ok : goal.returns-clause-ok
returns-clause-ok g c =
    let f = fab c.self.inside.world c.self.inside.journal.items c.self.inside.leased.items in
    let now = fab c.note.new.world c.note.new.journal.items c.self.inside.leased.items in
    let given : External = record { group = c.floor.result; router = c.args.router; input = c.args.input } in
    let x = at_floor f given in
    let at : given ≡ x = (λ i. record { group = c.floor.ensures i; router = c.args.router; input = c.args.input }) in
    let same : c.mark.new.self ≡ c.self.inside.world = c.in_ok-copy.ensures.mark ∙ marked_ok c.self.inside.world c.in_ok-copy.copy c.copy-copy.result c.in_ok-copy.ensures.same in
    let copy : c.in_ok-copy.copy ≡ x = from_ok (λ made. made ≡ given) c.in_ok-copy.copy c.copy-copy.result c.in_ok-copy.ensures.same c.copy-copy.ensures ∙ at in
    subst (λ (b : Fabric g.row.G.Denot). OfEach g.G.Guest.meaning b (λ net. HasStepped net b (Inject (at_floor b given)) now)) c.self.view_is
    (inject_taken g.G.Guest.meaning (record { onward = c.one_more_step.ensures.onward; stays = c.one_more_step.ensures.stays; grows = c.one_more_step.ensures.grows; taken_off = c.one_more_step.ensures.taken_off; log = c.one_more_step.ensures.log }) f c.self.invariant (ap (λ b. b.live.stopped) c.self.view_is ∙ c.requires.running) x c.note.new.world c.note.new.journal.items
    (ap (λ b. b.live.world.closed) c.self.view_is ∙ c.requires.unclosed) refl
    (subst (λ (b : Fabric g.row.G.Denot). c.args.router < length b.live.header.routers) (sym c.self.view_is) c.requires.inside)
    (ap (λ b. is_injectable b.live.header c.args.router c.args.input) c.self.view_is ∙ c.requires.asked)
    (c.in_ok-note.ensures.world ∙ c.in_ok-inject.ensures.ok ∙ (λ i. record (same i) { world = inject (same i).world (at i) }))
    (c.in_ok-note.ensures.journal ∙ (λ i. c.self.inside.journal.items ++ Inject (copy i) ∷ []))).stepped

pub returns-clause-noted : goal.returns-clause-noted
returns-clause-noted g c =
    let f = fab c.self.inside.world c.self.inside.journal.items c.self.inside.leased.items in
    let now = fab c.note.new.world c.note.new.journal.items c.self.inside.leased.items in
    let given : External = record { group = c.floor.result; router = c.args.router; input = c.args.input } in
    let x = at_floor f given in
    let at : given ≡ x = (λ i. record { group = c.floor.ensures i; router = c.args.router; input = c.args.input }) in
    let same : c.mark.new.self ≡ c.self.inside.world = c.in_ok-copy.ensures.mark ∙ marked_ok c.self.inside.world c.in_ok-copy.copy c.copy-copy.result c.in_ok-copy.ensures.same in
    let copy : c.in_ok-copy.copy ≡ x = from_ok (λ made. made ≡ given) c.in_ok-copy.copy c.copy-copy.result c.in_ok-copy.ensures.same c.copy-copy.ensures ∙ at in
    subst (λ (b : Fabric g.row.G.Denot). HasNoted b (Inject (at_floor b given)) now) c.self.view_is
    (inject_taken g.G.Guest.meaning (record { onward = c.one_more_step.ensures.onward; stays = c.one_more_step.ensures.stays; grows = c.one_more_step.ensures.grows; taken_off = c.one_more_step.ensures.taken_off; log = c.one_more_step.ensures.log }) f c.self.invariant (ap (λ b. b.live.stopped) c.self.view_is ∙ c.requires.running) x c.note.new.world c.note.new.journal.items
    (ap (λ b. b.live.world.closed) c.self.view_is ∙ c.requires.unclosed) refl
    (subst (λ (b : Fabric g.row.G.Denot). c.args.router < length b.live.header.routers) (sym c.self.view_is) c.requires.inside)
    (ap (λ b. is_injectable b.live.header c.args.router c.args.input) c.self.view_is ∙ c.requires.asked)
    (c.in_ok-note.ensures.world ∙ c.in_ok-inject.ensures.ok ∙ (λ i. record (same i) { world = inject (same i).world (at i) }))
    (c.in_ok-note.ensures.journal ∙ (λ i. c.self.inside.journal.items ++ Inject (copy i) ∷ []))).noted
