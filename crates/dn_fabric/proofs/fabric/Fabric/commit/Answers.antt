use Rattle.std.proofs.Common.{◌≡◌, length, refl, sym, ap, ◌∙◌, subst, arith}
use Rattle.dn_world.specs.declared.step.Step.TheVariants.{Commit}
use Rattle.dn_fabric.specs.Fabrics.{Fabric, HasStepped, HasNoted, HasStopped}
use Rattle.dn_fabric.proofs.Calls.{OfEach, horizon_past, halted_holds, on_err_all}
use Rattle.dn_fabric.proofs.Taken.{fab, committed_live, commit_taken, commit_keeps, half_taken}
use Rattle.dn_fabric.proofs.fabric.Fabric.commit.Goals as goal

pub commit-requires-clause-rising : goal.commit-requires-clause-rising
commit-requires-clause-rising g c κs within =
    horizon_past g.G.Guest.meaning c.reached_fabrics.ensures.ahead (fab c.self.inside.world c.self.inside.journal.items c.self.inside.leased.items) c.self.invariant (ap (λ b. b.live.stopped) c.self.view_is ∙ c.requires.running)

pub invariant_of-self-in_err-note : goal.invariant_of-self-in_err-note
invariant_of-self-in_err-note g c =
    let f = fab c.self.inside.world c.self.inside.journal.items c.self.inside.leased.items in
    halted_holds g.G.Guest.meaning f (fab c.note.new.world c.note.new.journal.items c.self.inside.leased.items) c.self.invariant
    (half_taken g.G.Guest.meaning (record { onward = c.one_more_step.ensures.onward; stays = c.one_more_step.ensures.stays; grows = c.one_more_step.ensures.grows; taken_off = c.one_more_step.ensures.taken_off; log = c.one_more_step.ensures.log }) f c.self.invariant (ap (λ b. b.live.stopped) c.self.view_is ∙ c.requires.running) c.commit.new.self c.note.new.world c.note.new.journal.items
    (λ net. committed_live net c.self.inside.world)
    c.in_ok-commit.ensures.world (λ net. refl) (λ net. refl) c.in_err-note.ensures.stopped c.in_err-note.ensures.same) refl

pub returns-in_err-note-clause-err : goal.returns-in_err-note-clause-err
returns-in_err-note-clause-err g c =
    let f = fab c.self.inside.world c.self.inside.journal.items c.self.inside.leased.items in
    let now = fab c.note.new.world c.note.new.journal.items c.self.inside.leased.items in
    on_err_all c.from_residual-in_err-note.result
    (subst (λ (b : Fabric g.row.G.Denot). HasStopped b now) c.self.view_is
    (half_taken g.G.Guest.meaning (record { onward = c.one_more_step.ensures.onward; stays = c.one_more_step.ensures.stays; grows = c.one_more_step.ensures.grows; taken_off = c.one_more_step.ensures.taken_off; log = c.one_more_step.ensures.log }) f c.self.invariant (ap (λ b. b.live.stopped) c.self.view_is ∙ c.requires.running) c.commit.new.self c.note.new.world c.note.new.journal.items
    (λ net. committed_live net c.self.inside.world)
    c.in_ok-commit.ensures.world (λ net. refl) (λ net. refl) c.in_err-note.ensures.stopped c.in_err-note.ensures.same))

pub overflow_sub-result : goal.overflow_sub-result
overflow_sub-result g c =
    let f = fab c.self.inside.world c.self.inside.journal.items c.self.inside.leased.items in
    let keeps = commit_keeps g.G.Guest.meaning (record { onward = c.one_more_step.ensures.onward; stays = c.one_more_step.ensures.stays; grows = c.one_more_step.ensures.grows; taken_off = c.one_more_step.ensures.taken_off; log = c.one_more_step.ensures.log }) f c.self.invariant (ap (λ b. b.live.stopped) c.self.view_is ∙ c.requires.running) c.note.new.world
    (λ net of. c.in_ok-note.ensures.world ∙ c.in_ok-commit.ensures.world net of) in
    let before = ap length c.rows.ensures in
    let now = ap length c.rows-2.ensures in
    omega (arith, keeps, before, now)

pub invariant_of-self-2 : goal.invariant_of-self-2
invariant_of-self-2 g c =
    let f = fab c.self.inside.world c.self.inside.journal.items c.self.inside.leased.items in
    (commit_taken g.G.Guest.meaning (record { onward = c.one_more_step.ensures.onward; stays = c.one_more_step.ensures.stays; grows = c.one_more_step.ensures.grows; taken_off = c.one_more_step.ensures.taken_off; log = c.one_more_step.ensures.log }) f c.self.invariant (ap (λ b. b.live.stopped) c.self.view_is ∙ c.requires.running) c.note.new.world c.note.new.journal.items
    (λ net of. c.in_ok-note.ensures.world ∙ c.in_ok-commit.ensures.world net of) c.in_ok-note.ensures.journal).holds

pub invariant_of-self-then-is_cut : goal.invariant_of-self-then-is_cut
invariant_of-self-then-is_cut g c =
    let f = fab c.self.inside.world c.self.inside.journal.items c.self.inside.leased.items in
    (commit_taken g.G.Guest.meaning (record { onward = c.one_more_step.ensures.onward; stays = c.one_more_step.ensures.stays; grows = c.one_more_step.ensures.grows; taken_off = c.one_more_step.ensures.taken_off; log = c.one_more_step.ensures.log }) f c.self.invariant (ap (λ b. b.live.stopped) c.self.view_is ∙ c.requires.running) c.note.new.world c.note.new.journal.items
    (λ net of. c.in_ok-note.ensures.world ∙ c.in_ok-commit.ensures.world net of) c.in_ok-note.ensures.journal).holds

pub returns-then-is_cut-clause-ok : goal.returns-then-is_cut-clause-ok
returns-then-is_cut-clause-ok g c =
    let f = fab c.self.inside.world c.self.inside.journal.items c.self.inside.leased.items in
    let now = fab c.note.new.world c.note.new.journal.items c.self.inside.leased.items in
    subst (λ (b : Fabric g.row.G.Denot). OfEach g.G.Guest.meaning b (λ net. HasStepped net b Commit now)) c.self.view_is
    (commit_taken g.G.Guest.meaning (record { onward = c.one_more_step.ensures.onward; stays = c.one_more_step.ensures.stays; grows = c.one_more_step.ensures.grows; taken_off = c.one_more_step.ensures.taken_off; log = c.one_more_step.ensures.log }) f c.self.invariant (ap (λ b. b.live.stopped) c.self.view_is ∙ c.requires.running) c.note.new.world c.note.new.journal.items
    (λ net of. c.in_ok-note.ensures.world ∙ c.in_ok-commit.ensures.world net of) c.in_ok-note.ensures.journal).stepped

pub returns-then-is_cut-clause-noted : goal.returns-then-is_cut-clause-noted
returns-then-is_cut-clause-noted g c =
    let f = fab c.self.inside.world c.self.inside.journal.items c.self.inside.leased.items in
    let now = fab c.note.new.world c.note.new.journal.items c.self.inside.leased.items in
    subst (λ (b : Fabric g.row.G.Denot). HasNoted b Commit now) c.self.view_is
    (commit_taken g.G.Guest.meaning (record { onward = c.one_more_step.ensures.onward; stays = c.one_more_step.ensures.stays; grows = c.one_more_step.ensures.grows; taken_off = c.one_more_step.ensures.taken_off; log = c.one_more_step.ensures.log }) f c.self.invariant (ap (λ b. b.live.stopped) c.self.view_is ∙ c.requires.running) c.note.new.world c.note.new.journal.items
    (λ net of. c.in_ok-note.ensures.world ∙ c.in_ok-commit.ensures.world net of) c.in_ok-note.ensures.journal).noted

pub returns-clause-ok : goal.returns-clause-ok
returns-clause-ok g c =
    let f = fab c.self.inside.world c.self.inside.journal.items c.self.inside.leased.items in
    let now = fab c.note.new.world c.note.new.journal.items c.self.inside.leased.items in
    subst (λ (b : Fabric g.row.G.Denot). OfEach g.G.Guest.meaning b (λ net. HasStepped net b Commit now)) c.self.view_is
    (commit_taken g.G.Guest.meaning (record { onward = c.one_more_step.ensures.onward; stays = c.one_more_step.ensures.stays; grows = c.one_more_step.ensures.grows; taken_off = c.one_more_step.ensures.taken_off; log = c.one_more_step.ensures.log }) f c.self.invariant (ap (λ b. b.live.stopped) c.self.view_is ∙ c.requires.running) c.note.new.world c.note.new.journal.items
    (λ net of. c.in_ok-note.ensures.world ∙ c.in_ok-commit.ensures.world net of) c.in_ok-note.ensures.journal).stepped

pub returns-clause-noted : goal.returns-clause-noted
returns-clause-noted g c =
    let f = fab c.self.inside.world c.self.inside.journal.items c.self.inside.leased.items in
    let now = fab c.note.new.world c.note.new.journal.items c.self.inside.leased.items in
    subst (λ (b : Fabric g.row.G.Denot). HasNoted b Commit now) c.self.view_is
    (commit_taken g.G.Guest.meaning (record { onward = c.one_more_step.ensures.onward; stays = c.one_more_step.ensures.stays; grows = c.one_more_step.ensures.grows; taken_off = c.one_more_step.ensures.taken_off; log = c.one_more_step.ensures.log }) f c.self.invariant (ap (λ b. b.live.stopped) c.self.view_is ∙ c.requires.running) c.note.new.world c.note.new.journal.items
    (λ net of. c.in_ok-note.ensures.world ∙ c.in_ok-commit.ensures.world net of) c.in_ok-note.ensures.journal).noted

pub returns-clause-answer : goal.returns-clause-answer
returns-clause-answer g c =
    let f = fab c.self.inside.world c.self.inside.journal.items c.self.inside.leased.items in
    let keeps = commit_keeps g.G.Guest.meaning (record { onward = c.one_more_step.ensures.onward; stays = c.one_more_step.ensures.stays; grows = c.one_more_step.ensures.grows; taken_off = c.one_more_step.ensures.taken_off; log = c.one_more_step.ensures.log }) f c.self.invariant (ap (λ b. b.live.stopped) c.self.view_is ∙ c.requires.running) c.note.new.world
    (λ net of. c.in_ok-note.ensures.world ∙ c.in_ok-commit.ensures.world net of) in
    let before = ap length c.rows.ensures in
    let now = ap length c.rows-2.ensures in
    let was : length c.self.inside.world.rows ≡ length c.args.self.now.live.rows = ap (λ b. length b.live.rows) c.self.view_is in
    (sym c.is_cut.ensures ∙ c.if-is_cut.false, omega (arith, keeps, before, now, was))
