use Rattle.std.proofs.Common.{◌≡◌, ℕ, length, sym, ap, ◌∙◌, subst, arith}
use Rattle.dn_world.specs.declared.packet.Packet.{Packet}
use Rattle.dn_world.specs.World.{Part, stands}
use Rattle.dn_world.specs.Steps.{arrived}
use Rattle.dn_world.specs.Runs.{IsPast}
use Rattle.dn_router.specs.Routers.{Speculation}
use Rattle.dn_router.specs.Sound.{IsSound, marked_in, recounted}
use Rattle.dn_router.proofs.Marks.{counted, voids_change}
use Rattle.dn_router.proofs.Sound.{beside, seen, arrived_beside, sound_arrived}
use Rattle.dn_router.proofs.router.Router.arrive.Goals as goal

pub recount-self-inside-requires-clause-some : goal.recount-self-inside-requires-clause-some
recount-self-inside-requires-clause-some g c =
    let e = c.args.event in
    let done = c.self.inside.done.items in
    let q = c.self.inside.queue in
    let p = beside done q in
    let after = arrived (record { plus = c.args.plus; event = e }) p in
    let is : beside done c.arrive_in.new.queue ≡ after = ap (beside done) c.in_ok-arrive_in.ensures.ok ∙ sym (arrived_beside c.args.plus e done q) in
    let n = ap length c.voids.ensures.voids in
    let m = ap length c.voids-2.ensures.voids in
    let o = ap (λ x. length x.voids) is in
    let handled : c.stands-handled.result ≡ stands e done = c.stands-handled.ensures ∙ ap (stands e) c.as_slice.ensures.value in
    let cs = counted e done p.voids after.voids (voids_change c.args.plus e p c.self.invariant.tidy) in
    let w = c.self.invariant.wrong in
    λ t less. (let pos = cs.some (sym handled ∙ t) (omega (arith, less, n, m, o)) in omega (arith, pos, w))

pub recount-self-inside-requires-clause-room : goal.recount-self-inside-requires-clause-room
recount-self-inside-requires-clause-room g c =
    let e = c.args.event in
    let done = c.self.inside.done.items in
    let q = c.self.inside.queue in
    let p = beside done q in
    let after = arrived (record { plus = c.args.plus; event = e }) p in
    let is : beside done c.arrive_in.new.queue ≡ after = ap (beside done) c.in_ok-arrive_in.ensures.ok ∙ sym (arrived_beside c.args.plus e done q) in
    let n = ap length c.voids.ensures.voids in
    let m = ap length c.voids-2.ensures.voids in
    let o = ap (λ x. length x.voids) is in
    let handled : c.stands-handled.result ≡ stands e done = c.stands-handled.ensures ∙ ap (stands e) c.as_slice.ensures.value in
    let cs = counted e done p.voids after.voids (voids_change c.args.plus e p c.self.invariant.tidy) in
    let w = c.self.invariant.wrong in
    λ t more. (let short = cs.room (sym handled ∙ t) (omega (arith, more, n, m, o)) in omega (arith, short, w, n, m, o))

pub invariant_of-self-2 : goal.invariant_of-self-2
invariant_of-self-2 g c =
    let e = c.args.event in
    let done = c.self.inside.done.items in
    let q = c.self.inside.queue in
    let p = beside done q in
    let after = arrived (record { plus = c.args.plus; event = e }) p in
    let is : beside done c.arrive_in.new.queue ≡ after = ap (beside done) c.in_ok-arrive_in.ensures.ok ∙ sym (arrived_beside c.args.plus e done q) in
    let n : length c.voids.result.now ≡ length p.voids = ap length c.voids.ensures.voids in
    let m : length c.voids-2.result.now ≡ length after.voids = ap length c.voids-2.ensures.voids ∙ ap (λ x. length x.voids) is in
    let handled : c.stands-handled.result ≡ stands e done = c.stands-handled.ensures ∙ ap (stands e) c.as_slice.ensures.value in
    let cs = counted e done p.voids after.voids (voids_change c.args.plus e p c.self.invariant.tidy) in
    let count : c.recount-self-inside.result ≡ marked_in done after.voids =
    c.recount-self-inside.ensures ∙ (λ i. recounted (c.self.invariant.wrong i) (handled i) (n i) (m i)) ∙ cs.is in
    let own : e.router ≡ c.self.inside.number = c.requires.own ∙ sym (ap (λ s. s.number) c.self.view_is) in
    let past : IsPast c.self.inside.bound e.key = subst (λ b. IsPast b e.key) (sym (ap (λ s. s.bound) c.self.view_is)) c.requires.past in
    let sound = sound_arrived g.G.Guest.meaning c.self.inside.number c.self.inside.timing.period c.self.inside.opening c.args.plus e p c.self.inside.shelf c.self.inside.wrong c.self.inside.committed c.self.inside.bound c.self.invariant (own, past) in
    let on_part = subst (λ (x : Part). IsSound g.G.Guest.meaning c.self.inside.number c.self.inside.timing.period c.self.inside.opening x c.self.inside.shelf (marked_in done after.voids) c.self.inside.committed c.self.inside.bound) (sym is) sound in
    subst (λ (k : ℕ). IsSound g.G.Guest.meaning c.self.inside.number c.self.inside.timing.period c.self.inside.opening (beside done c.arrive_in.new.queue) c.self.inside.shelf k c.self.inside.committed c.self.inside.bound) (sym count) on_part

abbrev with_arrived : {S : Type 0} → Packet → Speculation S → Speculation S
with_arrived k s = record s { part = arrived k s.part }

pub returns-clause-ok : goal.returns-clause-ok
returns-clause-ok g c =
    let e = c.args.event in
    let done = c.self.inside.done.items in
    let q = c.self.inside.queue in
    let k : Packet = record { plus = c.args.plus; event = e } in
    let is : beside done c.arrive_in.new.queue ≡ arrived k (beside done q) = ap (beside done) c.in_ok-arrive_in.ensures.ok ∙ sym (arrived_beside c.args.plus e done q) in
    ap (λ part. seen c.self.inside.number c.self.inside.ends.items c.self.inside.timing c.self.inside.opening part c.self.inside.committed c.self.inside.bound) is
    ∙ ap (with_arrived k) c.self.view_is
