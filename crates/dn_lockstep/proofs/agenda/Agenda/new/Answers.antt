use Rattle.std.proofs.Common.{◌≡◌, ℕ, ◌++◌, length, ap, ◌∙◌, subst}
use Rattle.std.specs.List.Sorted.{IsPermutation}
use Rattle.std.proofs.lemmas.List.Sorted.{IsPermutation-append_left, IsPermutation-trans}
use Rattle.dn_model.specs.Cases.{Heading}
use Rattle.dn_model.specs.Network.{externals}
use Rattle.dn_lockstep.specs.Agendas.{waiting_in, later_ticks}
use Rattle.dn_lockstep.proofs.agenda.Agenda.new.Goals as goal

pub returns-clause-all : goal.returns-clause-all
unfolding waiting_in
returns-clause-all c =
    let made = c.in_ok-queued_externals.field-0 in
    let groups : c.header.inside.groups ≡ c.args.header.now.groups = ap (λ (h : Heading). h.groups) c.header.view_is in
    let routers : length c.as_slice.result.now ≡ length c.args.header.now.routers =
    ap length (c.as_slice.ensures ∙ ap (λ (h : Heading). h.routers) c.header.view_is) in
    let same : IsPermutation (made ++ later_ticks 0 c.args.header.now.groups (length c.args.header.now.routers)) (waiting_in c.refill.new.self) =
    subst (λ (n : ℕ). IsPermutation (made ++ later_ticks 0 c.args.header.now.groups n) (waiting_in c.refill.new.self)) routers
    (subst (λ (n : ℕ). IsPermutation (made ++ later_ticks 0 n (length c.as_slice.result.now)) (waiting_in c.refill.new.self)) groups c.in_ok-refill.ensures.same) in
    IsPermutation-trans (externals 0 c.args.feed.now ++ later_ticks 0 c.args.header.now.groups (length c.args.header.now.routers)) (made ++ later_ticks 0 c.args.header.now.groups (length c.args.header.now.routers)) (waiting_in c.refill.new.self)
    (IsPermutation-append_left (later_ticks 0 c.args.header.now.groups (length c.args.header.now.routers)) (externals 0 c.args.feed.now) made c.in_ok-queued_externals.ensures) same
