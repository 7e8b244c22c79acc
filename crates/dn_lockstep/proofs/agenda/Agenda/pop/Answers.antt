use Rattle.std.proofs.Common.{◌≡◌, [], ◌∷◌, ◌++◌, subst, sym}
use Rattle.std.proofs.lemmas.Option.{IfSome_then}
use Rattle.std.specs.List.Sorted.{IsPermutation}
use Rattle.std.proofs.lemmas.List.Sorted.{IsPermutation-append_left}
use Rattle.dn_lockstep.specs.Least.{IsUpTo}
use Rattle.dn_lockstep.specs.Agendas.{Plan, waiting_in, later_ticks, IsFronted}
use Rattle.dn_lockstep.proofs.Options.{if_some_both, if_none_then}
use Rattle.dn_lockstep.proofs.Groups.{up_to_all, nothing_waits}
use Rattle.dn_lockstep.proofs.agenda.Agenda.pop.Goals as goal

pub returns-clause-taken : goal.returns-clause-taken
unfolding waiting_in
returns-clause-taken c =
    let later = later_ticks c.self.inside.group c.self.inside.left c.self.inside.routers in
    IfSome_then c.pop.result c.pop.ensures.taken
    (λ e moves.
    subst (λ (p : Plan). IsPermutation (waiting_in p) (e ∷ (c.pop.new.self ++ later))) c.self.view_is
    (IsPermutation-append_left later c.self.inside.queue (e ∷ c.pop.new.self) moves))

pub returns-clause-first : goal.returns-clause-first
unfolding waiting_in
returns-clause-first c =
    let later = later_ticks c.self.inside.group c.self.inside.left c.self.inside.routers in
    if_some_both c.pop.result (λ e. IsPermutation c.self.inside.queue (e ∷ c.pop.new.self)) (λ e. IsUpTo e c.pop.new.self) (λ e. IsFronted c.args.self.now → IsUpTo e (c.pop.new.self ++ later)) c.pop.ensures.taken c.pop.ensures.first
    (λ e moves first fronted.
    up_to_all e c.self.inside.group c.self.inside.left c.self.inside.routers c.self.inside.queue c.pop.new.self moves first (subst IsFronted (sym c.self.view_is) fronted))

pub returns-clause-none : goal.returns-clause-none
unfolding waiting_in
returns-clause-none c =
    if_none_then c.pop.result ((c.self.inside.queue ≡ []) × (c.pop.new.self ≡ [])) (IsFronted c.args.self.now → waiting_in c.args.self.now ≡ []) c.pop.ensures.none
    (λ none fronted.
    subst (λ (p : Plan). waiting_in p ≡ []) c.self.view_is
    (nothing_waits c.self.inside.group c.self.inside.left c.self.inside.routers c.self.inside.queue none.0 (subst IsFronted (sym c.self.view_is) fronted)))
