use Rattle.std.proofs.Common.{◌∷◌, ◌++◌, subst}
use Rattle.std.proofs.lemmas.Result.{MatchResult-weaker}
use Rattle.std.specs.List.Sorted.{IsPermutation}
use Rattle.std.proofs.lemmas.List.Sorted.{IsPermutation-append_left}
use Rattle.dn_lockstep.specs.Agendas.{Plan, waiting_in, later_ticks}
use Rattle.dn_lockstep.proofs.agenda.Agenda.push.Goals as goal

pub returns : goal.returns
unfolding waiting_in
returns c =
    MatchResult-weaker c.push.result c.push.ensures.ok
    (λ u moves.
    let later = later_ticks c.self.inside.group c.self.inside.left c.self.inside.routers in
    subst (λ (p : Plan). IsPermutation (c.args.event ∷ waiting_in p) (c.push.new.self ++ later)) c.self.view_is
    (IsPermutation-append_left later (c.args.event ∷ c.self.inside.queue) c.push.new.self moves))
    (λ e h. h)
