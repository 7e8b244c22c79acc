use Rattle.std.proofs.Common.{sym, ap, ◌∙◌}
use Rattle.std.proofs.lemmas.Result.{MatchResult-weaker}
use Rattle.dn_model.specs.SoFar.{by_router}
use Rattle.dn_lockstep.specs.Agendas.{Plan, waiting_in}
use Rattle.dn_lockstep.specs.Running.{messages}
use Rattle.dn_lockstep.proofs.Messages.{messages_in_queue}
use Rattle.dn_lockstep.proofs.agenda.Agenda.messages_to.Goals as goal

pub returns : goal.returns
unfolding waiting_in
returns c =
    MatchResult-weaker c.messages_to.result c.messages_to.ensures
    (λ found is.
    is
    ∙ sym (messages_in_queue c.args.router c.self.inside.queue c.self.inside.group c.self.inside.left c.self.inside.routers)
    ∙ ap (λ (p : Plan). messages (by_router (waiting_in p) c.args.router)) c.self.view_is)
    (λ e h. h)
