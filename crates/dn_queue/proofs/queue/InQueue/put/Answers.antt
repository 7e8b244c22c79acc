use Rattle.std.proofs.Common.{◌≡◌, false, [], ◌∷◌, sym, ap, ◌∙◌, subst}
use Rattle.dn_world.specs.World.{with_todo, stands}
use Rattle.dn_world.specs.Runs.{IsTidy}
use Rattle.dn_world.proofs.Parts.{without_none}
use Rattle.dn_world.proofs.Tidy.{todo_tidy}
use Rattle.dn_queue.proofs.Answers.{by_result, on_ok, on_err}
use Rattle.dn_queue.proofs.Queues.{waits, todo_vanishes, todo_comes}
use Rattle.dn_queue.proofs.queue.InQueue.put.Goals as goal

gone : (c : goal.Joined-event) → waits c.self.inside.todo c.take.new.self ≡ with_todo (c.args.event ∷ []) (waits c.self.inside.todo c.self.inside.voids)
gone c =
    todo_vanishes c.args.event c.self.inside.todo c.self.inside.voids c.take.new.self c.self.invariant
    (sym c.take.ensures.stands ∙ sym c.is_some.ensures ∙ c.if-is_some.true) c.take.ensures.rest

pub invariant_of-self : goal.invariant_of-self
invariant_of-self c =
    subst IsTidy (sym (gone c)) (todo_tidy (c.args.event ∷ []) (waits c.self.inside.todo c.self.inside.voids) c.self.invariant)

pub returns-then-is_some-clause-ok : goal.returns-then-is_some-clause-ok
returns-then-is_some-clause-ok c = gone c ∙ ap (with_todo (c.args.event ∷ [])) c.self.view_is

away : (c : goal.After-put) → stands c.args.event c.self.inside.voids ≡ false
away c = sym c.take.ensures.stands ∙ sym c.is_some.ensures ∙ c.if-is_some.false

-- voids stays, since the event isn't there
voids_are : (c : goal.After-put) → c.take.new.self ≡ c.self.inside.voids
voids_are c = c.take.ensures.rest ∙ without_none c.args.event c.self.inside.voids (away c)

pub invariant_of-self-2 : goal.invariant_of-self-2
invariant_of-self-2 c =
    let todo = c.self.inside.todo in
    let voids = c.self.inside.voids in
    by_result c.put.result c.put.ensures.ok c.put.ensures.err
    (λ h.
    let is = ap (waits c.put.new.self) (voids_are c) ∙ todo_comes c.args.event todo voids c.put.new.self c.self.invariant (away c) h in
    subst IsTidy (sym is) (todo_tidy (c.args.event ∷ []) (waits todo voids) c.self.invariant))
    (λ h. subst IsTidy (λ i. waits (sym h i) (sym (voids_are c) i)) c.self.invariant)

pub returns-clause-ok : goal.returns-clause-ok
returns-clause-ok c =
    on_ok c.put.result c.put.ensures.ok
    (λ h.
    ap (waits c.put.new.self) (voids_are c)
    ∙ todo_comes c.args.event c.self.inside.todo c.self.inside.voids c.put.new.self c.self.invariant (away c) h
    ∙ ap (with_todo (c.args.event ∷ [])) c.self.view_is)

pub returns-clause-err : goal.returns-clause-err
returns-clause-err c =
    on_err c.put.result c.put.ensures.err (λ h. (λ i. waits (h i) (voids_are c i)) ∙ c.self.view_is)
