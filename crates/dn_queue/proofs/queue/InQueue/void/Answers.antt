use Rattle.std.proofs.Common.{◌≡◌, false, sym, ap, ◌∙◌, subst}
use Rattle.dn_world.specs.World.{with_void, stands}
use Rattle.dn_world.specs.Runs.{IsTidy}
use Rattle.dn_world.proofs.Parts.{without_none}
use Rattle.dn_world.proofs.Tidy.{void_tidy}
use Rattle.dn_queue.proofs.Answers.{by_result, on_ok, on_err}
use Rattle.dn_queue.proofs.Queues.{waits, void_vanishes, void_comes}
use Rattle.dn_queue.proofs.queue.InQueue.void.Goals as goal

gone : (c : goal.Joined-event) → waits c.take_out.new.self c.self.inside.voids ≡ with_void c.args.event (waits c.self.inside.todo c.self.inside.voids)
gone c =
    void_vanishes c.args.event c.self.inside.todo c.self.inside.voids c.take_out.new.self c.self.invariant
    (sym c.take_out.ensures.stands ∙ c.if-take_out.true) c.take_out.ensures.rest

pub invariant_of-self : goal.invariant_of-self
invariant_of-self c =
    subst IsTidy (sym (gone c)) (void_tidy c.args.event (waits c.self.inside.todo c.self.inside.voids) c.self.invariant)

pub returns-then-take_out-clause-ok : goal.returns-then-take_out-clause-ok
returns-then-take_out-clause-ok c = gone c ∙ ap (with_void c.args.event) c.self.view_is

away : (c : goal.After-put) → stands c.args.event c.self.inside.todo ≡ false
away c = sym c.take_out.ensures.stands ∙ c.if-take_out.false

-- todo stays, since the event isn't there
todo_is : (c : goal.After-put) → c.take_out.new.self ≡ c.self.inside.todo
todo_is c = c.take_out.ensures.rest ∙ without_none c.args.event c.self.inside.todo (away c)

pub invariant_of-self-2 : goal.invariant_of-self-2
invariant_of-self-2 c =
    let todo = c.self.inside.todo in
    let voids = c.self.inside.voids in
    by_result c.put.result c.put.ensures.ok c.put.ensures.err
    (λ h.
    let is = ap (λ l. waits l c.put.new.self) (todo_is c) ∙ void_comes c.args.event todo voids c.put.new.self c.self.invariant (away c) h in
    subst IsTidy (sym is) (void_tidy c.args.event (waits todo voids) c.self.invariant))
    (λ h. subst IsTidy (λ i. waits (sym (todo_is c) i) (sym h i)) c.self.invariant)

pub returns-clause-ok : goal.returns-clause-ok
returns-clause-ok c =
    on_ok c.put.result c.put.ensures.ok
    (λ h.
    ap (λ l. waits l c.put.new.self) (todo_is c)
    ∙ void_comes c.args.event c.self.inside.todo c.self.inside.voids c.put.new.self c.self.invariant (away c) h
    ∙ ap (with_void c.args.event) c.self.view_is)

pub returns-clause-err : goal.returns-clause-err
returns-clause-err c =
    on_err c.put.result c.put.ensures.err (λ h. (λ i. waits (todo_is c i) (h i)) ∙ c.self.view_is)
