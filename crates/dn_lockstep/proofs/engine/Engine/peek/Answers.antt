use Rattle.std.proofs.Common.{◌≡◌, [], sym, ap, ◌∙◌, subst}
use Rattle.std.proofs.lemmas.Option.{IfSome_then}
use Rattle.dn_lockstep.specs.Agendas.{waiting_in, IsFronted}
use Rattle.dn_lockstep.specs.Least.{IsLeast}
use Rattle.dn_lockstep.specs.Running.{Running}
use Rattle.dn_lockstep.proofs.Options.{if_none_then}
use Rattle.dn_lockstep.proofs.Onward.{OneByOne, peek_is}
use Rattle.dn_lockstep.proofs.engine.Engine.peek.Goals as goal

pub returns : goal.returns
returns g c =
    λ net feed so.
    let rows_one_by_one : OneByOne net feed =
    record {
      in_any_order = λ done waits other so_far moves. c.rows_one_by_one.ensures.in_any_order net feed done waits other so_far moves;
      onward = λ timed wired fed done waits rest e so_far moves first. c.rows_one_by_one.ensures.onward net feed timed wired fed done waits rest e so_far moves first;
      next = λ timed fed done waits rest e so_far moves first. c.rows_one_by_one.ensures.next net feed timed fed done waits rest e so_far moves first;
      last = λ timed fed done so_far. c.rows_one_by_one.ensures.last net feed timed fed done so_far;
    } in
    let fronted = c.self.invariant.fronted (ap (λ (r : Running g.row.G.Denot). r.spent) c.self.view_is ∙ so.unspent) in
    let same : waiting_in c.self.inside.agenda ≡ c.args.self.now.waiting = ap (λ (r : Running g.row.G.Denot). r.waiting) c.self.view_is in
    peek_is net feed rows_one_by_one c.args.self.now so c.peek.result
    (IfSome_then c.peek.result c.peek.ensures.least (λ x least. subst (IsLeast x.now) same (least fronted)))
    (if_none_then c.peek.result (IsFronted c.self.inside.agenda → waiting_in c.self.inside.agenda ≡ []) (c.args.self.now.waiting ≡ []) c.peek.ensures.none (λ none. sym same ∙ none fronted))
