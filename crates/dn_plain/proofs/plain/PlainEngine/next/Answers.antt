use Rattle.std.proofs.Common.{◌≡◌, ◌+◌, ◌<◌, Bool, Some, List, [], ◌++◌, length, take, drop, refl, sym, ap, ◌∙◌, subst, arith}
use Rattle.std.proofs.lemmas.Bool.{eqb-true, eqb-false}
use Rattle.dn_guest.specs.declared.node.Node.{Node}
use Rattle.dn_model.specs.Settled.{rows}
use Rattle.dn_lockstep.specs.Least.{IsLeast}
use Rattle.dn_lockstep.specs.Running.{Running, StandsIn}
use Rattle.dn_lockstep.specs.Steps.{IsHandled}
use Rattle.dn_lockstep.proofs.Firsts.{some_least}
use Rattle.dn_lockstep.proofs.Places.{kept_items, no_items}
use Rattle.dn_lockstep.proofs.Handling.{handled_inside}
use Rattle.dn_lockstep.proofs.Onward.{OneByOne, OneFamily, place_at_end, at_end, more_rows, stands_on, answer_end, answer_cut, answer_row}
use Rattle.dn_plain.proofs.plain.PlainEngine.next.Goals as goal

pub returns-then-is_empty-clause-answer : goal.returns-then-is_empty-clause-answer
returns-then-is_empty-clause-answer g c =
    λ net feed are so.
    let rows_one_by_one : OneByOne net feed =
    record {
      in_any_order = λ done waits other so_far moves. c.rows_one_by_one.ensures.in_any_order net feed done waits other so_far moves;
      onward = λ timed wired fed done waits rest e so_far moves first. c.rows_one_by_one.ensures.onward net feed timed wired fed done waits rest e so_far moves first;
      next = λ timed fed done waits rest e so_far moves first. c.rows_one_by_one.ensures.next net feed timed fed done waits rest e so_far moves first;
      last = λ timed fed done so_far. c.rows_one_by_one.ensures.last net feed timed fed done so_far;
    } in
    let zero : c.self.inside.waiting.len ≡ 0 = eqb-true c.self.inside.waiting.len 0 (sym c.is_empty.ensures ∙ c.if-is_empty.true) in
    let none : c.self.inside.waiting.items ≡ [] = no_items c.self.inside.waiting.items (omega (arith, zero, c.self.inside.waiting.ok)) in
    answer_end c.args.self.now.place (rows net feed) (place_at_end net feed rows_one_by_one c.args.self.now so (ap (λ (r : Running g.row.G.Denot). r.waiting) (sym c.self.view_is) ∙ none))

pub returns-then-is_empty-clause-moved : goal.returns-then-is_empty-clause-moved
returns-then-is_empty-clause-moved g c =
    λ net feed are so.
    let rows_one_by_one : OneByOne net feed =
    record {
      in_any_order = λ done waits other so_far moves. c.rows_one_by_one.ensures.in_any_order net feed done waits other so_far moves;
      onward = λ timed wired fed done waits rest e so_far moves first. c.rows_one_by_one.ensures.onward net feed timed wired fed done waits rest e so_far moves first;
      next = λ timed fed done waits rest e so_far moves first. c.rows_one_by_one.ensures.next net feed timed fed done waits rest e so_far moves first;
      last = λ timed fed done so_far. c.rows_one_by_one.ensures.last net feed timed fed done so_far;
    } in
    let zero : c.self.inside.waiting.len ≡ 0 = eqb-true c.self.inside.waiting.len 0 (sym c.is_empty.ensures ∙ c.if-is_empty.true) in
    let none : c.self.inside.waiting.items ≡ [] = no_items c.self.inside.waiting.items (omega (arith, zero, c.self.inside.waiting.ok)) in
    let one : OneFamily net feed =
    record {
      no_other = λ timed fed f is. c.one_settled_family.ensures.no_other_is net feed timed fed f is;
      lockstep_below = λ timed fed bound. c.one_settled_family.ensures.lockstep_is_below net feed timed fed bound;
      no_other_below = λ timed fed bound f is. c.one_settled_family.ensures.no_other_is_below net feed timed fed bound f is;
      same = λ bound f h same is. c.same_families.ensures.settled_below net feed bound f h same is;
    } in
    (refl, at_end net feed rows_one_by_one c.args.self.now so one (ap (λ (r : Running g.row.G.Denot). r.waiting) (sym c.self.view_is) ∙ none))

pub returns-then-self-row_limit-clause-answer : goal.returns-then-self-row_limit-clause-answer
returns-then-self-row_limit-clause-answer g c =
    λ net feed are so.
    let rows_one_by_one : OneByOne net feed =
    record {
      in_any_order = λ done waits other so_far moves. c.rows_one_by_one.ensures.in_any_order net feed done waits other so_far moves;
      onward = λ timed wired fed done waits rest e so_far moves first. c.rows_one_by_one.ensures.onward net feed timed wired fed done waits rest e so_far moves first;
      next = λ timed fed done waits rest e so_far moves first. c.rows_one_by_one.ensures.next net feed timed fed done waits rest e so_far moves first;
      last = λ timed fed done so_far. c.rows_one_by_one.ensures.last net feed timed fed done so_far;
    } in
    let some : c.self.inside.waiting.items ≡ [] → ⊥ = λ none. eqb-false c.self.inside.waiting.len 0 (sym c.is_empty.ensures ∙ c.if-is_empty.false) (omega (arith, c.self.inside.waiting.ok, ap length none)) in
    let same : c.self.inside.waiting.items ≡ c.args.self.now.waiting = ap (λ (r : Running g.row.G.Denot). r.waiting) c.self.view_is in
    let least = some_least (c.self.inside.waiting.items) some in
    let more : c.args.self.now.place < length (rows net feed) = more_rows net feed rows_one_by_one c.args.self.now so least.0 (subst (IsLeast least.0) same least.1) in
    answer_cut c.args.self.now.place (rows net feed) more (ap (λ (r : Running g.row.G.Denot). r.place) (sym c.self.view_is) ∙ c.if-self-row_limit.true ∙ c.row_limit.ensures)

pub invariant_of-self : goal.invariant_of-self
invariant_of-self g c =
    let new = c.handle_least.new.nodes in
    let old_len : length c.as_mut_slice.result.now ≡ length c.self.inside.nodes.items = ap length c.as_mut_slice.ensures.value in
    let len : c.self.inside.nodes.len ≡ length new = omega (arith, old_len, c.handle_least.auto.nodes, c.self.inside.nodes.ok) in
    let same : take c.self.inside.nodes.len (new ++ drop (length new) c.self.inside.nodes.items) ≡ new = kept_items c.self.inside.nodes.len new c.self.inside.nodes.items len in
    let count : length (take c.self.inside.nodes.len (new ++ drop (length new) c.self.inside.nodes.items)) ≡ length new = ap length same in
    record {
      rules = c.self.invariant.rules;
      one_each = omega (arith, count, old_len, c.handle_least.auto.nodes, c.self.invariant.one_each);
      within = omega (arith, c.self.invariant.within, c.row_limit.ensures, c.if-self-row_limit.false);
      inside = λ unspent.
          handled_inside g.G.Guest.meaning c.self.inside.header c.as_mut_slice.result.now
          (λ cause sents. c.lists_of_routers.ensures.inside c.self.inside.header cause sents c.self.invariant.rules) (c.self.inside.waiting.items) (c.handle_least.new.waiting.items) c.in-Ok.event new (c.self.invariant.inside unspent) c.in-Ok.ensures;
    }

pub returns-in-Ok-clause-answer : goal.returns-in-Ok-clause-answer
returns-in-Ok-clause-answer g c =
    λ net feed are so.
    let rows_one_by_one : OneByOne net feed =
    record {
      in_any_order = λ done waits other so_far moves. c.rows_one_by_one.ensures.in_any_order net feed done waits other so_far moves;
      onward = λ timed wired fed done waits rest e so_far moves first. c.rows_one_by_one.ensures.onward net feed timed wired fed done waits rest e so_far moves first;
      next = λ timed fed done waits rest e so_far moves first. c.rows_one_by_one.ensures.next net feed timed fed done waits rest e so_far moves first;
      last = λ timed fed done so_far. c.rows_one_by_one.ensures.last net feed timed fed done so_far;
    } in
    let some : c.self.inside.waiting.items ≡ [] → ⊥ = λ none. eqb-false c.self.inside.waiting.len 0 (sym c.is_empty.ensures ∙ c.if-is_empty.false) (omega (arith, c.self.inside.waiting.ok, ap length none)) in
    let same : c.self.inside.waiting.items ≡ c.args.self.now.waiting = ap (λ (r : Running g.row.G.Denot). r.waiting) c.self.view_is in
    let least = some_least (c.self.inside.waiting.items) some in
    let more : c.args.self.now.place < length (rows net feed) = more_rows net feed rows_one_by_one c.args.self.now so least.0 (subst (IsLeast least.0) same least.1) in
    answer_row c.args.self.now.place (rows net feed) more (λ at. c.if-self-row_limit.false (ap (λ (r : Running g.row.G.Denot). r.place) c.self.view_is ∙ at ∙ sym c.row_limit.ensures))

pub returns-in-Ok-clause-moved : goal.returns-in-Ok-clause-moved
returns-in-Ok-clause-moved g c =
    λ net feed are so.
    let rows_one_by_one : OneByOne net feed =
    record {
      in_any_order = λ done waits other so_far moves. c.rows_one_by_one.ensures.in_any_order net feed done waits other so_far moves;
      onward = λ timed wired fed done waits rest e so_far moves first. c.rows_one_by_one.ensures.onward net feed timed wired fed done waits rest e so_far moves first;
      next = λ timed fed done waits rest e so_far moves first. c.rows_one_by_one.ensures.next net feed timed fed done waits rest e so_far moves first;
      last = λ timed fed done so_far. c.rows_one_by_one.ensures.last net feed timed fed done so_far;
    } in
    let new = c.handle_least.new.nodes in
    let event = c.in-Ok.event in
    let waits = c.handle_least.new.waiting.items in
    let before : Running g.row.G.Denot = record { header = c.self.inside.header; nodes = c.self.inside.nodes.items; waiting = c.self.inside.waiting.items; place = c.self.inside.place; last = c.self.inside.last; spent = c.self.inside.spent } in
    let stood : StandsIn net feed before = subst (StandsIn net feed) (sym c.self.view_is) so in
    let handled : IsHandled g.G.Guest.meaning c.self.inside.header c.self.inside.nodes.items (c.self.inside.waiting.items) event new waits =
    subst (λ (ns : List (Node g.row.G.Denot)). IsHandled g.G.Guest.meaning c.self.inside.header ns (c.self.inside.waiting.items) event new waits) c.as_mut_slice.ensures.value c.in-Ok.ensures in
    let old_len : length c.as_mut_slice.result.now ≡ length c.self.inside.nodes.items = ap length c.as_mut_slice.ensures.value in
    let len : c.self.inside.nodes.len ≡ length new = omega (arith, old_len, c.handle_least.auto.nodes, c.self.inside.nodes.ok) in
    let same : take c.self.inside.nodes.len (new ++ drop (length new) c.self.inside.nodes.items) ≡ new = kept_items c.self.inside.nodes.len new c.self.inside.nodes.items len in
    let on = stands_on net feed rows_one_by_one before stood g.G.Guest.meaning are event new waits handled in (
      subst (λ (ns : List (Node g.row.G.Denot)). StandsIn net feed (record { header = c.self.inside.header; nodes = ns; waiting = waits; place = c.self.inside.place + 1; last = Some event; spent = c.self.inside.spent })) (sym same)
          (subst (λ (s : Bool). StandsIn net feed (record { header = c.self.inside.header; nodes = new; waiting = waits; place = c.self.inside.place + 1; last = Some event; spent = s })) (sym c.if-self.false) on),
      ap (λ (r : Running g.row.G.Denot). r.place + 1) c.self.view_is,
    )
