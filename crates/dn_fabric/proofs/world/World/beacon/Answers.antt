use Rattle.std.proofs.Common.{◌≡◌, ◌+◌, false, List, refl, sym, ap, ◌∙◌, subst, arith}
use Rattle.std.specs.Prelude.{is_ok}
use Rattle.dn_world.specs.World.{key_of}
use Rattle.dn_world.specs.Steps.{beacon}
use Rattle.dn_world.specs.Runs.{IsPast}
use Rattle.dn_router.specs.Routers.{Speculation}
use Rattle.dn_fabric.proofs.Calls.{on_err_all}
use Rattle.dn_fabric.specs.Coming.{all_ticked, AreAsBefore}
use Rattle.dn_fabric.specs.Fabrics.{Live}
use Rattle.dn_fabric.proofs.Arrivals.{open_past, before_all_ticked, before_whole, before_guests, marked, marked_ok, marked_err, at_ok, at_err, seen, beaconed, halted}
use Rattle.dn_fabric.proofs.world.World.beacon.Goals as goal

pub tick_all-ticked-requires-clause-numbers : goal.tick_all-ticked-requires-clause-numbers
tick_all-ticked-requires-clause-numbers g c κs within =
    λ r router h. (c.self.invariant.routers r router h).number

pub tick_all-ticked-requires-clause-past : goal.tick_all-ticked-requires-clause-past
tick_all-ticked-requires-clause-past g c κs within =
    let live = c.args.self.now in
    let opn = open_past live.header live.world live.world.boundary c.requires.unclosed c.requires.past in
    let was : IsPast c.self.inside.boundary (key_of c.self.inside.floor 1) = subst (λ (l : Live g.row.G.Denot). IsPast l.world.boundary (key_of l.world.floor 1)) (sym c.self.view_is) opn in
    let past = c.new_keys.ensures.next_group c.self.inside.boundary c.self.inside.floor (c.self.inside.floor + 1) (omega arith) was in
    let run : c.self.inside.stopped ≡ false = ap (λ l. l.stopped) c.self.view_is ∙ c.requires.running in
    λ r router h.
    subst (λ b. IsPast b (key_of (c.self.inside.floor + 1) 0)) (sym (c.self.invariant.bounds run r router h)) past

pub invariant_of-self : goal.invariant_of-self
invariant_of-self g c =
    let rs = c.self.inside.routers in
    let new = c.tick_all-ticked.new.routers in
    let before = at_err c.tick_all-ticked.result c.marking.result c.in_err-marking.field-0.0 c.marking.ensures.same c.in_err-marking.was c.tick_all-ticked.ensures.err in
    (before_whole c.self.inside.header rs new c.self.inside.boundary c.self.inside.rows.items c.self.inside.cut c.self.inside.stopped c.marking.new.stopped before
    (marked (is_ok c.tick_all-ticked.result) c.self.inside.stopped c.marking.new.stopped c.marking.ensures.mark) c.self.invariant)

pub returns-in_err-marking-clause-err : goal.returns-in_err-marking-clause-err
returns-in_err-marking-clause-err g c =
    let rs = c.self.inside.routers in
    let new = c.tick_all-ticked.new.routers in
    let before = at_err c.tick_all-ticked.result c.marking.result c.in_err-marking.field-0.0 c.marking.ensures.same c.in_err-marking.was c.tick_all-ticked.ensures.err in
    on_err_all c.from_residual.result
    (halted c.args.self.now _
    (marked_err c.tick_all-ticked.result c.marking.result c.self.inside.stopped c.marking.new.stopped c.in_err-marking.field-0.0 c.marking.ensures.same c.in_err-marking.was c.marking.ensures.mark)
    (ap (λ l. l.header) c.self.view_is)
    (before_guests rs new before ∙ ap (λ l. l.openings) c.self.view_is))

pub invariant_of-self-2 : goal.invariant_of-self-2
invariant_of-self-2 g c =
    let rs = c.self.inside.routers in
    let new = c.tick_all-ticked.new.routers in
    let group = c.self.inside.floor + 1 in
    let done = at_ok c.tick_all-ticked.result c.marking.result c.in_ok-marking.field-0 c.marking.ensures.same c.in_ok-marking.was c.tick_all-ticked.ensures.ok in
    let is : new ≡ all_ticked group 0 rs = done in
    let before = subst (λ (l : List (Speculation g.row.G.Denot)). AreAsBefore rs l) (sym is) (before_all_ticked group 0 rs) in
    (before_whole c.self.inside.header rs new c.self.inside.boundary c.self.inside.rows.items c.self.inside.cut c.self.inside.stopped c.marking.new.stopped before
    (marked (is_ok c.tick_all-ticked.result) c.self.inside.stopped c.marking.new.stopped c.marking.ensures.mark) c.self.invariant)

abbrev after_beacon : {S : Type 0} → Live S → Live S
after_beacon l = record l { world = beacon l.world }

pub returns-clause-ok : goal.returns-clause-ok
returns-clause-ok g c =
    let rs = c.self.inside.routers in
    let new = c.tick_all-ticked.new.routers in
    let i = c.self.inside in
    let group = c.self.inside.floor + 1 in
    let done = at_ok c.tick_all-ticked.result c.marking.result c.in_ok-marking.field-0 c.marking.ensures.same c.in_ok-marking.was c.tick_all-ticked.ensures.ok in
    let is : new ≡ all_ticked group 0 rs = done in
    let before = subst (λ (l : List (Speculation g.row.G.Denot)). AreAsBefore rs l) (sym is) (before_all_ticked group 0 rs) in
    let all = is in
    let mark = marked_ok c.tick_all-ticked.result c.marking.result i.stopped c.marking.new.stopped c.in_ok-marking.field-0 c.marking.ensures.same c.in_ok-marking.was c.marking.ensures.mark in
    (λ j. seen i.header (all j) i.flight group i.closed i.accepted.items i.boundary i.rows.items i.cut (mark j))
    ∙ beaconed i.header rs i.flight i.floor i.closed i.accepted.items i.boundary i.rows.items i.cut i.stopped group refl
    ∙ ap after_beacon c.self.view_is
