use Rattle.std.proofs.Common.{◌≡◌, ◌<◌, false, List, length, map, set, refl, sym, ap, ◌∙◌, subst, arith}
use Rattle.std.specs.Prelude.{is_ok}
use Rattle.dn_model.specs.declared.feed.External.{External}
use Rattle.dn_model.specs.declared.key.Key.{Key}
use Rattle.dn_model.specs.Network.{external}
use Rattle.dn_world.specs.World.{key_of}
use Rattle.dn_world.specs.Steps.{inject}
use Rattle.dn_world.specs.Runs.{IsPast}
use Rattle.dn_router.specs.Routers.{Speculation}
use Rattle.dn_fabric.proofs.Calls.{on_err_all}
use Rattle.dn_fabric.specs.Fabrics.{Live}
use Rattle.dn_fabric.specs.Holds.{IsWhole}
use Rattle.dn_fabric.proofs.Arrivals.{open_past, coming_to, before_same, before_set, before_whole, before_guests, marked, marked_ok, marked_err, ok_marked, err_marked, at_ok, at_err, seen, injected_to, halted}
use Rattle.dn_fabric.proofs.Errands.{there}
use Rattle.dn_fabric.proofs.world.World.inject.Goals as goal

pub bring-brought-requires-clause-inside : goal.bring-brought-requires-clause-inside
bring-brought-requires-clause-inside g c κs within =
    let h = ap (λ l. length l.header.routers) c.self.view_is in
    let k = c.requires.inside in
    let count = c.self.invariant.count in
    omega (arith, k, count, h)

pub bring-brought-requires-clause-own : goal.bring-brought-requires-clause-own
bring-brought-requires-clause-own g c κs within = λ s at. sym (c.self.invariant.routers c.args.coming.router s at).number

pub bring-brought-requires-clause-past : goal.bring-brought-requires-clause-past
bring-brought-requires-clause-past g c κs within = λ s at.
    let r = c.args.coming.router in
    let live = c.args.self.now in
    let x = c.args.coming in
    let run : c.self.inside.stopped ≡ false = ap (λ l. l.stopped) c.self.view_is ∙ c.requires.running in
    let bound : s.bound ≡ live.world.boundary = c.self.invariant.bounds run r s at ∙ ap (λ l. l.world.boundary) c.self.view_is in
    let opn = open_past live.header live.world live.world.boundary c.requires.unclosed c.requires.past in
    let past = c.new_keys.ensures.external live.world.boundary c.len-place.result x (subst (λ n. IsPast live.world.boundary (key_of n 1)) (sym c.requires.now) opn) in
    subst (λ (b : Key). IsPast b (external c.len-place.result x).key) (sym bound) past

pub invariant_of-self : goal.invariant_of-self
invariant_of-self g c =
    let rs = c.self.inside.routers in
    let same = at_err c.bring-brought.result c.marking.result c.in_err-marking.field-0.0 c.marking.ensures.same c.in_err-marking.was c.bring-brought.ensures.err in
    subst (λ (l : List (Speculation g.row.G.Denot)). IsWhole c.self.inside.header l c.self.inside.boundary c.self.inside.rows.items c.self.inside.cut c.marking.new.stopped) (sym same)
    (before_whole c.self.inside.header rs rs c.self.inside.boundary c.self.inside.rows.items c.self.inside.cut c.self.inside.stopped c.marking.new.stopped (before_same rs)
    (marked (is_ok c.bring-brought.result) c.self.inside.stopped c.marking.new.stopped c.marking.ensures.mark) c.self.invariant)

pub returns-in_err-marking-clause-err : goal.returns-in_err-marking-clause-err
returns-in_err-marking-clause-err g c =
    let same = at_err c.bring-brought.result c.marking.result c.in_err-marking.field-0.0 c.marking.ensures.same c.in_err-marking.was c.bring-brought.ensures.err in
    on_err_all c.from_residual.result
    (halted c.args.self.now _
    (marked_err c.bring-brought.result c.marking.result c.self.inside.stopped c.marking.new.stopped c.in_err-marking.field-0.0 c.marking.ensures.same c.in_err-marking.was c.marking.ensures.mark)
    (ap (λ l. l.header) c.self.view_is)
    (ap (λ l. map (λ s. s.opening.guest) l) same ∙ ap (λ l. l.openings) c.self.view_is))

pub invariant_of-self-2 : goal.invariant_of-self-2
invariant_of-self-2 g c =
    let rs = c.self.inside.routers in
    let r = c.args.coming.router in
    let inside : r < length rs = (let h = ap (λ l. length l.header.routers) c.self.view_is in let k = c.requires.inside in let count = c.self.invariant.count in omega (arith, k, count, h)) in
    let found = there rs r inside in
    let s = found.0 in
    let at = found.1 in
    let came : c.bring-brought.new.routers ≡ set rs r (coming_to (external c.len-place.result c.args.coming) s) = at_ok c.bring-brought.result c.marking.result c.in_ok-marking.field-0 c.marking.ensures.same c.in_ok-marking.was (c.bring-brought.ensures.ok s at) in
    let first = marked (is_ok c.bring-brought.result) c.self.inside.stopped c.marking.new.stopped c.marking.ensures.mark in
    let second = marked (is_ok c.accept-accepted.result) c.marking.new.stopped c.marking-2.new.stopped c.marking-2.ensures.mark in
    subst (λ (l : List (Speculation g.row.G.Denot)). IsWhole c.self.inside.header l c.self.inside.boundary c.self.inside.rows.items c.self.inside.cut c.marking-2.new.stopped) (sym came)
    (before_whole c.self.inside.header rs (set rs r (coming_to (external c.len-place.result c.args.coming) s)) c.self.inside.boundary c.self.inside.rows.items c.self.inside.cut c.self.inside.stopped c.marking-2.new.stopped
    (before_set rs r s (coming_to (external c.len-place.result c.args.coming) s).part at) (λ e. first (second e)) c.self.invariant)

abbrev after_inject : {S : Type 0} → External → Live S → Live S
after_inject x l = record l { world = inject l.world x }

pub returns-clause-ok : goal.returns-clause-ok
returns-clause-ok g c =
    let i = c.self.inside in
    let rs = c.self.inside.routers in
    let x = c.args.coming in
    let r = c.args.coming.router in
    let inside : r < length rs = (let h = ap (λ l. length l.header.routers) c.self.view_is in let k = c.requires.inside in let count = c.self.invariant.count in omega (arith, k, count, h)) in
    let found = there rs r inside in
    let s = found.0 in
    let at = found.1 in
    let place : c.len-place.result ≡ length c.self.inside.accepted.items = c.len-place.ensures ∙ c.self.inside.accepted.ok.0 in
    let came : c.bring-brought.new.routers ≡ set rs r (coming_to (external c.len-place.result x) s) = at_ok c.bring-brought.result c.marking.result c.in_ok-marking.field-0 c.marking.ensures.same c.in_ok-marking.was (c.bring-brought.ensures.ok s at) in
    let known : c.bring-brought.new.routers ≡ set rs r (coming_to (external (length c.self.inside.accepted.items) x) s) = came ∙ ap (λ n. set rs r (coming_to (external n x) s)) place in
    let first = marked_ok c.bring-brought.result c.marking.result i.stopped c.marking.new.stopped c.in_ok-marking.field-0 c.marking.ensures.same c.in_ok-marking.was c.marking.ensures.mark in
    ok_marked c.accept-accepted.result c.marking-2.result c.marking.new.stopped c.marking-2.new.stopped c.marking-2.ensures.same c.marking-2.ensures.mark c.accept-accepted.ensures
    (λ m h.
    let mark : c.marking-2.new.stopped ≡ c.self.inside.stopped = m ∙ first in
    (λ j. seen i.header (known j) i.flight i.floor i.closed (h j) i.boundary i.rows.items i.cut (mark j))
    ∙ injected_to i.header rs i.flight i.floor i.closed i.accepted.items i.boundary i.rows.items i.cut i.stopped r s x refl at
    ∙ ap (after_inject x) c.self.view_is)

pub returns-clause-err : goal.returns-clause-err
returns-clause-err g c =
    let rs = c.self.inside.routers in
    let r = c.args.coming.router in
    let inside : r < length rs = (let h = ap (λ l. length l.header.routers) c.self.view_is in let k = c.requires.inside in let count = c.self.invariant.count in omega (arith, k, count, h)) in
    let found = there rs r inside in
    let s = found.0 in
    let at = found.1 in
    let came : c.bring-brought.new.routers ≡ set rs r (coming_to (external c.len-place.result c.args.coming) s) = at_ok c.bring-brought.result c.marking.result c.in_ok-marking.field-0 c.marking.ensures.same c.in_ok-marking.was (c.bring-brought.ensures.ok s at) in
    let before = before_set rs r s (coming_to (external c.len-place.result c.args.coming) s).part at in
    let guests = before_guests rs (set rs r (coming_to (external c.len-place.result c.args.coming) s)) before in
    err_marked c.accept-accepted.result c.marking-2.result c.marking.new.stopped c.marking-2.new.stopped c.marking-2.ensures.same c.marking-2.ensures.mark
    (λ m. halted c.args.self.now _ m (ap (λ l. l.header) c.self.view_is) (ap (λ l. map (λ s. s.opening.guest) l) came ∙ guests ∙ ap (λ l. l.openings) c.self.view_is))
