use Rattle.std.proofs.Common.{◌≡◌, false, sym, ap, ◌∙◌}
use Rattle.std.specs.Prelude.{Some, slice_get}
use Rattle.dn_model.specs.declared.event.Event.{Event}
use Rattle.dn_model.specs.Order.{event_cmp, event_total}
use Rattle.dn_lists.proofs.Sorting.{rises_from_sorted}
use Rattle.dn_world.specs.World.{is_same, stands}
use Rattle.dn_queue.proofs.Places.{first_from, absent_from_split, none_stand, got_is, got_past}
use Rattle.dn_queue.proofs.place.find.Goals.{else-place-events-via-then-place-events+else-eq, else-place-events-via-else-place-events}
use Rattle.dn_queue.proofs.place.find.Goals as goal

pub returns-then-eq-clause-found : goal.returns-then-eq-clause-found
returns-then-eq-clause-found c =
    let xs = c.args.events.now in
    let i = c.place_before-place.result in
    let x = c.index-events-place.result in
    first_from c.args.event.now x xs i c.if-place-events.true (got_is xs i x c.if-place-events.true c.index-events-place.is) (sym c.eq.ensures ∙ c.if-eq.true) c.place_before-place.ensures.split

pub returns-clause-none : goal.returns-clause-none
returns-clause-none c =
    let e = c.args.event.now in
    let xs = c.args.events.now in
    let i = c.place_before-place.result in
    let rises = rises_from_sorted event_cmp event_total xs c.requires in
    let absent : ((y : Event) → slice_get xs i ≡ Some y → is_same e y ≡ false) → stands e xs ≡ false =
    λ n. none_stand e xs (absent_from_split e xs i rises c.place_before-place.ensures.split n) in
    elim c.else-place-events.branch [
      | else-place-events-via-then-place-events+else-eq w ↦
          absent (λ y got.
          let x = w.index-events-place.result in
          let here : Some x ≡ Some y = sym (got_is xs i x w.if-place-events.true w.index-events-place.is) ∙ got in
          let same : x ≡ y = cc in
          ap (is_same e) (sym same) ∙ sym w.eq.ensures ∙ w.if-eq.false)
      | else-place-events-via-else-place-events w ↦ absent (λ y got. absurd (got_past xs i y w.if-place-events.false got))
    ]
