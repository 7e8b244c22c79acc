use Rattle.std.proofs.Common.{rules, ◌≡◌, None, ap, ◌∙◌, sym, subst, refl, length}
use Rattle.dn_turn.specs.Places.{ArePlaces}
use Rattle.dn_turn.specs.Rule.{both_views, settled_view}
use Rattle.dn_turn.specs.Seat.{carried, IsSeated}
use Rattle.dn_turn.proofs.Mine.{sound_join}
use Rattle.dn_turn.proofs.Parts.{joins, settles}
use Rattle.dn_turn.proofs.turn.Turn.join_seat.Goals as goal

pub join_seat-requires : goal.join_seat-requires
join_seat-requires g c =
    let is = c.into.view_is in
    let ended = c.ended.view_is in
    let free : c.into.inside.seat.me.0.held ≡ None = ap (λ v. v.held) is ∙ c.requires.free.0 in
    let free_too : c.ended.inside.seat.me.0.held ≡ None = ap (λ v. v.held) ended ∙ c.requires.free.1 in (
      search rules,
      search rules,
      c.ended.invariant.3 ∙ ap carried free_too,
      search rules,
      joins g.V.Kept.header g.V.Kept.opening g.V.Kept.log _ _ _ _ c.into.invariant.0 c.ended.invariant.0 free free_too (ap (λ v. v.first) is ∙ c.requires.first) c.into.invariant.2 c.ended.invariant.2,
    )

pub load-requires : goal.load-requires
load-requires g c =
    let is = c.into.view_is in
    let now = c.join_seat.ensures.2 in
    (search rules, search rules, settles g.V.Kept.header g.V.Kept.opening g.V.Kept.log c.fed_logs.ensures.between _ _ c.join_seat.new.seat.me (ap (λ m. m.0.live) now ∙ c.into.invariant.0) (ap (λ m. m.0.held) now ∙ (ap (λ v. v.held) is ∙ c.requires.free.0)))

pub invariant_of-into : goal.invariant_of-into
invariant_of-into g c =
    let v = c.into.inside.seat.me.0 in
    let w = c.ended.inside.seat.me.0 in
    let free : v.held ≡ None = ap (λ v. v.held) c.into.view_is ∙ c.requires.free.0 in
    let all : c.load.new.seat.me ≡ (settled_view (both_views v w), c.into.inside.seat.me.1) = c.load.ensures.2.0 ∙ (λ i. (settled_view (c.join_seat.ensures.2 i).0, (c.join_seat.ensures.2 i).1)) in
    let sound = sound_join v.seen w.seen v.mine w.mine v.held w.held free c.into.invariant.4 c.ended.invariant.4 in
    subst IsSeated (sym all) (c.into.invariant.0, refl, refl, c.into.invariant.3, sound)

pub returns-clause-places : goal.returns-clause-places
returns-clause-places g c =
    let v = c.into.inside.seat.me.0 in
    let w = c.ended.inside.seat.me.0 in
    let free : v.held ≡ None = ap (λ v. v.held) c.into.view_is ∙ c.requires.free.0 in
    let all : c.load.new.seat.me ≡ (settled_view (both_views v w), c.into.inside.seat.me.1) = c.load.ensures.2.0 ∙ (λ i. (settled_view (c.join_seat.ensures.2 i).0, (c.join_seat.ensures.2 i).1)) in
    let sound = sound_join v.seen w.seen v.mine w.mine v.held w.held free c.into.invariant.4 c.ended.invariant.4 in
    subst (λ m. ArePlaces 0 (length m.0.seen) m.0.mine) (sym all) sound.places
