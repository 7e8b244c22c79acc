use Rattle.std.proofs.Common.{rules, ◌≡◌, [], ◌∷◌, Some, None, ap, ◌∙◌, sym, subst, refl, length}
use Rattle.atomic_table.specs.Table.{rest}
use Rattle.dn_turn.specs.Places.{ArePlaces}
use Rattle.dn_turn.specs.Rule.{put_view}
use Rattle.dn_turn.specs.Seat.{carried, IsSeated}
use Rattle.dn_turn.proofs.Keeps.{releases}
use Rattle.dn_turn.proofs.Mine.{sound_put}
use Rattle.dn_turn.proofs.turn.Turn.put.Goals as goal

pub store-requires : goal.store-requires
store-requires g c =
    let asked = c.requires.value in
    let is = c.seat.view_is in
    let old = c.seat.inside.seat.me in
    let held : old.0.held ≡ Some asked.taken = ap (λ v. v.held) is ∙ asked.holds in
    let bare : old.1 ≡ (0, None) ∷ [] = c.seat.invariant.3 ∙ ap carried held in
    let now : c.exchange.new.seat.me ≡ (old.0, (0, Some c.args.value) ∷ []) = c.exchange.ensures.3 ∙ (λ i. (old.0, (0, Some c.args.value) ∷ rest (bare i))) in (
      search rules,
      search rules,
      releases g.V.Kept.header g.V.Kept.opening g.V.Kept.log _ _ c.exchange.new.seat.me asked.taken c.args.value (ap (λ m. m.0.live) now ∙ c.seat.invariant.0) (ap (λ m. m.0.ended_fed) now ∙ c.seat.invariant.2) (ap (λ m. m.0.held) now ∙ held)
          (ap (λ m. m.1) now) (asked.same_header ∙ sym (ap (λ m. m.0.header) now ∙ ap (λ v. v.header) is)) (asked.same_opening ∙ sym (ap (λ m. m.0.opening) now ∙ ap (λ v. v.opening) is)) asked.grown
          (λ no. asked.same_fed (sym (ap (λ v. v.feeds) is) ∙ (sym (ap (λ m. m.0.feeds) now) ∙ no))),
    )

pub invariant_of-seat : goal.invariant_of-seat
invariant_of-seat g c =
    let asked = c.requires.value in
    let old = c.seat.inside.seat.me in
    let held : old.0.held ≡ Some asked.taken = ap (λ v. v.held) c.seat.view_is ∙ asked.holds in
    let bare : old.1 ≡ (0, None) ∷ [] = c.seat.invariant.3 ∙ ap carried held in
    let now : c.exchange.new.seat.me ≡ (old.0, (0, Some c.args.value) ∷ []) = c.exchange.ensures.3 ∙ (λ i. (old.0, (0, Some c.args.value) ∷ rest (bare i))) in
    let all : c.store.new.seat.me ≡ (put_view (g.V.Kept.log c.args.value) old.0, []) = c.store.ensures.2 c.args.value (ap (λ m. m.1) now) ∙ (λ i. (put_view (g.V.Kept.log c.args.value) (now i).0, [])) in
    let sound = sound_put old.0.seen old.0.mine old.0.held asked.taken (g.V.Kept.log c.args.value) c.seat.invariant.4 held asked.grown in
    subst IsSeated (sym all) (c.seat.invariant.0, c.seat.invariant.1, c.seat.invariant.2, refl, sound)

pub returns-clause-places : goal.returns-clause-places
returns-clause-places g c =
    let asked = c.requires.value in
    let old = c.seat.inside.seat.me in
    let held : old.0.held ≡ Some asked.taken = ap (λ v. v.held) c.seat.view_is ∙ asked.holds in
    let bare : old.1 ≡ (0, None) ∷ [] = c.seat.invariant.3 ∙ ap carried held in
    let now : c.exchange.new.seat.me ≡ (old.0, (0, Some c.args.value) ∷ []) = c.exchange.ensures.3 ∙ (λ i. (old.0, (0, Some c.args.value) ∷ rest (bare i))) in
    let all : c.store.new.seat.me ≡ (put_view (g.V.Kept.log c.args.value) old.0, []) = c.store.ensures.2 c.args.value (ap (λ m. m.1) now) ∙ (λ i. (put_view (g.V.Kept.log c.args.value) (now i).0, [])) in
    let sound = sound_put old.0.seen old.0.mine old.0.held asked.taken (g.V.Kept.log c.args.value) c.seat.invariant.4 held asked.grown in
    subst (λ m. ArePlaces 0 (length m.0.seen) m.0.mine) (sym all) sound.places
