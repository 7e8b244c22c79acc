use Rattle.std.proofs.Common.{rules, ◌≡◌, [], ◌∷◌, Some, None, ap, ◌∙◌, sym, subst}
use Rattle.dn_model.specs.Settled.{IsPrefixOf}
use Rattle.atomic_table.specs.Table.{rest}
use Rattle.dn_turn.specs.Places.{StandAt}
use Rattle.dn_turn.specs.Seat.{SeatView, carried}
use Rattle.dn_turn.proofs.Mine.{stand_at}
use Rattle.dn_turn.proofs.Keeps.{tries}
use Rattle.dn_turn.proofs.turn.Turn.try_take.Goals as goal

pub compare_exchange-found-requires : goal.compare_exchange-found-requires
compare_exchange-found-requires g c =
    let free : c.seat.inside.seat.me.0.held ≡ None = ap (λ v. v.held) c.seat.view_is ∙ c.requires.free in
    (search rules, search rules, tries g.V.Kept.header g.V.Kept.opening g.V.Kept.log _ _ c.seat.inside.seat.me c.seat.invariant.0 free (c.seat.invariant.3 ∙ ap carried free))

pub exchange-value-requires : goal.exchange-value-requires
exchange-value-requires g c = let t = c.compare_exchange-found.ensures.2.0 c.if-found-ne0.false in
    let e : c.compare_exchange-found.new.seat.me.1 ≡ (0, Some t.0) ∷ [] = ap (λ m. m.1) t.1 in
    (search rules, (Some t.0, e ∙ (λ i. (0, Some t.0) ∷ sym (ap rest e) i)))

pub returns-clause-stopped : goal.returns-clause-stopped
returns-clause-stopped g c = let p : IsPrefixOf c.args.seat.now.seen (g.V.Kept.log c.unwrap.result) = search rules in
    λ s. c.logs.ensures.stays c.args.seat.now.seen (g.V.Kept.log c.unwrap.result) (g.V.Kept.is_log c.unwrap.result) p s

pub returns-clause-mine : goal.returns-clause-mine
returns-clause-mine g c =
    let p : IsPrefixOf c.args.seat.now.seen (g.V.Kept.log c.unwrap.result) = search rules in
    let is = c.seat.view_is in
    let old = c.seat.inside.seat.me.0 in
    subst (λ (v : SeatView g.row.V-Guest.Denot). StandAt v.mine v.seen (g.V.Kept.log c.unwrap.result)) is
    (stand_at old.seen (g.V.Kept.log c.unwrap.result) old.mine old.held c.seat.invariant.4 (subst (λ (v : SeatView g.row.V-Guest.Denot). IsPrefixOf v.seen (g.V.Kept.log c.unwrap.result)) (sym is) p))
