use Rattle.std.proofs.Common.{ap, ◌∙◌, sym, subst, refl, IsSome}
use Rattle.dn_model.specs.Settled.{IsPrefixOf}
use Rattle.dn_turn.specs.Places.{StandAt}
use Rattle.dn_turn.specs.Seat.{SeatView}
use Rattle.dn_turn.proofs.Mine.{stand_at}
use Rattle.dn_turn.proofs.Parts.{closes, found, ends}
use Rattle.dn_turn.proofs.turn.Turn.close.Goals as goal

pub unwrap-requires : goal.unwrap-requires
unwrap-requires g c =
    let is = c.seat.view_is in
    let e = closes g.V.Kept.header g.V.Kept.opening g.V.Kept.log c.seat.inside.seat.id c.seat.inside.seat.me.0 _ _ c.seat.invariant.0 (ap (λ v. v.held) is ∙ c.requires.free) (ap (λ v. v.first) is ∙ c.requires.first) (ap (λ v. v.out) is ∙ c.requires.all) c.seat.invariant.2 c.close_with-closed.ensures.values.2 in
    let f = found g.V.Kept.header g.V.Kept.opening g.V.Kept.log c.seat.inside.seat.me.0 _ c.take-value.result e c.take-value.ensures.value in
    subst IsSome (sym f.1) refl

pub returns-clause-header : goal.returns-clause-header
returns-clause-header g c =
    let is = c.seat.view_is in
    let e = closes g.V.Kept.header g.V.Kept.opening g.V.Kept.log c.seat.inside.seat.id c.seat.inside.seat.me.0 _ _ c.seat.invariant.0 (ap (λ v. v.held) is ∙ c.requires.free) (ap (λ v. v.first) is ∙ c.requires.first) (ap (λ v. v.out) is ∙ c.requires.all) c.seat.invariant.2 c.close_with-closed.ensures.values.2 in
    let end = ends g.V.Kept.header g.V.Kept.opening g.V.Kept.log c.seat.inside.seat.table_id c.args.seat c.seat.inside.seat.me.0 _ _ c.unwrap.result is e c.take-value.ensures.value c.unwrap.ensures in
    (end.same_header, end.same_opening)

pub returns-clause-seen : goal.returns-clause-seen
returns-clause-seen g c =
    let is = c.seat.view_is in
    let e = closes g.V.Kept.header g.V.Kept.opening g.V.Kept.log c.seat.inside.seat.id c.seat.inside.seat.me.0 _ _ c.seat.invariant.0 (ap (λ v. v.held) is ∙ c.requires.free) (ap (λ v. v.first) is ∙ c.requires.first) (ap (λ v. v.out) is ∙ c.requires.all) c.seat.invariant.2 c.close_with-closed.ensures.values.2 in
    let end = ends g.V.Kept.header g.V.Kept.opening g.V.Kept.log c.seat.inside.seat.table_id c.args.seat c.seat.inside.seat.me.0 _ _ c.unwrap.result is e c.take-value.ensures.value c.unwrap.ensures in
    end.seen

pub returns-clause-mine : goal.returns-clause-mine
returns-clause-mine g c =
    let is = c.seat.view_is in
    let e = closes g.V.Kept.header g.V.Kept.opening g.V.Kept.log c.seat.inside.seat.id c.seat.inside.seat.me.0 _ _ c.seat.invariant.0 (ap (λ v. v.held) is ∙ c.requires.free) (ap (λ v. v.first) is ∙ c.requires.first) (ap (λ v. v.out) is ∙ c.requires.all) c.seat.invariant.2 c.close_with-closed.ensures.values.2 in
    let end = ends g.V.Kept.header g.V.Kept.opening g.V.Kept.log c.seat.inside.seat.table_id c.args.seat c.seat.inside.seat.me.0 _ _ c.unwrap.result is e c.take-value.ensures.value c.unwrap.ensures in
    let old = c.seat.inside.seat.me.0 in
    subst (λ (v : SeatView g.row.V-Guest.Denot). StandAt v.mine v.seen (g.V.Kept.log c.unwrap.result)) is
    (stand_at old.seen (g.V.Kept.log c.unwrap.result) old.mine old.held c.seat.invariant.4 (subst (λ (v : SeatView g.row.V-Guest.Denot). IsPrefixOf v.seen (g.V.Kept.log c.unwrap.result)) (sym is) end.seen))

pub returns-clause-fed : goal.returns-clause-fed
returns-clause-fed g c =
    let is = c.seat.view_is in
    let e = closes g.V.Kept.header g.V.Kept.opening g.V.Kept.log c.seat.inside.seat.id c.seat.inside.seat.me.0 _ _ c.seat.invariant.0 (ap (λ v. v.held) is ∙ c.requires.free) (ap (λ v. v.first) is ∙ c.requires.first) (ap (λ v. v.out) is ∙ c.requires.all) c.seat.invariant.2 c.close_with-closed.ensures.values.2 in
    let end = ends g.V.Kept.header g.V.Kept.opening g.V.Kept.log c.seat.inside.seat.table_id c.args.seat c.seat.inside.seat.me.0 _ _ c.unwrap.result is e c.take-value.ensures.value c.unwrap.ensures in
    end.same_fed

pub returns-clause-feeds : goal.returns-clause-feeds
returns-clause-feeds g c =
    let is = c.seat.view_is in
    let e = closes g.V.Kept.header g.V.Kept.opening g.V.Kept.log c.seat.inside.seat.id c.seat.inside.seat.me.0 _ _ c.seat.invariant.0 (ap (λ v. v.held) is ∙ c.requires.free) (ap (λ v. v.first) is ∙ c.requires.first) (ap (λ v. v.out) is ∙ c.requires.all) c.seat.invariant.2 c.close_with-closed.ensures.values.2 in
    let end = ends g.V.Kept.header g.V.Kept.opening g.V.Kept.log c.seat.inside.seat.table_id c.args.seat c.seat.inside.seat.me.0 _ _ c.unwrap.result is e c.take-value.ensures.value c.unwrap.ensures in
    end.feeds

pub returns-clause-stopped : goal.returns-clause-stopped
returns-clause-stopped g c =
    let is = c.seat.view_is in
    let e = closes g.V.Kept.header g.V.Kept.opening g.V.Kept.log c.seat.inside.seat.id c.seat.inside.seat.me.0 _ _ c.seat.invariant.0 (ap (λ v. v.held) is ∙ c.requires.free) (ap (λ v. v.first) is ∙ c.requires.first) (ap (λ v. v.out) is ∙ c.requires.all) c.seat.invariant.2 c.close_with-closed.ensures.values.2 in
    let end = ends g.V.Kept.header g.V.Kept.opening g.V.Kept.log c.seat.inside.seat.table_id c.args.seat c.seat.inside.seat.me.0 _ _ c.unwrap.result is e c.take-value.ensures.value c.unwrap.ensures in
    λ s. c.logs.ensures.stays c.args.seat.seen (g.V.Kept.log c.unwrap.result) (g.V.Kept.is_log c.unwrap.result) end.seen s
