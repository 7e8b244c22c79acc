use Rattle.std.proofs.Common.{rules, false, ap, ◌∙◌}
use Rattle.dn_turn.proofs.Parts.{splits}
use Rattle.dn_turn.proofs.turn.Turn.split_plain.Goals as goal

pub split_seat-seat-requires : goal.split_seat-seat-requires
split_seat-seat-requires g c = let is = c.seat.view_is in
    (search rules, search rules, splits g.V.Kept.header g.V.Kept.opening g.V.Kept.log false _ _ c.seat.invariant.0 (ap (λ v. v.held) is ∙ c.requires.free) (ap (λ v. v.first) is ∙ c.requires.first) (λ e. absurd (cc e)))
