use Rattle.std.proofs.Common.{◌≡◌, ◌≤◌, ◌<◌, ◌+◌, ◌-◌, ℕ, List, ◌++◌, length, sym, ap, ◌∙◌, arith, append_assoc, append-nil}
use Rattle.dn_model.specs.declared.event.Event.{Event}
use Rattle.dn_model.specs.Cases.{Heading}
use Rattle.dn_model.specs.Network.{externals}
use Rattle.dn_lockstep.specs.Agendas.{group_ticks, later_ticks}
use Rattle.dn_plain.proofs.PlainSteps.{next_ticks, no_later_ticks}
use Rattle.dn_plain.proofs.plain.all_injected.Goals as goal

pub loop-group-preserved : goal.loop-group-preserved
loop-group-preserved c =
    let group = c.loop-group.group in
    let groups = c.args.header.now.groups in
    let n = length c.as_slice.result.now in
    let made = c.loop-group.made.items in
    let rest = later_ticks (group + 1) (groups - (group + 1)) n in
    let same : c.header.inside.groups ≡ groups = ap (λ (h : Heading). h.groups) c.header.view_is in
    let l : group < groups = omega (arith, c.loop-group-test.true, same) in
    ap (λ (es : List Event). es ++ rest) c.in_ok-push_ticks.ensures
    ∙ append_assoc made (group_ticks group n) rest
    ∙ ap (λ (es : List Event). made ++ es) (sym (next_ticks group groups n l))
    ∙ c.loop-group.invariant

pub returns : goal.returns
returns c =
    let group = c.loop-group.group in
    let groups = c.args.header.now.groups in
    let n = length c.as_slice.result.now in
    let made = c.loop-group.made.items in
    let same : c.header.inside.groups ≡ groups = ap (λ (h : Heading). h.groups) c.header.view_is in
    let l : groups ≤ group = omega (arith, c.loop-group-test.false, same) in
    let count : n ≡ length c.args.header.now.routers = ap length (c.as_slice.ensures ∙ ap (λ (h : Heading). h.routers) c.header.view_is) in
    sym (append-nil made)
    ∙ ap (λ (es : List Event). made ++ es) (sym (no_later_ticks group groups n l))
    ∙ c.loop-group.invariant
    ∙ ap (λ (k : ℕ). externals 0 c.args.feed.now ++ later_ticks 0 groups k) count
