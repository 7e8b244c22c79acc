use Rattle.std.proofs.Common.{◌≡◌, ◌+◌, ◌<◌, ℕ, List, ◌∷◌, length, drop, get_or, sym, ap, ◌∙◌, add-one, drop-cons}
use Rattle.std.specs.Prelude.{fold, min}
use Rattle.rip_wire.specs.Constants.{infinity}
use Rattle.rip_table.specs.Own.{with_own}
use Rattle.rip_table.specs.Routes.{Routes}
use Rattle.rip_guest.specs.State.{Prefix}
use Rattle.rip_guest.proofs.rip.opening_table.Goals as goal

abbrev with_prefix : Routes → Prefix → Routes
with_prefix routes p = with_own routes p.0 p.1 (min infinity p.2) 0

step : (routes : Routes) (ps : List Prefix) (i : ℕ) → i < length ps
    → fold with_prefix routes (drop i ps) ≡ fold with_prefix (with_prefix routes (get_or ps i (0, 0, 0))) (drop (i + 1) ps)
step routes ps i lt =
    let here : drop i ps ≡ get_or ps i (0, 0, 0) ∷ drop (i + 1) ps = rw add-one (drop-cons ps i (0, 0, 0) lt) in
    ap (fold with_prefix routes) here

pub loop-prefix-preserved : goal.loop-prefix-preserved
loop-prefix-preserved c =
    let ps = c.args.prefixes.now in
    let i = c.loop-prefix.prefix-index in
    let table = c.loop-prefix.table in
    let there : i < length ps = rw (← c.as_slice-prefix-items.ensures) c.loop-prefix-test.true in
    ap (λ (r : Routes). fold with_prefix r (drop (i + 1) ps)) (c.in_ok-connect_at_start.ensures ∙ ap (λ (qs : List Prefix). with_prefix table (get_or qs i (0, 0, 0))) c.as_slice-prefix-items.ensures)
    ∙ sym (step table ps i there) ∙ c.loop-prefix.invariant
