use Rattle.std.proofs.Common.{◌≡◌, ℕ, ◌≤◌, false, sym, subst}
use Rattle.std.proofs.lemmas.List.Elements.{All-from_recursion, All-get_or}
use Rattle.rip_table.specs.Routes.{any_changed}
use Rattle.rip_guest.specs.State.{RipState}
use Rattle.rip_laws.specs.Reached.{IsReached}
use Rattle.rip_laws.proofs.Lookups.{Puts}
use Rattle.rip_laws.proofs.Told.{HaveCosts, comes_from}
use Rattle.rip_laws.proofs.taken.routes_come_from_messages.Goals as goal

abbrev Laws : Type 0
Laws = goal.After-read_messages_fit

unmarked : (c : Laws) (s : RipState) → IsReached s → any_changed s.routes ≡ false
unmarked c s is = subst (λ (t : RipState). any_changed t.routes ≡ false) (sym is.reached) (c.no_mark_is_left.ensures.run is.number is.costs is.prefixes is.steps)

puts : Laws → Puts
puts c = record { here = c.a_change_is_at_one_network.ensures.here; elsewhere = c.a_change_is_at_one_network.ensures.elsewhere }

have_costs : (c : Laws) (s : RipState) → IsReached s → HaveCosts s
have_costs c s is = λ port there.
    let sound = c.reached_states.ensures.sound s is in
    (All-get_or (λ (cost : ℕ). (1 ≤ cost) × (cost ≤ 16)) s.costs port 0 there (All-from_recursion (λ (cost : ℕ). (1 ≤ cost) × (cost ≤ 16)) s.costs sound.costs)).0

pub returns : goal.returns
returns c = λ s ports input is.
    comes_from (puts c) c.read_messages_fit.ensures.encodable s ports input (c.tables_are_in_order.ensures.ascending s is) (unmarked c s is)
    (c.no_mark_is_left.ensures.step s ports input (unmarked c s is)) (have_costs c s is)
