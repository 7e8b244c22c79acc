-- At the end of a step no route is marked as changed.
use Rattle.std.proofs.Common.{◌≡◌, ℕ, false, List, [], ◌∷◌, refl}
use Rattle.std.specs.Prelude.{fold, min}
use Rattle.dn_guest.specs.declared.input.Input.{Input}
use Rattle.rip_wire.specs.Constants.{infinity}
use Rattle.rip_table.specs.Held.{settled}
use Rattle.rip_table.specs.Own.{with_own}
use Rattle.rip_table.specs.Routes.{Routes, all_changed, any_changed}
use Rattle.rip_guest.specs.Sound.{rip_run}
use Rattle.rip_guest.specs.State.{Prefix, RipState, opening, with_routes}
use Rattle.rip_guest.specs.Step.{handled, is_passed_over, rip_after, triggered_sent}
use Rattle.rip_guest.proofs.Choice.{choose}

abbrev IsUnmarked : RipState → Type 0
IsUnmarked s = any_changed s.routes ≡ false

settled_all : (routes : Routes) → any_changed (all_changed settled routes) ≡ false
settled_all [] = refl
settled_all (e ∷ routes) = settled_all routes

unmarked_at_end : (s : RipState) → IsUnmarked (triggered_sent s)
unmarked_at_end s =
    choose IsUnmarked (any_changed s.routes) (with_routes s (all_changed settled s.routes)) s (λ _. settled_all s.routes) (λ none. none)

pub unmarked_after : (s : RipState) (ports : ℕ) (input : Input) → any_changed s.routes ≡ false → any_changed (rip_after s ports input).routes ≡ false
unmarked_after s ports input before =
    choose IsUnmarked (is_passed_over s input) s (triggered_sent (handled s input)) (λ _. before) (λ _. unmarked_at_end (handled s input))

unmarked_from : (s : RipState) (steps : List (ℕ × Input)) → any_changed s.routes ≡ false → any_changed (rip_run s steps).routes ≡ false
unmarked_from s [] before = before
unmarked_from s (e ∷ steps) before = unmarked_from (rip_after s e.0 e.1) steps (unmarked_after s e.0 e.1 before)

pub unmarked_opening : (number : ℕ) (costs : List ℕ) (prefixes : List Prefix) → any_changed (opening number costs prefixes).routes ≡ false
unmarked_opening number costs prefixes = settled_all (fold (λ routes p. with_own routes p.0 p.1 (min infinity p.2) 0) [] prefixes)

pub unmarked_run : (number : ℕ) (costs : List ℕ) (prefixes : List Prefix) (steps : List (ℕ × Input)) → any_changed (rip_run (opening number costs prefixes) steps).routes ≡ false
unmarked_run number costs prefixes steps = unmarked_from (opening number costs prefixes) steps (unmarked_opening number costs prefixes)
