-- States that are reached.
use Rattle.std.proofs.Common.{ℕ, List, [], ◌∷◌, ◌++◌, refl, sym, ap, ◌∙◌}
use Rattle.std.specs.List.{AllByRecursion}
use Rattle.std.proofs.lemmas.List.Sums.{fold-append}
use Rattle.dn_guest.specs.declared.input.Input.{Input}
use Rattle.rip_guest.specs.Sound.{AreSettings, HasBytes}
use Rattle.rip_guest.specs.State.{Prefix, RipState, opening}
use Rattle.rip_guest.specs.Step.{rip_after}
use Rattle.rip_laws.specs.Reached.{IsReached}

pub opening_reached : (number : ℕ) (costs : List ℕ) (prefixes : List Prefix) → AreSettings number costs prefixes → IsReached (opening number costs prefixes)
opening_reached number costs prefixes are =
    record { number = number; costs = costs; prefixes = prefixes; steps = []; settings = are; inputs = tt; reached = refl }

one_more : (steps : List (ℕ × Input)) (e : ℕ × Input) → HasBytes e.1 → AllByRecursion (λ (x : ℕ × Input). HasBytes x.1) steps
    → AllByRecursion (λ (x : ℕ × Input). HasBytes x.1) (steps ++ e ∷ [])
one_more [] e last all = (last, tt)
one_more (x ∷ steps) e last all = (all.0, one_more steps e last all.1)

pub step_reached : (s : RipState) (ports : ℕ) (input : Input) → HasBytes input → IsReached s → IsReached (rip_after s ports input)
step_reached s ports input bytes is = record {
  number = is.number;
  costs = is.costs;
  prefixes = is.prefixes;
  steps = is.steps ++ (ports, input) ∷ [];
  settings = is.settings;
  inputs = one_more is.steps (ports, input) bytes is.inputs;
  reached = ap (λ (t : RipState). rip_after t ports input) is.reached
      ∙ sym (fold-append (λ (t : RipState) (e : ℕ × Input). rip_after t e.0 e.1) (opening is.number is.costs is.prefixes) is.steps ((ports, input) ∷ []));
}
