-- States that are reached.
use Rattle.std.proofs.Common.{◌≡◌, ◌≤◌, ℕ, List, [], ◌∷◌, ◌++◌, length, refl, ap, ◌∙◌}
use Rattle.std.specs.List.{AllByRecursion}
use Rattle.dn_guest.specs.declared.input.Input.{Input}
use Rattle.ospf_router.specs.Sound.{HasBytes, ospf_run}
use Rattle.ospf_router.specs.State.{OspfState, Prefix, opening}
use Rattle.ospf_router.specs.Step.{ospf_after}
use Rattle.ospf_laws.specs.Reached.{IsReached}

pub opening_reached : (number : ℕ) (costs : List ℕ) (prefixes : List Prefix) → length costs ≤ 16 → IsReached (opening number costs prefixes)
opening_reached number costs prefixes few =
    record { number = number; costs = costs; prefixes = prefixes; steps = []; few = few; inputs = tt; reached = refl }

one_more : (steps : List (ℕ × Input)) (e : ℕ × Input) → HasBytes e.1 → AllByRecursion (λ (x : ℕ × Input). HasBytes x.1) steps
    → AllByRecursion (λ (x : ℕ × Input). HasBytes x.1) (steps ++ e ∷ [])
one_more [] e last all = (last, tt)
one_more (x ∷ steps) e last all = (all.0, one_more steps e last all.1)

run_more : (s : OspfState) (steps : List (ℕ × Input)) (e : ℕ × Input) → ospf_after (ospf_run s steps) e.0 e.1 ≡ ospf_run s (steps ++ e ∷ [])
run_more s [] e = refl
run_more s (x ∷ steps) e = run_more (ospf_after s x.0 x.1) steps e

pub step_reached : (s : OspfState) (ports : ℕ) (input : Input) → HasBytes input → IsReached s → IsReached (ospf_after s ports input)
step_reached s ports input bytes is = record {
  number = is.number;
  costs = is.costs;
  prefixes = is.prefixes;
  steps = is.steps ++ (ports, input) ∷ [];
  few = is.few;
  inputs = one_more is.steps (ports, input) bytes is.inputs;
  reached = ap (λ (t : OspfState). ospf_after t ports input) is.reached
      ∙ run_more (opening is.number is.costs is.prefixes) is.steps (ports, input);
}
