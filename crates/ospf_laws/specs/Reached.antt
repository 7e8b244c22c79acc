-- The states that a router reaches: whatever it begins with, as far as a case may say so, and whatever comes to it.
use Rattle.std.specs.Prelude.{◌≡◌, ◌≤◌, ℕ, List, length}
use Rattle.std.specs.List.{AllByRecursion}
use Rattle.dn_guest.specs.declared.input.Input.{Input}
use Rattle.ospf_router.specs.Sound.{HasBytes, ospf_run}
use Rattle.ospf_router.specs.State.{OspfState, Prefix, opening}

-- the state after these inputs, each with the mask of its up ports, from the one at the start
pub record IsReached (s : OspfState) : Type 0 where
  pub number : ℕ
  pub costs : List ℕ
  pub prefixes : List Prefix
  pub steps : List (ℕ × Input)
  pub few : length costs ≤ 16
  pub inputs : AllByRecursion (λ e. HasBytes e.1) steps
  pub reached : s ≡ ospf_run (opening number costs prefixes) steps
