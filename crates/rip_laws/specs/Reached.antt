-- The states that a router reaches: whatever it begins with, as far as a case may say so, and whatever comes to it.
use Rattle.std.specs.Prelude.{◌≡◌, ℕ, List}
use Rattle.std.specs.List.{AllByRecursion}
use Rattle.dn_guest.specs.declared.input.Input.{Input}
use Rattle.rip_guest.specs.Sound.{AreSettings, HasBytes, rip_run}
use Rattle.rip_guest.specs.State.{Prefix, RipState, opening}

-- the state after these inputs, each with the mask of its up ports, from the one at the start
pub record IsReached (s : RipState) : Type 0 where
  pub number : ℕ
  pub costs : List ℕ
  pub prefixes : List Prefix
  pub steps : List (ℕ × Input)
  pub settings : AreSettings number costs prefixes
  pub inputs : AllByRecursion (λ e. HasBytes e.1) steps
  pub reached : s ≡ rip_run (opening number costs prefixes) steps
