-- What a guest does, as functions of its state.
use Rattle.std.specs.Prelude.{ℕ, List}
use Rattle.dn_guest.specs.declared.input.Input.{Input}
use Rattle.dn_guest.specs.declared.outbox.Output.{Output}

pub record Meaning (S : Type 0) : Type 0 where
  -- the state after an input, under this mask of up ports
  pub after : S → ℕ → Input → S
  -- what that step puts out, in order
  pub outs : S → ℕ → Input → List Output
  -- the number of the protocol
  pub sort : S → ℕ
  -- bytes that tell the whole state
  pub image : S → List ℕ
  -- lines that tell a reader of the state
  pub show : S → List ℕ
