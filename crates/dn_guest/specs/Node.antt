-- The step of a node: a guest, a mask of up ports and a count of sends.
use Rattle.std.specs.Prelude.{ℕ, ◌+◌, ◌%◌, ◌^◌, Bool, true, if◌then◌else◌, List, [], ◌∷◌, length, filter}
use Rattle.dn_guest.specs.declared.input.Input.{Input}
use Rattle.dn_guest.specs.declared.input.Input.TheVariants.{Tick, Cmd, Down, Up, Msg}
use Rattle.dn_guest.specs.declared.outbox.Output.{Output}
use Rattle.dn_guest.specs.declared.node.Node.{Node}
use Rattle.dn_guest.specs.declared.node.Sent.{Sent}
use Rattle.dn_guest.specs.Meaning.{Meaning}
use Rattle.dn_guest.specs.Ports.{is_up, with_down, with_up}

-- the mask after an input
abbrev pub ports_after : ℕ → Input → ℕ
ports_after ports (Down port) = with_down ports port
ports_after ports (Up port) = with_up ports port
ports_after ports (Tick group) = ports
ports_after ports (Cmd body) = ports
ports_after ports (Msg port body) = ports

-- the guest is given every input but a message on a port that is down
abbrev pub is_taken : ℕ → Input → Bool
is_taken ports (Msg port body) = is_up ports port
is_taken ports (Tick group) = true
is_taken ports (Cmd body) = true
is_taken ports (Down port) = true
is_taken ports (Up port) = true

-- outputs on ports that are down are dropped
abbrev pub going : ℕ → List Output → List Output
going ports outputs = filter (λ output. is_up ports output.port) outputs

-- each output takes the next number, from this one on, wrapping at 64 bits
abbrev pub numbered : ℕ → List Output → List Sent
numbered seq [] = []
numbered seq (output ∷ outputs) = record { seq = seq; port = output.port; body = output.body } ∷ numbered ((seq + 1) % 2 ^ 64) outputs

module _ {S : Type 0} (guest : Meaning S) where
  -- what goes out, before it is numbered: the guest is told the mask after the input
  abbrev pub leaving : Node S → Input → List Output
  leaving node input =
      let ports = ports_after node.ports input in
      if is_taken node.ports input then going ports (guest.outs node.guest ports input) else []

  -- the node after an input
  unfoldable pub node_after : Node S → Input → Node S
  node_after node input =
      let ports = ports_after node.ports input in
      if is_taken node.ports input
      then record { guest = guest.after node.guest ports input; ports = ports; sends = (node.sends + length (leaving node input)) % 2 ^ 64 }
      else node

  -- the numbered outputs of that step, in order
  unfoldable pub node_sent : Node S → Input → List Sent
  node_sent node input = numbered node.sends (leaving node input)
