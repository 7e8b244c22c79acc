-- Split horizon with poisoned reverse (RFC 2453 section 3.4.3), of what a router sends.
use Rattle.std.specs.Prelude.{◌≡◌, ℕ, ◌==◌, ◌&&◌, Bool, false, not, Option, Some, None, IfSome}
use Rattle.std.specs.List.{AllByRecursion}
use Rattle.dn_guest.specs.declared.input.Input.{Input}
use Rattle.dn_guest.specs.declared.input.Input.TheVariants.{Tick, Cmd, Down, Up, Msg}
use Rattle.dn_guest.specs.declared.outbox.Output.{Output}
use Rattle.dn_net.specs.Networks.{Network, mask_of}
use Rattle.rip_wire.specs.Constants.{infinity, request_command}
use Rattle.rip_wire.specs.declared.entry.Entry.{Entry}
use Rattle.rip_wire.specs.declared.message.Message.{Message}
use Rattle.rip_wire.specs.Reading.{message_at}
use Rattle.rip_table.specs.Routes.{Routes, held_at}
use Rattle.rip_guest.specs.Requests.{asks_for_all}

-- if the entry names a network to which a route by this port is held, then it tells that it is unreachable
abbrev pub IsPoisonedEntry : Routes → ℕ → Entry → Type 0
IsPoisonedEntry routes port e =
    (n : Network) → e.address ≡ n.0 → e.mask ≡ mask_of n.1
    → IfSome (held_at routes n) (λ h. h.via ≡ Some port → e.metric ≡ infinity)

-- so do all entries of a message that is put out, for the port on which it goes
abbrev pub IsPoisoned : Routes → Output → Type 0
IsPoisoned routes o = IfSome (message_at o.body) (λ m. AllByRecursion (IsPoisonedEntry routes o.port) m.entries)

abbrev pub asks_of_single : Option Message → Bool
asks_of_single None = false
asks_of_single (Some m) = m.command == request_command && not (asks_for_all m.entries)

-- a request of single entries, which is answered without split horizon (RFC 2453 section 3.9.1)
abbrev pub is_single_request : Input → Bool
is_single_request (Tick group) = false
is_single_request (Cmd body) = false
is_single_request (Down port) = false
is_single_request (Up port) = false
is_single_request (Msg port body) = asks_of_single (message_at body)
