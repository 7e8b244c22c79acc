-- The grammar of messages (RFC 2453 sections 3.6 and 4), as a relation between whole inputs and messages.
use Rattle.std.specs.Prelude.{◌≡◌, ◌≤◌, ◌⊎◌, ℕ, List, ◌∷◌, length, drop, slice_index}
use Rattle.rip_wire.specs.declared.message.Message.{Message}
use Rattle.rip_wire.specs.Constants.{header_bytes, most_entries, request_command, response_command, rip_version}
use Rattle.rip_wire.specs.Entries.{AreEntries, entries_bytes}

-- A message that has bytes: a request or a response, with 1 to 25 entries.
pub record IsEncodable (m : Message) : Type 0 where
  pub command : (m.command ≡ request_command) ⊎ (m.command ≡ response_command)
  pub least : 1 ≤ length m.entries
  pub most : length m.entries ≤ most_entries

-- These bytes are this message, whatever the two bytes behind the version are.
pub record IsMessage (bytes : List ℕ) (m : Message) : Type 0 where
  pub encodable : IsEncodable m
  pub command : m.command ≡ slice_index bytes 0
  pub version : slice_index bytes 1 ≡ rip_version
  pub entries : AreEntries (drop header_bytes bytes) m.entries

-- the bytes of a message
abbrev pub message_bytes : Message → List ℕ
message_bytes m = m.command ∷ rip_version ∷ 0 ∷ 0 ∷ entries_bytes m.entries
