-- What the reader makes of its bytes. The grammar is in Messages and Entries.
use Rattle.std.specs.Prelude.{◌+◌, ◌-◌, ◌*◌, ◌/◌, ◌%◌, ◌==◌, ◌&&◌, ◌||◌, ℕ, zero, suc, Bool, nat_le, if◌then◌else◌}
use Rattle.std.specs.Prelude.{List, [], ◌∷◌, length, drop, slice_index, Option, Some, None}
use Rattle.byteorder.specs.Endian.{big_number}
use Rattle.rip_wire.specs.Constants.{bytes_per_entry, header_bytes, most_entries}
use Rattle.rip_wire.specs.Constants.{request_command, response_command, rip_version}
use Rattle.rip_wire.specs.declared.entry.Entry.{Entry}
use Rattle.rip_wire.specs.declared.message.Message.{Message}

-- the entry at the front of these bytes
unfoldable pub entry_at : List ℕ → Entry
entry_at bytes = record {
  family = big_number 2 bytes;
  tag = big_number 2 (drop 2 bytes);
  address = big_number 4 (drop 4 bytes);
  mask = big_number 4 (drop 8 bytes);
  hop = big_number 4 (drop 12 bytes);
  metric = big_number 4 (drop 16 bytes);
}

-- the first so many entries
abbrev pub entries_at : ℕ → List ℕ → List Entry
entries_at zero bytes = []
entries_at (suc count) bytes = entry_at bytes ∷ entries_at count (drop bytes_per_entry bytes)

-- 1 to 25 whole entries behind the header (RFC 2453 section 3.6)
abbrev pub has_whole_entries : ℕ → Bool
has_whole_entries len =
    nat_le (header_bytes + bytes_per_entry) len
    && nat_le len (header_bytes + bytes_per_entry * most_entries)
    && (len - header_bytes) % bytes_per_entry == 0

-- a request or a response
abbrev pub is_command : ℕ → Bool
is_command command = command == request_command || command == response_command

-- a command, the version, and 1 to 25 whole entries
unfoldable pub has_form : List ℕ → Bool
has_form bytes =
    has_whole_entries (length bytes) && is_command (slice_index bytes 0) && slice_index bytes 1 == rip_version

-- the entries of these bytes
abbrev pub entry_count : List ℕ → ℕ
entry_count bytes = (length bytes - header_bytes) / bytes_per_entry

-- the message, if the bytes are one
unfoldable pub message_at : List ℕ → Option Message
message_at bytes =
    if has_form bytes
    then Some (record {
      command = slice_index bytes 0;
      entries = entries_at (entry_count bytes) (drop header_bytes bytes);
    })
    else None
