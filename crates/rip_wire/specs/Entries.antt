-- The entries of a message (RFC 2453 section 4). All numbers have their highest byte first.
use Rattle.std.specs.Prelude.{◌≡◌, ◌≤◌, ◌<◌, ◌^◌, ℕ, List, [], ◌∷◌, ◌++◌, length, drop, flat_map}
use Rattle.byteorder.specs.Endian.{big_number, big_bytes}
use Rattle.rip_wire.specs.declared.entry.Entry.{Entry}
use Rattle.rip_wire.specs.Constants.{bytes_per_entry}

-- This entry is at the front of these bytes.
pub record StandsAtFront (bytes : List ℕ) (e : Entry) : Type 0 where
  pub whole : bytes_per_entry ≤ length bytes
  pub family : e.family ≡ big_number 2 bytes
  pub tag : e.tag ≡ big_number 2 (drop 2 bytes)
  pub address : e.address ≡ big_number 4 (drop 4 bytes)
  pub mask : e.mask ≡ big_number 4 (drop 8 bytes)
  pub hop : e.hop ≡ big_number 4 (drop 12 bytes)
  pub metric : e.metric ≡ big_number 4 (drop 16 bytes)

-- the bytes are these entries, one behind the other
abbrev pub AreEntries : List ℕ → List Entry → Type 0
AreEntries bytes [] = bytes ≡ []
AreEntries bytes (e ∷ es) = StandsAtFront bytes e × AreEntries (drop bytes_per_entry bytes) es

-- the 20 bytes of an entry
unfoldable pub entry_bytes : Entry → List ℕ
entry_bytes e =
    big_bytes 2 e.family ++ big_bytes 2 e.tag ++ big_bytes 4 e.address ++ big_bytes 4 e.mask ++ big_bytes 4 e.hop
    ++ big_bytes 4 e.metric

-- the bytes of entries
abbrev pub entries_bytes : List Entry → List ℕ
entries_bytes es = flat_map entry_bytes es

-- each number of an entry is one of its width
pub record FitsEntry (e : Entry) : Type 0 where
  pub family : e.family < 2 ^ 16
  pub tag : e.tag < 2 ^ 16
  pub address : e.address < 2 ^ 32
  pub mask : e.mask < 2 ^ 32
  pub hop : e.hop < 2 ^ 32
  pub metric : e.metric < 2 ^ 32
