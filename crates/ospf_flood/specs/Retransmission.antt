-- The link state retransmission lists (RFC 2328 sections 10 and 13.3): for each port, in order, a finite map from
-- the name of an LSA to the tick at which it was last sent there, as the list of its entries in ascending order.
use Rattle.std.specs.Prelude.{◌+◌, ℕ, List, [], map, filter, nat_le, Option, Some, None, slice_index_or}
use Rattle.std.specs.Map.{keys_of, lookup, remove_entry, set_value}
use Rattle.std.specs.BTreeMap.{insert_entry, is_at}
use Rattle.ospf_wire.specs.Constants.{RxmtInterval}
use Rattle.ospf_lsdb.specs.declared.key.LsaKey.{LsaKey}
use Rattle.ospf_lsdb.specs.Keys.{key_cmp}

-- one port's list
abbrev pub OnPort : Type 0
OnPort = List (LsaKey × ℕ)

-- the lists of all ports
abbrev pub OnPorts : Type 0
OnPorts = List OnPort

-- the list of a port
abbrev pub list_of : OnPorts → ℕ → OnPort
list_of ls port = slice_index_or ls port []

-- the tick at which the LSA was last sent, if it is on the list
abbrev pub last_sent : OnPort → LsaKey → Option ℕ
last_sent l key = lookup (is_at (key_cmp key)) l

-- the list with the LSA, last sent at this tick
abbrev pub with_lsa : OnPort → LsaKey → ℕ → OnPort
with_lsa l key tick = insert_entry key_cmp l key tick

-- the list without the LSA
abbrev pub without_lsa : LsaKey → OnPort → OnPort
without_lsa key l = remove_entry (is_at (key_cmp key)) l

-- no list has the LSA
abbrev pub without_lsa_anywhere : LsaKey → OnPorts → OnPorts
without_lsa_anywhere key ls = map (without_lsa key) ls

-- the LSAs that are to be sent again: those that were last sent RxmtInterval or more ticks ago, in ascending order
-- (section 13.6)
abbrev pub due : ℕ → OnPort → List LsaKey
due now l = keys_of (filter (λ e. nat_le (e.1 + RxmtInterval) now) l)

-- the list after what was put on it is taken back: the LSA has the tick that it had before, and where it had none it
-- isn't on the list
abbrev pub restored : OnPort → LsaKey → Option ℕ → OnPort
restored l key None = without_lsa key l
restored l key (Some tick) = set_value (is_at (key_cmp key)) l tick
