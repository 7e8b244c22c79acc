-- The router's own networks: a finite map from address and length to the cost, as the list of its entries in
-- ascending order.
use Rattle.std.specs.Prelude.{ℕ, Bool, ◌&&◌, ◌||◌, nat_le, nat_lt, if◌then◌else◌, List, length, is_some}
use Rattle.std.specs.Map.{lookup, remove_entry}
use Rattle.std.specs.BTreeMap.{insert_entry, is_at}
use Rattle.dn_net.specs.Networks.{Network, is_network, network_cmp}

abbrev pub Networks : Type 0
Networks = List (Network × ℕ)

-- it is there, or one more may come: a router has 32 at most
abbrev pub has_room : Networks → Network → Bool
has_room ns n = is_some (lookup (is_at (network_cmp n)) ns) || nat_lt (length ns) 32

-- A network is set to a cost. Nothing is done where it is none, where the cost is 0, or where it would be the 33rd.
unfoldable pub with_network : ℕ → ℕ → ℕ → Networks → Networks
with_network address len cost ns =
    if is_network address len && nat_le 1 cost && has_room ns (address, len) then insert_entry network_cmp ns (address, len) cost else ns

-- a network is taken away, if it is there
unfoldable pub without_network : ℕ → ℕ → Networks → Networks
without_network address len ns =
    if is_network address len then remove_entry (is_at (network_cmp (address, len))) ns else ns
