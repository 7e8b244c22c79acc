-- Which entries of a response are taken, and of which network each tells (RFC 2453 sections 3.9.2, 3.7 and 4.3).
use Rattle.std.specs.Prelude.{ℕ, ◌/◌, ◌^◌, ◌==◌, Bool, not, ◌&&◌, ◌||◌, nat_le, nat_lt, if◌then◌else◌}
use Rattle.std.specs.Prelude.{Option, Some, None, option_and_then}
use Rattle.dn_net.specs.Networks.{Network, is_network, mask_len}
use Rattle.rip_wire.specs.Constants.{infinity, ip_family}
use Rattle.rip_wire.specs.declared.entry.Entry.{Entry}

-- The default route, or an address whose first byte isn't 0, 127, or 224 and above (RFC 2453 section 3.9.2).
abbrev pub is_valid_destination : ℕ → ℕ → Bool
is_valid_destination address len =
    let first = address / 2 ^ 24 in
    (address == 0 && len == 0) || (not (first == 0) && not (first == 127) && nat_lt first 224)

-- an entry of IP with a metric from 1 to 16 (RFC 2453 section 3.9.2)
abbrev pub is_valid_route : Entry → Bool
is_valid_route e = e.family == ip_family && nat_le 1 e.metric && nat_le e.metric infinity

abbrev pub destination_with_len : ℕ → ℕ → Option Network
destination_with_len address len =
    if is_network address len && is_valid_destination address len then Some (address, len) else None

-- The network that an entry of a response tells of. An entry that isn't valid, whose mask has a gap or whose
-- address has host bits tells of none, and is passed over (RFC 2453 section 3.9.2).
abbrev pub destination_of : Entry → Option Network
destination_of e = if is_valid_route e then option_and_then (destination_with_len e.address) (mask_len e.mask) else None
