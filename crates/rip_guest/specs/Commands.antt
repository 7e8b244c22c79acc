-- Commands, which set and withdraw networks of the router's own. They are this project's own.
use Rattle.std.specs.Prelude.{ℕ, ◌==◌, ◌&&◌, ◌||◌, Bool, false, nat_le, nat_lt, if◌then◌else◌, List, length, drop}
use Rattle.std.specs.Prelude.{slice_index, Option, Some, None}
use Rattle.byteorder.specs.Endian.{big_number}
use Rattle.dn_net.specs.Networks.{is_network}
use Rattle.rip_wire.specs.Constants.{greatest_own_metric, most_own_networks}
use Rattle.rip_table.specs.declared.held.Held.{Held}
use Rattle.rip_table.specs.Held.{is_current}
use Rattle.rip_table.specs.Own.{own_count, with_own, without_own}
use Rattle.rip_table.specs.Routes.{Routes, held_at}

-- 01, address 4, length 1, metric 2
abbrev pub is_setting : List ℕ → Bool
is_setting body = length body == 8 && slice_index body 0 == 1

-- 02, address 4, length 1
abbrev pub is_withdrawal : List ℕ → Bool
is_withdrawal body = length body == 6 && slice_index body 0 == 2

abbrev pub is_current_at : Option Held → Bool
is_current_at None = false
is_current_at (Some h) = is_current h

-- the network is own, or there are fewer than 32 own ones that can be reached
abbrev pub has_room_for_own : Routes → ℕ → ℕ → Bool
has_room_for_own routes address len =
    is_current_at (held_at routes (address, len)) || nat_lt (own_count routes) most_own_networks

-- a network is set to a metric of 1 to 15
abbrev pub set : Routes → ℕ → ℕ → ℕ → ℕ → Routes
set routes address len metric now =
    if is_network address len && nat_le 1 metric && nat_le metric greatest_own_metric
    && has_room_for_own routes address len
    then with_own routes address len metric now
    else routes

abbrev pub withdraw : Routes → ℕ → ℕ → ℕ → Routes
withdraw routes address len now = if is_network address len then without_own routes address len now else routes

abbrev pub address_at_1 : List ℕ → ℕ
address_at_1 body = big_number 4 (drop 1 body)

-- the routes after a command; a body of another form does nothing
unfoldable pub commanded : ℕ → List ℕ → Routes → Routes
commanded now body routes =
    if is_setting body then set routes (address_at_1 body) (slice_index body 5) (big_number 2 (drop 6 body)) now
    else if is_withdrawal body then withdraw routes (address_at_1 body) (slice_index body 5) now
    else routes
