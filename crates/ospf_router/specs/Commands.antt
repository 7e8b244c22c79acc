-- Commands, which set and take away networks of the router's own. They are this project's own.
use Rattle.std.specs.Prelude.{ℕ, ◌==◌, ◌&&◌, Bool, if◌then◌else◌, List, length, drop, slice_index}
use Rattle.byteorder.specs.Endian.{big_number}
use Rattle.ospf_router.specs.Prefixes.{Networks, with_network, without_network}

-- 01, address 4, length 1, cost 2
abbrev pub is_setting : List ℕ → Bool
is_setting body = length body == 8 && slice_index body 0 == 1

-- 02, address 4, length 1
abbrev pub is_removal : List ℕ → Bool
is_removal body = length body == 6 && slice_index body 0 == 2

-- the networks after a command; a body of another form does nothing
unfoldable pub commanded : List ℕ → Networks → Networks
commanded body ns =
    if is_setting body then with_network (big_number 4 (drop 1 body)) (slice_index body 5) (big_number 2 (drop 6 body)) ns
    else if is_removal body then without_network (big_number 4 (drop 1 body)) (slice_index body 5) ns
    else ns
