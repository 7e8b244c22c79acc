-- The image of a sound state, byte by byte. That `rip_image` is this is the law `sound_states_are_told_plainly`.
use Rattle.std.specs.Prelude.{ℕ, List, ◌++◌, length, flat_map}
use Rattle.byteorder.specs.Endian.{big_bytes}
use Rattle.dn_net.specs.Networks.{Network}
use Rattle.rip_table.specs.declared.held.Held.{Held}
use Rattle.rip_guest.specs.Image.{bit, via_byte}
use Rattle.rip_guest.specs.State.{RipState}

-- address 4, length 1, tag 2, metric 1, port 1 (255 for an own network), time 4, changed 1
unfoldable pub plain_route : Network × Held → List ℕ
plain_route e =
    big_bytes 4 e.0.0 ++ big_bytes 1 e.0.1 ++ big_bytes 2 e.1.tag ++ big_bytes 1 e.1.metric
    ++ big_bytes 1 (via_byte e.1.via) ++ big_bytes 4 e.1.time ++ big_bytes 1 (bit e.1.changed)

-- number 2, last tick 4, number of ports 1 and each cost 1, number of routes 2 and each route
unfoldable pub plain_image : RipState → List ℕ
plain_image s =
    big_bytes 2 s.number ++ big_bytes 4 s.last_tick ++ big_bytes 1 (length s.costs) ++ flat_map (big_bytes 1) s.costs
    ++ big_bytes 2 (length s.routes) ++ flat_map plain_route s.routes
