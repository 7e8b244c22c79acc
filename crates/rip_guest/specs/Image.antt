-- Bytes that tell the whole state. The highest byte of a number has all that the others don't hold, so that
-- two numbers of any size have two images; each number that a router keeps fits its bytes.
use Rattle.std.specs.Prelude.{ℕ, ◌+◌, ◌/◌, ◌%◌, ◌^◌, Bool, true, false, ◌==◌, if◌then◌else◌, List, [], ◌∷◌, ◌++◌}
use Rattle.std.specs.Prelude.{length, flat_map, Option, Some, None}
use Rattle.rip_table.specs.declared.held.Held.{Held}
use Rattle.dn_net.specs.Networks.{Network}
use Rattle.rip_guest.specs.State.{RipState}

-- two bytes and four bytes of a number
abbrev pub two : ℕ → List ℕ
two n = n / 2 ^ 8 ∷ n % 2 ^ 8 ∷ []

abbrev pub four : ℕ → List ℕ
four n = n / 2 ^ 24 ∷ n / 2 ^ 16 % 2 ^ 8 ∷ n / 2 ^ 8 % 2 ^ 8 ∷ n % 2 ^ 8 ∷ []

-- the port, and 255 for an own network
abbrev pub via_byte : Option ℕ → ℕ
via_byte None = 255
via_byte (Some port) = port

abbrev pub bit : Bool → ℕ
bit true = 1
bit false = 0

-- 1 if the route is marked as changed. A port of 255, which no router has, adds 2, so that it isn't
-- taken for an own network.
abbrev pub mark_byte : Option ℕ → Bool → ℕ
mark_byte None changed = bit changed
mark_byte (Some port) changed = bit changed + (if port == 255 then 2 else 0)

-- address 4, length 1, tag 2, metric 1, port 1, time 4, changed 1
unfoldable pub route_image : Network × Held → List ℕ
route_image e =
    four e.0.0 ++ e.0.1 ∷ two e.1.tag ++ e.1.metric ∷ via_byte e.1.via ∷ four e.1.time
    ++ mark_byte e.1.via e.1.changed ∷ []

-- number 2, now 4, ports 1 and each cost 1, routes 2 and each route
unfoldable pub rip_image : RipState → List ℕ
rip_image s =
    two s.number ++ (four s.last_tick ++ (length s.costs ∷ (s.costs
    ++ (two (length s.routes) ++ flat_map route_image s.routes))))
