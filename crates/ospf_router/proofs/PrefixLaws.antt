-- How many networks there are once one is set.
use Rattle.std.proofs.Common.{◌≡◌, ℕ, true, cond, ◌+◌, ◌≤◌, length, arith}
use Rattle.std.specs.Prelude.{Option, Some, None, is_some, nat_lt}
use Rattle.std.specs.Map.{lookup}
use Rattle.std.specs.BTreeMap.{is_at}
use Rattle.std.proofs.lemmas.Bool.Decides.{nat_tests}
use Rattle.dn_net.specs.Networks.{Network, network_cmp}
use Rattle.ospf_router.specs.Prefixes.{Networks, has_room}

-- a network that was there, or came where there was room
pub room_left : (ns : Networks) (n : Network) (old : Option ℕ) (m : ℕ) → has_room ns n ≡ true → old ≡ lookup (is_at (network_cmp n)) ns → length ns ≤ 32
    → m ≡ length ns + cond (is_some old) 0 1 → m ≤ 32
room_left ns n None m room found few len =
    let free : nat_lt (length ns) 32 ≡ true = rw (← found) at room in
    grind (arith, nat_tests)
room_left ns n (Some c) m room found few len = omega arith
