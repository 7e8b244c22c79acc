-- How many links there are.
use Rattle.std.proofs.Common.{◌≡◌, ℕ, Bool, true, false, cond, ◌+◌, ◌*◌, ◌≤◌, List, [], ◌∷◌, length, ap, arith, length-append}
use Rattle.std.specs.Prelude.{sum_by}
use Rattle.std.proofs.lemmas.List.Sums.{sum_by-cons}
use Rattle.ospf_wire.specs.declared.packet.Body.{Body}
use Rattle.ospf_wire.specs.declared.packet.Body.TheVariants as body
use Rattle.ospf_wire.specs.Packets.{body_len}
use Rattle.ospf_wire.specs.declared.lsa.Lsa.{Lsa}
use Rattle.ospf_wire.specs.declared.router_lsa.RouterLink.{RouterLink}
use Rattle.dn_guest.specs.Ports.{is_up}
use Rattle.ospf_router.specs.declared.neighbour.Neighbour.{Neighbour}
use Rattle.ospf_router.specs.declared.neighbour.Neighbour.TheVariants.{Down, Init, Full}
use Rattle.ospf_router.specs.declared.interfaces.Port.{Port}
use Rattle.ospf_router.specs.Origination.{link_to, links_from}

one_link : (p cost : ℕ) (n : Neighbour) → length (link_to p cost n) ≤ 1
one_link p cost Down = omega arith
one_link p cost (Init h) = omega arith
one_link p cost (Full h) = omega arith

one_link_by : (b : Bool) (ls : List RouterLink) → length ls ≤ 1 → length (cond b ls []) ≤ 1
one_link_by true ls one = one
one_link_by false ls one = omega arith

pub few_links : (p ports : ℕ) (xs : List Port) → length (links_from p ports xs) ≤ length xs
few_links p ports [] = omega arith
few_links p ports (x ∷ xs) =
    let one = one_link_by (is_up ports p) (link_to p x.cost x.neighbour) (one_link p x.cost x.neighbour) in
    let more = few_links (p + 1) ports xs in
    let all = length-append (cond (is_up ports p) (link_to p x.cost x.neighbour) []) (links_from (p + 1) ports xs) in
    omega arith

-- an LSA has 20 bytes at least
pub few_lsas : (ls : List Lsa) → 20 * length ls ≤ sum_by (λ l. 20 + length l.body) ls
few_lsas [] = omega arith
few_lsas (l ∷ ls) =
    let more = few_lsas ls in
    let all = sum_by-cons (λ (x : Lsa). 20 + length x.body) l ls in
    omega arith

-- so the headers of all of a packet's LSAs have room in one packet
pub few_headers : (b : Body) (ls : List Lsa) → b ≡ body.Update ls → 24 + body_len b ≤ 65535 → 24 + 20 * length ls ≤ 65535
few_headers b ls is room =
    let same = ap body_len is in
    let few = few_lsas ls in
    omega arith
