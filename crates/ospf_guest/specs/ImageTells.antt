-- Two states with one image are equal.
use Rattle.std.specs.Prelude.{◌≡◌, ℕ, List, ◌++◌, length, flat_map, Option}
use Rattle.std.proofs.Common.{sym, ◌∙◌}
use Rattle.ospf_router.specs.State.{OspfState}
use Rattle.ospf_guest.specs.Numbers.{four, one_more}
use Rattle.ospf_guest.specs.PlainImage.{network_image, front_image, networks_image}
use Rattle.ospf_guest.specs.Image.{interfaces_image, database_image, ospf_image}
use Rattle.ospf_guest.specs.Prefixfree.{IsFree, regrouped, free_two, free_four, free_list, free_network, same_one_more}
use Rattle.ospf_guest.specs.PortTells.{free_interfaces}
use Rattle.ospf_guest.specs.DatabaseTells.{same_database}

same_front : (m n s t : ℕ) (c d : Option ℕ) (u v : List ℕ) → front_image m s c ++ u ≡ front_image n t d ++ v → (m ≡ n) × (s ≡ t) × (c ≡ d) × (u ≡ v)
unfolding front_image
same_front m n s t c d u v e =
    let number = free_two m n (four s ++ (four (one_more c) ++ u)) (four t ++ (four (one_more d) ++ v)) e in
    let tick = free_four s t (four (one_more c) ++ u) (four (one_more d) ++ v) number.1 in
    let last = free_four (one_more c) (one_more d) u v tick.1 in
    (number.0, tick.0, same_one_more c d last.0, last.1)

free_networks : IsFree networks_image
unfolding networks_image
free_networks a b u v e =
    let count = free_two (length a) (length b) (flat_map network_image a ++ u) (flat_map network_image b ++ v) e in
    free_list network_image free_network a b count.0 u v count.1

pub same_by_image : (a b : OspfState) → ospf_image a ≡ ospf_image b → a ≡ b
unfolding ospf_image
same_by_image a b e =
    let front : OspfState → List ℕ = λ s. front_image s.number s.tick s.originated in
    let whole : front a ++ (networks_image a.prefixes ++ (interfaces_image a.interfaces ++ database_image a.db)) ≡ front b ++ (networks_image b.prefixes ++ (interfaces_image b.interfaces ++ database_image b.db)) =
    sym (regrouped (front a) (networks_image a.prefixes) (interfaces_image a.interfaces) (database_image a.db)) ∙ e ∙ regrouped (front b) (networks_image b.prefixes) (interfaces_image b.interfaces) (database_image b.db) in
    let first = same_front a.number b.number a.tick b.tick a.originated b.originated _ _ whole in
    let networks = free_networks a.prefixes b.prefixes _ _ first.3 in
    let interfaces = free_interfaces a.interfaces b.interfaces _ _ networks.1 in
    let db = same_database a.db b.db interfaces.1 in
    λ i. record { number = first.0 i; tick = first.1 i; originated = first.2 i; prefixes = networks.0 i; interfaces = interfaces.0 i; db = db i }
