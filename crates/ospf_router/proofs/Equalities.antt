-- What `==` of ports and of networks says: they are equal.
use Rattle.std.proofs.Common.{◌≡◌, Bool, true, false, ◌&&◌, List, refl, ap}
use Rattle.std.specs.Prelude.{nat_eq}
use Rattle.std.specs.Bool.{Decides}
use Rattle.std.proofs.lemmas.Bool.{both_ways}
use Rattle.std.proofs.lemmas.Bool.Decides.{Decides-eqb}
use Rattle.ospf_router.specs.declared.neighbour.Heard.{Heard}
use Rattle.ospf_router.specs.declared.neighbour.Neighbour.{Neighbour}
use Rattle.ospf_router.specs.declared.neighbour.Neighbour.TheVariants.{Down, Init, Full}
use Rattle.ospf_router.specs.declared.interfaces.Port.{Port}
use Rattle.ospf_router.specs.contracts.neighbour.HeardPartialEq.TheImpl as heards
use Rattle.ospf_router.specs.contracts.neighbour.NeighbourPartialEq.TheImpl as neighbours
use Rattle.ospf_router.specs.contracts.interfaces.PortPartialEq.TheImpl as ports
use Rattle.ospf_flood.specs.Retransmission.{OnPorts}
use Rattle.ospf_router.specs.Interfaces.{at_ports}
use Rattle.dn_net.specs.Networks.{Network}

-- two tests in a row decide both facts
and_decides : {P Q : Type 0} (x y : Bool) → Decides x P → Decides y Q → Decides (x && y) (P × Q)
and_decides true y p q = (λ e. (p.0 refl, q.0 e), λ h. q.1 h.1)
and_decides false y p q = (λ e. absurd cc, λ h. absurd (both_ways false refl (p.1 h.0)))

-- a test decides a fact that says the same
along : {P Q : Type 0} (x : Bool) → (P → Q) → (Q → P) → Decides x P → Decides x Q
along x there back d = (λ e. there (d.0 e), λ h. d.1 (back h))

pub networks_decide : (a b : Network) → Decides (nat_eq a.0 b.0 && nat_eq a.1 b.1) (a ≡ b)
networks_decide a b =
    along _ (λ h. λ i. (h.0 i, h.1 i)) (λ e. (ap (λ (n : Network). n.0) e, ap (λ (n : Network). n.1) e))
    (and_decides _ _ (Decides-eqb a.0 b.0) (Decides-eqb a.1 b.1))

heards_decide : (a b : Heard) → Decides (heards.ghosts.eq a b) (a ≡ b)
heards_decide a b =
    along _ (λ h. λ i. record { id = h.0 i; tick = h.1 i }) (λ e. (ap (λ (k : Heard). k.id) e, ap (λ (k : Heard). k.tick) e))
    (and_decides _ _ (Decides-eqb a.id b.id) (Decides-eqb a.tick b.tick))

neighbours_decide : (a b : Neighbour) → Decides (neighbours.ghosts.eq a b) (a ≡ b)
neighbours_decide Down Down = (λ e. refl, λ h. refl)
neighbours_decide Down (Init h) = (λ e. absurd cc, λ e. absurd cc)
neighbours_decide Down (Full h) = (λ e. absurd cc, λ e. absurd cc)
neighbours_decide (Init h) Down = (λ e. absurd cc, λ e. absurd cc)
neighbours_decide (Init h) (Init k) = along _ (λ e. ap (λ (x : Heard). Init x) e) (λ e. cc) (heards_decide h k)
neighbours_decide (Init h) (Full k) = (λ e. absurd cc, λ e. absurd cc)
neighbours_decide (Full h) Down = (λ e. absurd cc, λ e. absurd cc)
neighbours_decide (Full h) (Init k) = (λ e. absurd cc, λ e. absurd cc)
neighbours_decide (Full h) (Full k) = along _ (λ e. ap (λ (x : Heard). Full x) e) (λ e. cc) (heards_decide h k)

pub ports_decide : (a b : Port) → Decides (ports.ghosts.eq a b) (a ≡ b)
ports_decide a b =
    along _ (λ h. λ i. record { cost = h.0 i; neighbour = h.1 i }) (λ e. (ap (λ (k : Port). k.cost) e, ap (λ (k : Port). k.neighbour) e))
    (and_decides _ _ (Decides-eqb a.cost b.cost) (neighbours_decide a.neighbour b.neighbour))

pub same_at_ports : (ps qs : List Port) (ls ms : OnPorts) → ps ≡ qs → ls ≡ ms → at_ports ps ls ≡ at_ports qs ms
same_at_ports ps qs ls ms p l = λ i. record { ports = p i; lists = l i }
