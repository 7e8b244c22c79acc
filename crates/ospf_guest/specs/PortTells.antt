-- The image of the ports tells them, and no other begins with it.
use Rattle.std.specs.Prelude.{◌≡◌, ℕ, ◌+◌, ◌*◌, ◌≤◌, ◌==◌, nat_le, Bool, true, false, if◌then◌else◌, List, [], ◌∷◌, ◌++◌, length, flat_map, refl}
use Rattle.std.proofs.Common.{arith, append_assoc, sym, ◌∙◌}
use Rattle.std.proofs.lemmas.Bool.{and_parts, leb-true, eqb-true}
use Rattle.ospf_flood.specs.Retransmission.{OnPort, OnPorts}
use Rattle.ospf_router.specs.declared.neighbour.Neighbour.{Neighbour}
use Rattle.ospf_router.specs.declared.neighbour.Neighbour.TheVariants.{Down, Init, Full}
use Rattle.ospf_router.specs.declared.interfaces.Port.{Port}
use Rattle.ospf_router.specs.Interfaces.{AtPorts}
use Rattle.ospf_guest.specs.Numbers.{two, four, eight, bit}
use Rattle.ospf_guest.specs.PlainImage.{state_byte, heard_image, listed_image}
use Rattle.ospf_guest.specs.Image.{is_long, count_image, port_front, port_image, ports_image, is_sound, unsound_image, interfaces_image}
use Rattle.ospf_guest.specs.Prefixfree.{IsFree, regrouped, free_two, free_four, free_eight, free_list, free_listed}

-- ---- neighbours

state_small : (n : Neighbour) → state_byte n ≤ 2
state_small Down = omega arith
state_small (Init h) = omega arith
state_small (Full h) = omega arith

same_state : (n m : Neighbour) (c d : Bool) → state_byte n + 3 * bit c ≡ state_byte m + 3 * bit d → (state_byte n ≡ state_byte m) × (c ≡ d)
same_state n m true true e = (omega arith, refl)
same_state n m true false e = absurd (omega (arith, state_small n, state_small m))
same_state n m false true e = absurd (omega (arith, state_small n, state_small m))
same_state n m false false e = (omega arith, refl)

same_neighbour : (n m : Neighbour) (u v : List ℕ) → state_byte n ≡ state_byte m → heard_image n ++ u ≡ heard_image m ++ v → (n ≡ m) × (u ≡ v)
same_neighbour Down Down u v s e =
    let rest : u ≡ v = cc in
    (refl, rest)
same_neighbour Down (Init h) u v s e = absurd (omega arith)
same_neighbour Down (Full h) u v s e = absurd (omega arith)
same_neighbour (Init g) Down u v s e = absurd (omega arith)
same_neighbour (Init g) (Full h) u v s e = absurd (omega arith)
same_neighbour (Full g) Down u v s e = absurd (omega arith)
same_neighbour (Full g) (Init h) u v s e = absurd (omega arith)
same_neighbour (Init g) (Init h) u v s e =
    let id = free_four g.id h.id (four g.tick ++ u) (four h.tick ++ v) e in
    let tick = free_four g.tick h.tick u v id.1 in
    (λ i. Init (record { id = id.0 i; tick = tick.0 i }), tick.1)
same_neighbour (Full g) (Full h) u v s e =
    let id = free_four g.id h.id (four g.tick ++ u) (four h.tick ++ v) e in
    let tick = free_four g.tick h.tick u v id.1 in
    (λ i. Full (record { id = id.0 i; tick = tick.0 i }), tick.1)

-- ---- a port and its list

same_front : (p q : Port) (c d : Bool) (u v : List ℕ) → port_front p c ++ u ≡ port_front q d ++ v → (p ≡ q) × (c ≡ d) × (u ≡ v)
unfolding port_front
same_front p q c d u v e =
    let cost = free_two p.cost q.cost ((state_byte p.neighbour + 3 * bit c) ∷ (heard_image p.neighbour ++ u)) ((state_byte q.neighbour + 3 * bit d) ∷ (heard_image q.neighbour ++ v)) e in
    let tails = cost.1 in
    let byte : state_byte p.neighbour + 3 * bit c ≡ state_byte q.neighbour + 3 * bit d = cc in
    let heard : heard_image p.neighbour ++ u ≡ heard_image q.neighbour ++ v = cc in
    let state = same_state p.neighbour q.neighbour c d byte in
    let neighbour = same_neighbour p.neighbour q.neighbour u v state.0 heard in
    (λ i. record { cost = cost.0 i; neighbour = neighbour.0 i }, state.1, neighbour.1)

told_count : (c d : Bool) (m n : ℕ) (u v : List ℕ) → c ≡ d → (if c then eight m else two m) ++ u ≡ (if d then eight n else two n) ++ v → (m ≡ n) × (u ≡ v)
told_count true true m n u v s e = free_eight m n u v e
told_count true false m n u v s e = absurd cc
told_count false true m n u v s e = absurd cc
told_count false false m n u v s e = free_two m n u v e

same_count : (l m : OnPort) (u v : List ℕ) → is_long l ≡ is_long m → count_image l ++ u ≡ count_image m ++ v → (length l ≡ length m) × (u ≡ v)
unfolding count_image
same_count l m u v s e = told_count (is_long l) (is_long m) (length l) (length m) u v s e

same_port : (p q : Port) (l m : OnPort) (u v : List ℕ) → port_image p l ++ u ≡ port_image q m ++ v → (p ≡ q) × (l ≡ m) × (u ≡ v)
unfolding port_image
same_port p q l m u v e =
    let whole : port_front p (is_long l) ++ (count_image l ++ (flat_map listed_image l ++ u)) ≡ port_front q (is_long m) ++ (count_image m ++ (flat_map listed_image m ++ v)) =
    sym (regrouped (port_front p (is_long l)) (count_image l) (flat_map listed_image l) u) ∙ e ∙ regrouped (port_front q (is_long m)) (count_image m) (flat_map listed_image m) v in
    let front = same_front p q (is_long l) (is_long m) _ _ whole in
    let count = same_count l m _ _ front.1 front.2 in
    let list = free_list listed_image free_listed l m count.0 u v count.1 in
    (front.0, list.0, list.1)

-- ---- ports

same_ports : (ps qs : List Port) (ls ms : OnPorts) → length ps ≡ length qs → length ls ≡ length ps → length ms ≡ length qs → (u v : List ℕ) → ports_image ps ls ++ u ≡ ports_image qs ms ++ v → (ps ≡ qs) × (ls ≡ ms) × (u ≡ v)
same_ports [] [] [] [] s l m u v e = (refl, refl, e)
same_ports [] [] [] (y ∷ ms) s l m u v e = absurd (omega arith)
same_ports [] [] (x ∷ ls) ms s l m u v e = absurd (omega arith)
same_ports [] (q ∷ qs) ls ms s l m u v e = absurd (omega arith)
same_ports (p ∷ ps) [] ls ms s l m u v e = absurd (omega arith)
same_ports (p ∷ ps) (q ∷ qs) [] ms s l m u v e = absurd (omega arith)
same_ports (p ∷ ps) (q ∷ qs) (x ∷ ls) [] s l m u v e = absurd (omega arith)
same_ports (p ∷ ps) (q ∷ qs) (x ∷ ls) (y ∷ ms) s l m u v e =
    let whole : port_image p x ++ (ports_image ps ls ++ u) ≡ port_image q y ++ (ports_image qs ms ++ v) =
    sym (append_assoc (port_image p x) (ports_image ps ls) u) ∙ e ∙ append_assoc (port_image q y) (ports_image qs ms) v in
    let first = same_port p q x y _ _ whole in
    let rest = same_ports ps qs ls ms (omega arith) (omega arith) (omega arith) u v first.2 in
    (λ i. first.0 i ∷ rest.0 i, λ i. first.1 i ∷ rest.1 i, rest.2)

-- ---- ports and lists that no router has

free_front : IsFree (λ (p : Port). port_front p false)
free_front p q u v e =
    let both = same_front p q false false u v e in
    (both.0, both.2)

free_long : IsFree (λ (l : OnPort). length l ∷ flat_map listed_image l)
free_long l m u v e =
    let count : length l ≡ length m = cc in
    let tails : flat_map listed_image l ++ u ≡ flat_map listed_image m ++ v = cc in
    free_list listed_image free_listed l m count u v tails

same_unsound : (a b : AtPorts) (u v : List ℕ) → unsound_image a ++ u ≡ unsound_image b ++ v → (a ≡ b) × (u ≡ v)
same_unsound a b u v e =
    let fronts : AtPorts → List ℕ = λ c. flat_map (λ (p : Port). port_front p false) c.ports in
    let lists : AtPorts → List ℕ = λ c. flat_map (λ (l : OnPort). length l ∷ flat_map listed_image l) c.lists in
    let ports : 17 + length a.ports ≡ 17 + length b.ports = cc in
    let count : length a.lists ≡ length b.lists = cc in
    let behind : (fronts a ++ lists a) ++ u ≡ (fronts b ++ lists b) ++ v = cc in
    let whole : fronts a ++ (lists a ++ u) ≡ fronts b ++ (lists b ++ v) = sym (append_assoc (fronts a) (lists a) u) ∙ behind ∙ append_assoc (fronts b) (lists b) v in
    let first = free_list (λ (p : Port). port_front p false) free_front a.ports b.ports (omega arith) _ _ whole in
    let rest = free_list (λ (l : OnPort). length l ∷ flat_map listed_image l) free_long a.lists b.lists count u v first.1 in
    (λ i. record { ports = first.0 i; lists = rest.0 i }, rest.1)

-- ---- ports and lists

sound : (a : AtPorts) → is_sound a ≡ true → (length a.ports ≤ 16) × (length a.lists ≡ length a.ports)
sound a e =
    let both = and_parts (nat_le (length a.ports) 16) (length a.lists == length a.ports) e in
    (leb-true (length a.ports) 16 both.0, eqb-true (length a.lists) (length a.ports) both.1)

same_sound : (a b : AtPorts) → is_sound a ≡ true → is_sound b ≡ true → (u v : List ℕ) → (length a.ports ∷ ports_image a.ports a.lists) ++ u ≡ (length b.ports ∷ ports_image b.ports b.lists) ++ v → (a ≡ b) × (u ≡ v)
same_sound a b s t u v e =
    let count : length a.ports ≡ length b.ports = cc in
    let tails : ports_image a.ports a.lists ++ u ≡ ports_image b.ports b.lists ++ v = cc in
    let l = (sound a s).1 in
    let m = (sound b t).1 in
    let all = same_ports a.ports b.ports a.lists b.lists count l m u v tails in
    (λ i. record { ports = all.0 i; lists = all.1 i }, all.2)

unlike : (a b : AtPorts) → is_sound a ≡ true → (u v : List ℕ) → (length a.ports ∷ ports_image a.ports a.lists) ++ u ≡ unsound_image b ++ v → ⊥
unlike a b s u v e =
    let count : length a.ports ≡ 17 + length b.ports = cc in
    let few = (sound a s).0 in
    omega arith

told_interfaces : (a b : AtPorts) (c d : Bool) → is_sound a ≡ c → is_sound b ≡ d → (u v : List ℕ) → (if c then length a.ports ∷ ports_image a.ports a.lists else unsound_image a) ++ u ≡ (if d then length b.ports ∷ ports_image b.ports b.lists else unsound_image b) ++ v → (a ≡ b) × (u ≡ v)
told_interfaces a b true true s t u v e = same_sound a b s t u v e
told_interfaces a b true false s t u v e = absurd (unlike a b s u v e)
told_interfaces a b false true s t u v e = absurd (unlike b a t v u (sym e))
told_interfaces a b false false s t u v e = same_unsound a b u v e

pub free_interfaces : IsFree interfaces_image
unfolding interfaces_image
free_interfaces a b u v e = told_interfaces a b (is_sound a) (is_sound b) refl refl u v e
