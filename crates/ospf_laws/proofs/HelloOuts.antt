-- A Hello goes out of each up port at each tick that HelloInterval divides.
use Rattle.std.proofs.Common.{◌≡◌, ◌≢◌, inl, inr, ℕ, zero, suc, Bool, true, false, cond, ◌&&◌, ◌||◌, ◌+◌, ◌%◌, ◌≤◌, ◌<◌, List, [], ◌∷◌, ◌++◌, length, refl, sym, ap, subst, ◌∙◌, arith}
use Rattle.std.specs.Prelude.{Contains, ◌==◌, fold, nat_lt, Some}
use Rattle.std.specs.List.{range_with_len}
use Rattle.std.proofs.lemmas.Bool.Decides.{Decides-eqb, nat_tests}
use Rattle.std.proofs.lemmas.List.{get_or-set_other, get_or-set_same, length-set}
use Rattle.std.proofs.lemmas.List.Elements.{All-contains_itself, Contains-append_left, Contains-append_right, recursion_from_All}
use Rattle.dn_guest.specs.declared.outbox.Output.{Output}
use Rattle.ospf_router.specs.BuildUpdates.{copy_of, packet_of, update_on}
use Rattle.ospf_router.specs.Neighbours.{is_dead}
use Rattle.ospf_router.specs.declared.neighbour.Neighbour.{Neighbour}
use Rattle.ospf_router.specs.declared.neighbour.Neighbour.TheVariants.{Down}
use Rattle.ospf_router.specs.declared.interfaces.Port.{Port}
use Rattle.ospf_lsdb.specs.Keys.{own_key}
use Rattle.ospf_lsdb.specs.Database.{originated}
use Rattle.ospf_flood.specs.Retransmission.{without_lsa_anywhere}
use Rattle.dn_guest.specs.declared.input.Input.TheVariants as input
use Rattle.dn_guest.specs.Ports.{is_up}
use Rattle.ospf_wire.specs.declared.packet.Body.{Body}
use Rattle.ospf_wire.specs.declared.packet.Body.TheVariants as body
use Rattle.ospf_lsdb.specs.declared.key.LsaKey.{LsaKey}
use Rattle.ospf_lsdb.specs.Database.{aged, reaching_max_age, kept_at}
use Rattle.ospf_flood.specs.Retransmission.{due, list_of}
use Rattle.ospf_router.specs.declared.router.Router.{Router}
use Rattle.ospf_router.specs.State.{OspfState, id_of, router_of}
use Rattle.ospf_router.specs.Origination.{finish_step, has_next_sequence_number, is_outdated, may_originate, originate_if_needed, originate_own_lsa, remove_max_age_lsas, wanted_body}
use Rattle.ospf_router.specs.Interfaces.{AtPorts, emptied, full_mask, neighbour_at, neighbour_down, port_at, with_neighbour}
use Rattle.ospf_router.specs.BuildUpdates.{updates_on}
use Rattle.ospf_router.specs.Flooding.{flood_next_lsa, flood_lsa, list_as_sent, send_lsas, send_packet, putting}
use Rattle.ospf_router.specs.Ticks.{age_lsas, check_dead_neighbour, check_dead_neighbours, ports_of, retransmit, retransmit_on, run_timers, send_hello, send_hellos, ticked}
use Rattle.ospf_router.specs.Hellos.{hello_to}
use Rattle.ospf_router.specs.Step.{handled, next, ospf_outs, stepped}
use Rattle.ospf_laws.proofs.Choice.{choose, folded}
use Rattle.ospf_laws.specs.Heard.{heard_at, hello_on}
use Rattle.ospf_laws.proofs.Masks.{first_or}

-- ---- folds over the ports

later_on : {A : Type 0} (Q : A → Type 0) (f : A → ℕ → A) (p : ℕ) → ((a : A) (q : ℕ) → q ≢ p → Q a → Q (f a q)) → (n s : ℕ) (a : A) → p < s → Q a → Q (fold f a (range_with_len s n))
later_on Q f p after zero s a low is = is
later_on Q f p after (suc n) s a low is = later_on Q f p after n (s + 1) (f a s) (omega (arith, low)) (after a s (λ e. omega (arith, e, low)) is)

above_by : (b : Bool) (s p : ℕ) → nat_lt s p ≡ b → s ≤ p → s ≢ p → s + 1 ≤ p
above_by true s p t low differ = grind (arith, nat_tests)
above_by false s p t low differ =
    let not_less : p ≤ s = grind (arith, nat_tests) in
    absurd (differ (omega (arith, low, not_less)))

above : (s p : ℕ) → s ≤ p → s ≢ p → s + 1 ≤ p
above s p low differ = above_by (nat_lt s p) s p refl low differ

-- what the step at one number brings about from the ground that those before keep, and those after keep
at_one : {A : Type 0} (I Q : A → Type 0) (f : A → ℕ → A) (p : ℕ) → ((a : A) (q : ℕ) → q ≢ p → I a → I (f a q)) → ((a : A) → I a → Q (f a p)) → ((a : A) (q : ℕ) → q ≢ p → Q a → Q (f a q))
    → (n s : ℕ) (a : A) → s ≤ p → p < s + n → I a → Q (fold f a (range_with_len s n))
at_one I Q f p before here after zero s a low high i = absurd (omega (arith, low, high))
at_one I Q f p before here after (suc n) s a low high i = elim (first_or s p) [
  | inl same ↦ later_on Q f p after n (s + 1) (f a s) (omega (arith, same)) (subst (λ (q : ℕ). Q (f a q)) (sym same) (here a i))
  | inr differ ↦ at_one I Q f p before here after n (s + 1) (f a s) (above s p low differ) (omega (arith, high)) (before a s differ i)
]

-- ---- silent neighbours

-- the ports are so many, and this is the neighbour at the port
abbrev Has : ℕ → ℕ → Neighbour → AtPorts → Type 0
Has many p n a = (length a.ports ≡ many) × (neighbour_at a p ≡ n)

down-other : (many p q : ℕ) (n : Neighbour) (a : AtPorts) → q ≢ p → Has many p n a → Has many p n (neighbour_down q a)
unfolding neighbour_down emptied with_neighbour
down-other many p q n a differ has =
    let x : Port = record (port_at a q) { neighbour = Down } in
    (length-set a.ports q x ∙ has.0, ap (λ (y : Port). y.neighbour) (get_or-set_other a.ports q p x (record { cost = 0; neighbour = Down }) (λ e. differ (sym e))) ∙ has.1)

check-other : (now many p : ℕ) (n : Neighbour) (a : AtPorts) (q : ℕ) → q ≢ p → Has many p n a → Has many p n (check_dead_neighbour now a q)
check-other now many p n a q differ has =
    choose (Has many p n) (is_dead now (neighbour_at a q)) (neighbour_down q a) a (λ _. down-other many p q n a differ has) (λ _. has)

down-here : (many p : ℕ) (a : AtPorts) → length a.ports ≡ many → p < many → Has many p Down (neighbour_down p a)
unfolding neighbour_down emptied with_neighbour
down-here many p a count few =
    let x : Port = record (port_at a p) { neighbour = Down } in
    let within : p < length a.ports = omega (arith, count, few) in
    (length-set a.ports p x ∙ count, ap (λ (y : Port). y.neighbour) (get_or-set_same a.ports p x (record { cost = 0; neighbour = Down }) within))

check-by : (b : Bool) (now many p : ℕ) (n : Neighbour) (a : AtPorts) → p < many → Has many p n a → is_dead now n ≡ b → Has many p (cond b Down n) (check_dead_neighbour now a p)
check-by true now many p n a few has t =
    let dead : is_dead now (neighbour_at a p) ≡ true = ap (is_dead now) has.1 ∙ t in
    rw dead (down-here many p a has.0 few)
check-by false now many p n a few has t =
    let alive : is_dead now (neighbour_at a p) ≡ false = ap (is_dead now) has.1 ∙ t in
    rw alive has

check-here : (now many p : ℕ) (n : Neighbour) (a : AtPorts) → p < many → Has many p n a → Has many p (heard_at now n) (check_dead_neighbour now a p)
check-here now many p n a few has =
    check-by (is_dead now n) now many p n a few has refl

neighbour-checked : (r : Router) (p : ℕ) → p < length r.interfaces.ports
    → Has (length r.interfaces.ports) p (heard_at r.tick (neighbour_at r.interfaces p)) (check_dead_neighbours r).interfaces
unfolding check_dead_neighbours
neighbour-checked r p few =
    let many = length r.interfaces.ports in
    let n = neighbour_at r.interfaces p in
    at_one (Has many p n) (Has many p (heard_at r.tick n)) (check_dead_neighbour r.tick) p (λ a q differ has. check-other r.tick many p n a q differ has)
    (λ a has. check-here r.tick many p n a few has) (λ a q differ has. check-other r.tick many p (heard_at r.tick n) a q differ has)
    many 0 r.interfaces (omega arith) (omega (arith, few)) (refl, refl)

-- ---- what is put out stays

-- this output is among those that were put out
abbrev Puts : Output → Router → Type 0
Puts o r = Contains r.out o

itself : (o : Output) → Contains (o ∷ []) o
itself o = (recursion_from_All (Contains (o ∷ [])) (o ∷ []) (All-contains_itself (o ∷ []))).0

puts-flood_lsa : (o : Output) (mask : ℕ) (key : LsaKey) (r : Router) → Puts o r → Puts o (flood_lsa mask key r)
unfolding flood_lsa
puts-flood_lsa o mask key r h = Contains-append_left r.out (update_on mask r.number (copy_of r.tick r.db key)) o h

puts-send_packet : (o : Output) (port : ℕ) (b : Body) (r : Router) → Puts o r → Puts o (send_packet port b r)
unfolding send_packet
puts-send_packet o port b r h = Contains-append_left r.out (record { port = port; body = packet_of r.number b } ∷ []) o h

puts-list_as_sent : (o : Output) (port : ℕ) (r : Router) (key : LsaKey) → Puts o r → Puts o (list_as_sent port r key)
unfolding list_as_sent
puts-list_as_sent o port r key h = h

puts-send_lsas : (o : Output) (port : ℕ) (ks : List LsaKey) (r : Router) → Puts o r → Puts o (send_lsas port ks r)
unfolding send_lsas
puts-send_lsas o port ks r h =
    folded (Puts o) (list_as_sent port) (puts-list_as_sent o port) ks (putting (updates_on port r.number r.tick r.db ks) r)
    (Contains-append_left r.out (updates_on port r.number r.tick r.db ks) o h)

puts-send_hello : (o : Output) (ports : ℕ) (r : Router) (port : ℕ) → Puts o r → Puts o (send_hello ports r port)
unfolding send_hello
puts-send_hello o ports r port h =
    let b = body.Hello (hello_to (neighbour_at r.interfaces port)) in
    choose (Puts o) (is_up ports port) (send_packet port b r) r (λ _. puts-send_packet o port b r h) (λ _. h)

puts-retransmit_on : (o : Output) (full : ℕ) (r : Router) (port : ℕ) → Puts o r → Puts o (retransmit_on full r port)
unfolding retransmit_on
puts-retransmit_on o full r port h =
    let ks = due r.tick (list_of r.interfaces.lists port) in
    choose (Puts o) (is_up full port) (send_lsas port ks r) r (λ _. puts-send_lsas o port ks r h) (λ _. h)

puts-retransmit : (o : Output) (full : ℕ) (r : Router) → Puts o r → Puts o (retransmit full r)
unfolding retransmit
puts-retransmit o full r h = folded (Puts o) (retransmit_on full) (puts-retransmit_on o full) (ports_of r.interfaces) r h

puts-originate : (o : Output) (full : ℕ) (wanted : List ℕ) (r : Router) → Puts o r → Puts o (originate_own_lsa full wanted r)
unfolding originate_own_lsa
puts-originate o full wanted r h =
    puts-flood_lsa o full (own_key (id_of r)) (record r {
      originated = Some r.tick;
      interfaces = record r.interfaces { lists = without_lsa_anywhere (own_key (id_of r)) r.interfaces.lists };
      db = originated r.db (id_of r) wanted r.tick;
    }) h

puts-finish_step : (o : Output) (ports : ℕ) (r : Router) → Puts o r → Puts o (finish_step ports r)
unfolding finish_step originate_if_needed remove_max_age_lsas
puts-finish_step o ports r h =
    let own = kept_at r.db (own_key (id_of r)) in
    let wanted = wanted_body ports r in
    choose (Puts o) (may_originate r.tick r.originated && is_outdated r.tick wanted own && has_next_sequence_number own)
    (originate_own_lsa (full_mask ports r.interfaces) wanted r) r (λ _. puts-originate o (full_mask ports r.interfaces) wanted r h) (λ _. h)

-- ---- the Hellos of a tick

-- the number, the tick, how many ports there are, and the neighbour at one
abbrev Ground : ℕ → ℕ → ℕ → ℕ → Neighbour → Router → Type 0
Ground number tick many p n r = ((r.number ≡ number) × (r.tick ≡ tick)) × Has many p n r.interfaces

ground-flood_lsa : (number tick many p : ℕ) (n : Neighbour) (mask : ℕ) (key : LsaKey) (r : Router) → Ground number tick many p n r → Ground number tick many p n (flood_lsa mask key r)
unfolding flood_lsa
ground-flood_lsa number tick many p n mask key r g = g

ground-age_lsas : (number tick many p : ℕ) (n : Neighbour) (full : ℕ) (r : Router) → Ground number tick many p n r → Ground number tick many p n (age_lsas full r)
unfolding age_lsas
ground-age_lsas number tick many p n full r g =
    folded (Ground number tick many p n) (flood_next_lsa full) (λ t key h. ground-flood_lsa number tick many p n full key t h) (reaching_max_age r.tick r.db) (record r { db = aged r.tick r.db }) g

ground-send_hello : (number tick many p : ℕ) (n : Neighbour) (ports : ℕ) (r : Router) (port : ℕ) → Ground number tick many p n r → Ground number tick many p n (send_hello ports r port)
unfolding send_hello send_packet
ground-send_hello number tick many p n ports r port g =
    let b = body.Hello (hello_to (neighbour_at r.interfaces port)) in
    choose (Ground number tick many p n) (is_up ports port) (send_packet port b r) r (λ _. g) (λ _. g)

abbrev hello_of : ℕ → ℕ → Neighbour → Output
hello_of number p n = record { port = p; body = packet_of number (body.Hello (hello_to n)) }

put-here : (number tick many p : ℕ) (n : Neighbour) (ports : ℕ) (r : Router) → is_up ports p ≡ true → Ground number tick many p n r → Puts (hello_of number p n) (send_hello ports r p)
unfolding send_hello send_packet
put-here number tick many p n ports r up g =
    let sent : Output = hello_of r.number p (neighbour_at r.interfaces p) in
    let same : sent ≡ hello_of number p n = λ i. hello_of (g.0.0 i) p (g.1.1 i) in
    rw up (subst (λ (o : Output). Contains (r.out ++ sent ∷ []) o) same (Contains-append_right r.out (sent ∷ []) sent (itself sent)))

puts-send_hellos : (number tick many p : ℕ) (n : Neighbour) (ports : ℕ) (r : Router) → is_up ports p ≡ true → p < many → (tick % 10 == 0) ≡ true → Ground number tick many p n r
    → Puts (hello_of number p n) (send_hellos ports r)
unfolding send_hellos
puts-send_hellos number tick many p n ports r up few due g =
    let now : (r.tick % 10 == 0) ≡ true = ap (λ (t : ℕ). t % 10 == 0) g.0.1 ∙ due in
    rw now (at_one (Ground number tick many p n) (Puts (hello_of number p n)) (send_hello ports) p
    (λ t q _ h. ground-send_hello number tick many p n ports t q h)
    (λ t h. put-here number tick many p n ports t up h)
    (λ t q _ h. puts-send_hello (hello_of number p n) ports t q h)
    (length r.interfaces.ports) 0 r (omega arith) (omega (arith, few, g.1.0)) g)

ground-checked : (r : Router) (group p : ℕ) → p < length r.interfaces.ports
    → Ground r.number group (length r.interfaces.ports) p (heard_at group (neighbour_at r.interfaces p)) (check_dead_neighbours (record r { tick = group }))
unfolding check_dead_neighbours
ground-checked r group p few = ((refl, refl), neighbour-checked (record r { tick = group }) p few)

ticked_out : (ports group : ℕ) (r : Router) (p : ℕ) → is_up ports p ≡ true → p < length r.interfaces.ports → (group % 10 == 0) ≡ true
    → Puts (hello_of r.number p (heard_at group (neighbour_at r.interfaces p))) (ticked ports group r)
unfolding ticked run_timers
ticked_out ports group r p up few due =
    let now : Router = record r { tick = group } in
    let s = check_dead_neighbours now in
    let n = heard_at group (neighbour_at r.interfaces p) in
    let many = length r.interfaces.ports in
    let o = hello_of r.number p n in
    let full = full_mask ports s.interfaces in
    puts-retransmit o full (send_hellos ports (age_lsas full s))
    (puts-send_hellos r.number group many p n ports (age_lsas full s) up few due
    (ground-age_lsas r.number group many p n full s (ground-checked r group p few)))

taken_by : (tick group : ℕ) → tick ≤ group → group ≤ 65535 → (nat_lt group tick || nat_lt 65535 group) ≡ false
taken_by tick group later few = grind (arith, nat_tests)

due_by : (group : ℕ) → group % 10 ≡ 0 → (group % 10 == 0) ≡ true
due_by group e = (Decides-eqb (group % 10) 0).1 e

not_both : {A : Type 0} (b : Bool) → b ≡ false → b ≡ true → A
not_both b f t = let both : true ≡ false = sym t ∙ f in absurd cc

pub hellos : (s : OspfState) (ports group port : ℕ) → s.tick ≤ group → group ≤ 65535 → group % 10 ≡ 0 → port < length s.interfaces.ports → is_up ports port ≡ true
    → Contains (ospf_outs s ports (input.Tick group)) (hello_on s group port)
unfolding ospf_outs next stepped handled
hellos s ports group port later last divides few up =
    let passed = nat_lt group s.tick || nat_lt 65535 group in
    choose (λ (t : Router). Contains t.out (hello_on s group port)) passed (router_of s) (finish_step ports (ticked ports group (router_of s)))
    (λ t. not_both passed (taken_by s.tick group later last) t)
    (λ _. puts-finish_step (hello_on s group port) ports (ticked ports group (router_of s)) (ticked_out ports group (router_of s) port up few (due_by group divides)))
