-- No route goes by a port that is down.
use Rattle.std.proofs.Common.{◌≡◌, ◌≢◌, ◌⊎◌, inl, inr, ℕ, Bool, true, false, not, ◌&&◌, ◌==◌, ◌*◌, ◌%◌, ◌^◌, ◌<◌, min, List, [], ◌∷◌, length, Option, Some, None, refl, sym, ap, subst, ◌∙◌, arith}
use Rattle.std.specs.Prelude.{option_map, IfSome, fold, nat_lt, bit_and, bit_or}
use Rattle.std.specs.Int.{w16, bit_at, bit_not}
use Rattle.std.specs.List.{AllByRecursion}
use Rattle.std.proofs.lemmas.Bool.Decides.{Decides-eqb}
use Rattle.std.proofs.lemmas.Nat.Bits.{bit_at-lt, bit_at_clear_other, bit_at_or}
use Rattle.std.proofs.lemmas.Option.{none-some, same_Some}
use Rattle.std.proofs.Math.Pow.{pow-lt}
use Rattle.dn_guest.specs.declared.input.Input.{Input}
use Rattle.dn_guest.specs.declared.input.Input.TheVariants as input
use Rattle.dn_guest.specs.declared.node.Node.{Node}
use Rattle.dn_guest.specs.Node.{is_taken, node_after, ports_after}
use Rattle.dn_guest.specs.Ports.{is_up}
use Rattle.dn_net.specs.Networks.{Network}
use Rattle.rip_table.specs.declared.held.Held.{Held}
use Rattle.rip_table.specs.Held.{is_lost_via, is_reachable, is_via, lost, settled}
use Rattle.rip_table.specs.Own.{connected, with_own}
use Rattle.rip_table.specs.Routes.{Routes, all_changed, held_at, is_full}
use Rattle.rip_table.specs.Timers.{port_lost}
use Rattle.rip_guest.specs.Rip.{rip}
use Rattle.rip_guest.specs.Sound.{AreSettings, HasBytes}
use Rattle.rip_guest.specs.State.{Prefix, RipState, has_port, opening, with_routes}
use Rattle.rip_guest.specs.Step.{handled, rip_after}
use Rattle.rip_laws.specs.Reached.{IsReached}
use Rattle.rip_laws.specs.Told.{IsTold}
use Rattle.rip_laws.specs.UpPorts.{AreByUpPorts, node_run, opening_node}
use Rattle.rip_laws.proofs.Choice.{and_true, choose, never}
use Rattle.rip_laws.proofs.Lookups.{Puts, changed_at, put_keeps}
use Rattle.rip_laws.proofs.Runs.{opening_reached, step_reached}
use Rattle.rip_laws.proofs.Steps.{sent_keeps, settle_at}
use Rattle.rip_laws.proofs.Times.{below, below_by}

-- what the law `routes_come_from_messages` says
abbrev pub ComeFromMessages : Type 0
ComeFromMessages = (s : RipState) (ports : ℕ) (i : Input) → IsReached s → (n : Network)
    → IfSome (held_at (rip_after s ports i).routes n) (λ h. h.metric < 16 → (port : ℕ) → h.via ≡ Some port → (held_at s.routes n ≡ Some h) ⊎ IsTold s i port n h)

-- each route goes by a port that the router has
abbrev pub GoByPorts : Type 0
GoByPorts = (s : RipState) (n : Network) (h : Held) (port : ℕ) → IsReached s → held_at s.routes n ≡ Some h → h.via ≡ Some port → port < length s.costs

-- ---- a route of a step

up_taken : (mask : ℕ) (i : Input) (port : ℕ) (body : List ℕ) → is_taken mask i ≡ true → i ≡ input.Msg port body → is_up mask port ≡ true
up_taken mask i port body taken comes = subst (λ (x : Input). is_taken mask x ≡ true) comes taken

-- what a step leaves that isn't up
abbrev IsOld : Node RipState → Network → Held → Type 0
IsOld node n h = h.metric < 16 → (port : ℕ) → h.via ≡ Some port → is_up node.ports port ≡ false → held_at node.guest.routes n ≡ Some h

old_start : (node : Node RipState) (n : Network) (o : Option Held) → held_at node.guest.routes n ≡ o → IfSome o (IsOld node n)
old_start node n None found = tt
old_start node n (Some h) found = λ small port via down. found

old_after : (node : Node RipState) (i : Input) (n : Network) (o : Option Held) → is_taken node.ports i ≡ true
    → IfSome o (λ h. h.metric < 16 → (port : ℕ) → h.via ≡ Some port → (held_at node.guest.routes n ≡ Some h) ⊎ IsTold node.guest i port n h)
    → IfSome o (IsOld node n)
old_after node i n None taken from = tt
old_after node i n (Some h) taken from = λ small port via down. elim (from small port via) [
  | inl old ↦ old
  | inr told ↦ never (is_up node.ports port) (up_taken node.ports i port told.response.body taken told.response.comes) down
]

pub no_route_taken : (from : ComeFromMessages) (node : Node RipState) (i : Input) → IsReached node.guest → (n : Network) → IfSome (held_at (node_after rip node i).guest.routes n) (IsOld node n)
unfolding node_after
no_route_taken from node i is n =
    choose (λ (m : Node RipState). IfSome (held_at m.guest.routes n) (IsOld node n)) (is_taken node.ports i) _ node
    (λ taken. old_after node i n (held_at (rip_after node.guest (ports_after node.ports i) i).routes n) taken (from node.guest (ports_after node.ports i) i is n))
    (λ _. old_start node n (held_at node.guest.routes n) refl)

-- ---- the mask

abbrev IsUp : ℕ → ℕ → Type 0
IsUp mask port = is_up mask port ≡ true

up_by : (mask port : ℕ) → port < 16 → bit_at mask port ≡ 1 → IsUp mask port
up_by mask port few bit = ap (λ (b : Bool). b && (bit_at mask port == 1)) (below port 16 few) ∙ (Decides-eqb (bit_at mask port) 1).1 bit

few_by : (mask port : ℕ) → IsUp mask port → port < 16
few_by mask port up = below_by port 16 (and_true (nat_lt port 16) (bit_at mask port == 1) up).0

bit_by : (mask port : ℕ) → IsUp mask port → bit_at mask port ≡ 1
bit_by mask port up = (Decides-eqb (bit_at mask port) 1).0 (and_true (nat_lt port 16) (bit_at mask port == 1) up).1

small_power : (k : ℕ) → k < 16 → 1 * 2 ^ k % 65536 ≡ 2 ^ k
small_power k few =
    let less : 2 ^ k < 65536 = pow-lt few in
    omega (arith, less)

up_cleared : (mask port other : ℕ) → port < 16 → IsUp mask other → other ≢ port → IsUp (bit_and mask (bit_not w16 (2 ^ port))) other
up_cleared mask port other few up differ =
    let stays : bit_at (bit_and mask (bit_not w16 (1 * 2 ^ port % 65536))) other ≡ bit_at mask other = bit_at_clear_other w16 mask port few other (few_by mask other up) differ in
    let same : bit_at (bit_and mask (bit_not w16 (2 ^ port))) other ≡ bit_at mask other =
    ap (λ (k : ℕ). bit_at (bit_and mask (bit_not w16 k)) other) (sym (small_power port few)) ∙ stays in
    up_by (bit_and mask (bit_not w16 (2 ^ port))) other (few_by mask other up) (same ∙ bit_by mask other up)

up_set : (mask port other : ℕ) → IsUp mask other → IsUp (bit_or mask (2 ^ port)) other
up_set mask port other up =
    let bit : bit_at (bit_or mask (2 ^ port)) other ≡ 1 = omega (arith, bit_at_or mask (2 ^ port) other, bit_by mask other up, bit_at-lt (2 ^ port) other) in
    up_by (bit_or mask (2 ^ port)) other (few_by mask other up) bit

up_after : (mask port : ℕ) (i : Input) → IsUp mask port → (i ≡ input.Down port → ⊥) → IsUp (ports_after mask i) port
up_after mask port (input.Tick group) up other = up
up_after mask port (input.Cmd body) up other = up
up_after mask port (input.Down down) up other =
    choose (λ (m : ℕ). IsUp m port) (nat_lt down 16) (bit_and mask (bit_not w16 (2 ^ down))) mask
    (λ t. up_cleared mask down port (below_by down 16 t) up (λ same. other (ap (λ (k : ℕ). input.Down k) (sym same)))) (λ _. up)
up_after mask port (input.Up more) up other =
    choose (λ (m : ℕ). IsUp m port) (nat_lt more 16) (bit_or mask (2 ^ more)) mask (λ _. up_set mask more port up) (λ _. up)
up_after mask port (input.Msg from body) up other = up

-- ---- a port that goes down

-- no route that can be reached goes by the port
abbrev HasNone : ℕ → Option Held → Type 0
HasNone port o = IfSome o (λ h. h.metric < 16 → h.via ≡ Some port → ⊥)

none_settled : (port : ℕ) (o : Option Held) → HasNone port o → HasNone port (option_map settled o)
none_settled port None none = tt
none_settled port (Some h) none = none

both_true : (a b : Bool) → a ≡ true → b ≡ true → (a && b) ≡ true
both_true true b x y = y
both_true false b x y = absurd cc

via_true : (v : Option ℕ) (port : ℕ) (h : Held) → h.via ≡ v → v ≡ Some port → is_via port h ≡ true
via_true None port h t e = absurd (none-some port e)
via_true (Some q) port h t e = rw t ((Decides-eqb q port).1 (same_Some q port e))

none_lost : (port now : ℕ) (o : Option Held) → HasNone port (option_map (port_lost port now) o)
none_lost port now None = tt
none_lost port now (Some h) =
    choose (λ (x : Held). x.metric < 16 → x.via ≡ Some port → ⊥) (is_lost_via port h) (lost now h) h (λ _ small via. omega (arith, small))
    (λ stays small via. never (is_lost_via port h) (both_true (is_via port h) (is_reachable h) (via_true h.via port h refl via) (below h.metric 16 small)) stays)

none_after : (s : RipState) (ports port : ℕ) (n : Network) → port < length s.costs → HasNone port (held_at (rip_after s ports (input.Down port)).routes n)
none_after s ports port n there =
    let P : Option Held → Type 0 = HasNone port in
    let routes = all_changed (port_lost port s.last_tick) s.routes in
    sent_keeps P (none_settled port) (handled s (input.Down port)) n
    (choose (λ (t : RipState). P (held_at t.routes n)) (has_port s port) (with_routes s routes) s
    (λ _. subst P (sym (changed_at (port_lost port s.last_tick) s.routes n)) (none_lost port s.last_tick (held_at s.routes n)))
    (λ no_port. never (has_port s port) (below port (length s.costs) there) no_port))

if_some : (P : Held → Type 0) (o : Option Held) (h : Held) → o ≡ Some h → IfSome o P → P h
if_some P o h is all = subst (λ (x : Option Held). IfSome x P) is all

-- ---- a step of the node

-- this state holds only routes that go by ports that are up
abbrev ByUpPorts : ℕ → RipState → Type 0
ByUpPorts mask s = (n : Network) → IfSome (held_at s.routes n) (λ h. h.metric < 16 → (port : ℕ) → h.via ≡ Some port → IsUp mask port)

still_up : (from : ComeFromMessages) (there : GoByPorts) (s : RipState) (mask : ℕ) (i : Input) (n : Network) (o : Option Held) → IsReached s → ByUpPorts mask s → is_taken mask i ≡ true
    → held_at (rip_after s (ports_after mask i) i).routes n ≡ o
    → IfSome o (λ h. h.metric < 16 → (port : ℕ) → h.via ≡ Some port → (held_at s.routes n ≡ Some h) ⊎ IsTold s i port n h)
    → IfSome o (λ h. h.metric < 16 → (port : ℕ) → h.via ≡ Some port → IsUp (ports_after mask i) port)
still_up from there s mask i n None is by taken found told = tt
still_up from there s mask i n (Some h) is by taken found told = λ small port via. elim (told small port via) [
  | inl old ↦
      let up : IsUp mask port = if_some (λ x. x.metric < 16 → (q : ℕ) → x.via ≡ Some q → IsUp mask q) (held_at s.routes n) h old (by n) small port via in
      let other : i ≡ input.Down port → ⊥ = λ down.
      let gone : held_at (rip_after s (ports_after mask i) (input.Down port)).routes n ≡ Some h = subst (λ (x : Input). held_at (rip_after s (ports_after mask i) x).routes n ≡ Some h) down found in
      if_some (λ x. x.metric < 16 → x.via ≡ Some port → ⊥) (held_at (rip_after s (ports_after mask i) (input.Down port)).routes n) h gone
      (none_after s (ports_after mask i) port n (there s n h port is old via)) small via in
      up_after mask port i up other
  | inr now ↦
      subst (λ (x : Input). IsUp (ports_after mask x) port) (sym now.response.comes) (up_taken mask i port now.response.body taken now.response.comes)
]

step_up : (from : ComeFromMessages) (there : GoByPorts) (node : Node RipState) (i : Input) → IsReached node.guest → AreByUpPorts node → AreByUpPorts (node_after rip node i)
unfolding node_after
step_up from there node i is by =
    choose AreByUpPorts (is_taken node.ports i) _ node
    (λ taken n. still_up from there node.guest node.ports i n (held_at (rip_after node.guest (ports_after node.ports i) i).routes n) is by taken refl (from node.guest (ports_after node.ports i) i is n))
    (λ _. by)

node_reached : (node : Node RipState) (i : Input) → HasBytes i → IsReached node.guest → IsReached (node_after rip node i).guest
unfolding node_after
node_reached node i bytes is =
    choose (λ (m : Node RipState). IsReached m.guest) (is_taken node.ports i) _ node (λ _. step_reached node.guest (ports_after node.ports i) i bytes is) (λ _. is)

run_up : (from : ComeFromMessages) (there : GoByPorts) (node : Node RipState) (inputs : List Input) → AllByRecursion HasBytes inputs → IsReached node.guest → AreByUpPorts node → AreByUpPorts (node_run node inputs)
run_up from there node [] all is by = by
run_up from there node (i ∷ inputs) all is by =
    run_up from there (node_after rip node i) inputs all.1 (node_reached node i all.0 is) (step_up from there node i is by)

-- ---- the start

-- no route is learnt
abbrev IsNotLearnt : Option Held → Type 0
IsNotLearnt o = IfSome o (λ h. (port : ℕ) → h.via ≡ Some port → ⊥)

own_not_learnt : (full : Bool) (metric now : ℕ) (o : Option Held) → IsNotLearnt (connected full metric now o)
own_not_learnt true metric now None = tt
own_not_learnt false metric now None = λ port via. none-some port via
own_not_learnt full metric now (Some h) = λ port via. none-some port via

not_learnt : (c : Puts) (n : Network) (prefixes : List Prefix) (routes : Routes) → IsNotLearnt (held_at routes n)
    → IsNotLearnt (held_at (fold (λ r p. with_own r p.0 p.1 (min 16 p.2) 0) routes prefixes) n)
not_learnt c n [] routes before = before
not_learnt c n (p ∷ prefixes) routes before =
    not_learnt c n prefixes (with_own routes p.0 p.1 (min 16 p.2) 0)
    (put_keeps c IsNotLearnt routes (p.0, p.1) n (connected (is_full routes) (min 16 p.2) 0 (held_at routes (p.0, p.1))) before
    (λ _. own_not_learnt (is_full routes) (min 16 p.2) 0 (held_at routes (p.0, p.1))))

not_learnt_settled : (o : Option Held) → IsNotLearnt o → IsNotLearnt (option_map settled o)
not_learnt_settled None not = tt
not_learnt_settled (Some h) not = not

up_at_start : (mask : ℕ) (o : Option Held) → IsNotLearnt o → IfSome o (λ h. h.metric < 16 → (port : ℕ) → h.via ≡ Some port → IsUp mask port)
up_at_start mask None not = tt
up_at_start mask (Some h) not = λ small port via. absurd (not port via)

pub always_up : (c : Puts) (from : ComeFromMessages) (there : GoByPorts) (number : ℕ) (costs : List ℕ) (prefixes : List Prefix) (ports : ℕ) (inputs : List Input)
    → AreSettings number costs prefixes → AllByRecursion HasBytes inputs → AreByUpPorts (node_run (opening_node number costs prefixes ports) inputs)
always_up c from there number costs prefixes ports inputs are all =
    run_up from there (opening_node number costs prefixes ports) inputs all (opening_reached number costs prefixes are)
    (λ n. up_at_start ports (held_at (opening number costs prefixes).routes n)
    (settle_at IsNotLearnt not_learnt_settled (fold (λ r p. with_own r p.0 p.1 (min 16 p.2) 0) [] prefixes) n (not_learnt c n prefixes [] tt)))
