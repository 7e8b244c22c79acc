-- In a node a neighbour is Full only on a port that is up.
use Rattle.std.proofs.Common.{◌≡◌, ◌≢◌, inl, inr, ℕ, zero, suc, Bool, true, false, ◌&&◌, ◌==◌, ◌*◌, ◌%◌, ◌^◌, ◌≤◌, ◌<◌, List, [], ◌∷◌, length, map, refl, sym, ap, ◌∙◌, arith}
use Rattle.std.specs.Prelude.{bit_and, bit_or, nat_lt}
use Rattle.std.specs.Int.{w16, bit_at, bit_not}
use Rattle.std.proofs.lemmas.Bool.Decides.{Decides-eqb, nat_tests}
use Rattle.std.proofs.lemmas.Nat.Bits.{bit_at-lt, bit_at_clear_other, bit_at_or}
use Rattle.dn_guest.specs.declared.input.Input.{Input}
use Rattle.dn_guest.specs.declared.input.Input.TheVariants as input
use Rattle.dn_guest.specs.declared.node.Node.{Node}
use Rattle.dn_guest.specs.Node.{is_taken, node_after, ports_after}
use Rattle.dn_guest.specs.Ports.{is_up, with_down}
use Rattle.ospf_lsdb.specs.Keys.{own_key}
use Rattle.ospf_lsdb.specs.Database.{kept_at}
use Rattle.ospf_guest.specs.Ospf.{ospf}
use Rattle.ospf_router.specs.declared.neighbour.Neighbour.TheVariants.{Down}
use Rattle.ospf_router.specs.declared.interfaces.Port.{Port}
use Rattle.ospf_router.specs.declared.router.Router.{Router}
use Rattle.ospf_router.specs.Flooding.{flood_lsa}
use Rattle.ospf_router.specs.Interfaces.{emptied, full_mask, has_port, neighbour_down, opening_port, port_at, with_neighbour}
use Rattle.ospf_router.specs.Origination.{finish_step, has_next_sequence_number, is_outdated, may_originate, originate_if_needed, originate_own_lsa, remove_max_age_lsas, wanted_body}
use Rattle.ospf_router.specs.State.{OspfState, Prefix, id_of, router_of}
use Rattle.ospf_router.specs.Step.{handled, is_passed_over, next, ospf_after, port_down, stepped}
use Rattle.ospf_laws.specs.UpPorts.{AreOfUpPorts, node_run, opening_node}
use Rattle.ospf_laws.proofs.Choice.{and_true, choose}
use Rattle.ospf_laws.proofs.FullRouters.{OnlyAt, none_at_start, only-step}
use Rattle.ospf_laws.proofs.Masks.{FullAt, first_or, lt_by, small_power}
use Rattle.ospf_laws.proofs.UpPorts.{Within, WithinAt, in-receive_message, in-ticked, past, was_full}

-- ---- the mask

abbrev IsUp : ℕ → ℕ → Type 0
IsUp mask port = is_up mask port ≡ true

up_by : (mask port : ℕ) → port < 16 → bit_at mask port ≡ 1 → IsUp mask port
up_by mask port few bit =
    let small : nat_lt port 16 ≡ true = grind (arith, nat_tests) in
    ap (λ (b : Bool). b && (bit_at mask port == 1)) small ∙ (Decides-eqb (bit_at mask port) 1).1 bit

few_by : (mask port : ℕ) → IsUp mask port → port < 16
few_by mask port up = lt_by port (and_true (nat_lt port 16) (bit_at mask port == 1) up).0

bit_by : (mask port : ℕ) → IsUp mask port → bit_at mask port ≡ 1
bit_by mask port up = (Decides-eqb (bit_at mask port) 1).0 (and_true (nat_lt port 16) (bit_at mask port == 1) up).1

up_cleared : (mask port other : ℕ) → port < 16 → IsUp mask other → other ≢ port → IsUp (bit_and mask (bit_not w16 (2 ^ port))) other
up_cleared mask port other few up differ =
    let stays : bit_at (bit_and mask (bit_not w16 (1 * 2 ^ port % 65536))) other ≡ bit_at mask other = bit_at_clear_other w16 mask port few other (few_by mask other up) differ in
    let same : bit_at (bit_and mask (bit_not w16 (2 ^ port))) other ≡ bit_at mask other =
    ap (λ (k : ℕ). bit_at (bit_and mask (bit_not w16 k)) other) (sym (small_power port few)) ∙ stays in
    up_by (bit_and mask (bit_not w16 (2 ^ port))) other (few_by mask other up) (same ∙ bit_by mask other up)

up_beside : (mask port other : ℕ) → other ≢ port → IsUp mask other → IsUp (with_down mask port) other
up_beside mask port other differ up =
    choose (λ (m : ℕ). IsUp m other) (nat_lt port 16) (bit_and mask (bit_not w16 (2 ^ port))) mask (λ t. up_cleared mask port other (lt_by port t) up differ) (λ _. up)

up_set : (mask port other : ℕ) → IsUp mask other → IsUp (bit_or mask (2 ^ port)) other
up_set mask port other up =
    let bit : bit_at (bit_or mask (2 ^ port)) other ≡ 1 = omega (arith, bit_at_or mask (2 ^ port) other, bit_by mask other up, bit_at-lt (2 ^ port) other) in
    up_by (bit_or mask (2 ^ port)) other (few_by mask other up) bit

-- ---- a step

past_full : (xs : List Port) (p : ℕ) → length xs ≤ p → FullAt xs p → ⊥
past_full [] p far full = past p full
past_full (x ∷ xs) zero far full = omega (arith, far)
past_full (x ∷ xs) (suc p) far full = past_full xs p (omega (arith, far)) full

far_by : (p ports : ℕ) → nat_lt p ports ≡ false → ports ≤ p
far_by p ports t = grind (arith, nat_tests)

down-within : (mask port : ℕ) (r : Router) → Within (IsUp mask) r → Within (IsUp (with_down mask port)) (port_down port r)
unfolding port_down neighbour_down emptied with_neighbour
down-within mask port r h =
    choose (Within (IsUp (with_down mask port))) (has_port r.interfaces port) (record r { interfaces = neighbour_down port r.interfaces }) r
    (λ _ p full.
    let was = was_full r.interfaces.ports port (record (port_at r.interfaces port) { neighbour = Down }) p refl full in
    up_beside mask port p (λ e. was.0 (sym e)) (h p was.1))
    (λ t p full. elim (first_or port p) [
      | inl same ↦ absurd (past_full r.interfaces.ports p (omega (arith, far_by port (length r.interfaces.ports) t, same)) full)
      | inr differ ↦ up_beside mask port p (λ e. differ (sym e)) (h p full)
    ])

handled-within : (mask ports : ℕ) (i : Input) (r : Router) → is_taken mask i ≡ true → Within (IsUp mask) r → Within (IsUp (ports_after mask i)) (handled ports i r)
unfolding handled
handled-within mask ports (input.Tick group) r taken h = in-ticked (IsUp mask) ports group r h
handled-within mask ports (input.Cmd bytes) r taken h = h
handled-within mask ports (input.Down port) r taken h = down-within mask port r h
handled-within mask ports (input.Up port) r taken h =
    λ p full. choose (λ (m : ℕ). IsUp m p) (nat_lt port 16) (bit_or mask (2 ^ port)) mask (λ _. up_set mask port p (h p full)) (λ _. h p full)
handled-within mask ports (input.Msg port bytes) r taken h = in-receive_message (IsUp mask) ports port bytes r taken h

originate-within : (U : ℕ → Type 0) (full : ℕ) (wanted : List ℕ) (r : Router) → Within U r → Within U (originate_own_lsa full wanted r)
unfolding originate_own_lsa flood_lsa
originate-within U full wanted r h = h

finish-within : (U : ℕ → Type 0) (ports : ℕ) (r : Router) → Within U r → Within U (finish_step ports r)
unfolding finish_step originate_if_needed remove_max_age_lsas
finish-within U ports r h =
    let own = kept_at r.db (own_key (id_of r)) in
    let wanted = wanted_body ports r in
    choose (Within U) (may_originate r.tick r.originated && is_outdated r.tick wanted own && has_next_sequence_number own)
    (originate_own_lsa (full_mask ports r.interfaces) wanted r) r (λ _. originate-within U (full_mask ports r.interfaces) wanted r h) (λ _. h)

passed-within : (mask tick : ℕ) (i : Input) (r : Router) → is_passed_over tick i ≡ true → Within (IsUp mask) r → Within (IsUp (ports_after mask i)) r
passed-within mask tick (input.Tick group) r t h = h
passed-within mask tick (input.Cmd bytes) r t h = absurd cc
passed-within mask tick (input.Down port) r t h = absurd cc
passed-within mask tick (input.Up port) r t h = absurd cc
passed-within mask tick (input.Msg port bytes) r t h = absurd cc

step-within : (mask : ℕ) (s : OspfState) (ports : ℕ) (i : Input) → is_taken mask i ≡ true → WithinAt (IsUp mask) s.interfaces → WithinAt (IsUp (ports_after mask i)) (ospf_after s ports i).interfaces
unfolding ospf_after next stepped
step-within mask s ports i taken h =
    choose (Within (IsUp (ports_after mask i))) (is_passed_over s.tick i) (router_of s) (finish_step ports (handled ports i (router_of s)))
    (λ t. passed-within mask s.tick i (router_of s) t h)
    (λ _. finish-within (IsUp (ports_after mask i)) ports (handled ports i (router_of s)) (handled-within mask ports i (router_of s) taken h))

-- ---- a run

-- a Full neighbour is at each port with a list that isn't empty, and only on ports that are up
abbrev IsNode : Node OspfState → Type 0
IsNode node = OnlyAt node.guest.interfaces × WithinAt (IsUp node.ports) node.guest.interfaces

node-step : (node : Node OspfState) (i : Input) → IsNode node → IsNode (node_after ospf node i)
unfolding node_after
node-step node i is =
    choose IsNode (is_taken node.ports i) _ node
    (λ taken. (only-step node.guest (ports_after node.ports i) i is.0, step-within node.ports node.guest (ports_after node.ports i) i taken is.1)) (λ _. is)

node-run : (node : Node OspfState) (inputs : List Input) → IsNode node → IsNode (node_run node inputs)
node-run node [] is = is
node-run node (i ∷ inputs) is = node-run (node_after ospf node i) inputs (node-step node i is)

none_full : (costs : List ℕ) (p : ℕ) → FullAt (map opening_port costs) p → ⊥
none_full [] p full = past p full
none_full (cost ∷ costs) zero full = absurd cc
none_full (cost ∷ costs) (suc p) full = none_full costs p full

empty_by : (up full : Bool) → up ≡ true → full ≡ true → (up && full) ≡ false → ⊥
empty_by true full a b not = let both : true ≡ false = sym b ∙ not in absurd cc
empty_by false full a b not = absurd cc

of_up : (node : Node OspfState) → IsNode node → AreOfUpPorts node
of_up node is port not = elim (is.0 port) [
  | inl full ↦ absurd (empty_by (is_up node.ports port) _ (is.1 port full) full not)
  | inr none ↦ none
]

pub run_of_up : (number : ℕ) (costs : List ℕ) (prefixes : List Prefix) (ports : ℕ) (inputs : List Input) → AreOfUpPorts (node_run (opening_node number costs prefixes ports) inputs)
run_of_up number costs prefixes ports inputs =
    of_up (node_run (opening_node number costs prefixes ports) inputs)
    (node-run (opening_node number costs prefixes ports) inputs ((λ p. inr (none_at_start (length costs) p)), (λ p full. absurd (none_full costs p full))))
