-- The state of an OSPF router.
use Rattle.std.specs.Prelude.{ℕ, ◌+◌, List, [], fold, Option, None}
use Rattle.ospf_lsdb.specs.Database.{Database}
use Rattle.ospf_router.specs.declared.router.Router.{Router}
use Rattle.ospf_router.specs.Interfaces.{AtPorts, opening_ports}
use Rattle.ospf_router.specs.Prefixes.{Networks, with_network}

pub record OspfState : Type 0 where
  -- the router's number
  pub number : ℕ
  -- the last tick, 0 before the first
  pub tick : ℕ
  -- the tick of the last origination
  pub originated : Option ℕ
  -- the router's own networks with their costs
  pub prefixes : Networks
  -- costs, neighbours and retransmission lists, port by port
  pub interfaces : AtPorts
  pub db : Database

-- a router at the begin of a step, which has put out nothing yet
abbrev pub router_of : OspfState → Router
router_of s = record {
  number = s.number;
  tick = s.tick;
  originated = s.originated;
  prefixes = s.prefixes;
  interfaces = s.interfaces;
  db = s.db;
  out = [];
}

-- the state of a router
abbrev pub state_of : Router → OspfState
state_of r = record {
  number = r.number;
  tick = r.tick;
  originated = r.originated;
  prefixes = r.prefixes;
  interfaces = r.interfaces;
  db = r.db;
}

-- the router id
abbrev pub id_of : Router → ℕ
id_of r = r.number + 1

-- a prefix of the settings: address, length and cost
abbrev pub Prefix : Type 0
Prefix = ℕ × ℕ × ℕ

-- the networks with one of them
abbrev pub with_prefix : Networks → Prefix → Networks
with_prefix ns p = with_network p.0 p.1 p.2 ns

-- the own networks with which a router begins
abbrev pub opening_prefixes : List Prefix → Networks
opening_prefixes prefixes = fold with_prefix [] prefixes

-- the state at the start: every neighbour is Down, and there is no LSA
abbrev pub opening : ℕ → List ℕ → List Prefix → OspfState
opening number costs prefixes = record {
  number = number;
  tick = 0;
  originated = None;
  prefixes = opening_prefixes prefixes;
  interfaces = opening_ports costs;
  db = [];
}
