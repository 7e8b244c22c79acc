-- What a router sends (RFC 2328 section 13.3): the router after it, with what it has put out.
use Rattle.std.specs.Prelude.{ℕ, List, [], ◌∷◌, ◌++◌, fold}
use Rattle.dn_guest.specs.declared.outbox.Output.{Output}
use Rattle.ospf_wire.specs.declared.packet.Body.{Body}
use Rattle.ospf_lsdb.specs.declared.key.LsaKey.{LsaKey}
use Rattle.ospf_lsdb.specs.Kept.{sent_at}
use Rattle.ospf_lsdb.specs.Database.{changed}
use Rattle.ospf_flood.specs.Flooding.{State, flooded, state}
use Rattle.ospf_router.specs.declared.router.Router.{Router}
use Rattle.ospf_router.specs.Interfaces.{listed}
use Rattle.ospf_router.specs.BuildUpdates.{copy_of, packet_of, update_on, updates_on}

-- these outputs behind those before
abbrev pub putting : List Output → Router → Router
putting outputs r = record r { out = r.out ++ outputs }

-- a packet with this body on a port
unfoldable pub send_packet : ℕ → Body → Router → Router
send_packet port b r = putting (record { port = port; body = packet_of r.number b } ∷ []) r

-- another database and other lists
abbrev pub with_state : State → Router → Router
with_state s r = record r { db = s.db; interfaces = record r.interfaces { lists = s.lists } }

-- An LSA of the database is flooded on the ports of a mask: it stands on their lists, it is noted as sent now, and an
-- Update with it alone goes out on each of them.
unfoldable pub flood_lsa : ℕ → LsaKey → Router → Router
flood_lsa mask key r =
    putting (update_on mask r.number (copy_of r.tick r.db key)) (with_state (flooded mask key r.tick (state r.db r.interfaces.lists)) r)

abbrev pub flood_next_lsa : ℕ → Router → LsaKey → Router
flood_next_lsa mask r key = flood_lsa mask key r

-- an LSA stands on a port's list and is noted as sent, both now
unfoldable pub list_as_sent : ℕ → Router → LsaKey → Router
list_as_sent port r key = record r { interfaces = listed port key r.tick r.interfaces; db = changed key (sent_at r.tick) r.db }

-- LSAs are sent on a port: they stand on its list, are noted as sent, and go out packed into Updates.
unfoldable pub send_lsas : ℕ → List LsaKey → Router → Router
send_lsas port keys r =
    fold (list_as_sent port) (putting (updates_on port r.number r.tick r.db keys) r) keys
