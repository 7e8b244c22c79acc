-- The name of an LSA (RFC 2328 section 12.1), and its order.
use Rattle.std.specs.Prelude.{ℕ}
use Rattle.std.specs.declared.cmp.Ordering.{Ordering}
use Rattle.std.specs.Ordering.{nat_cmp, ordering_then}
use Rattle.ospf_wire.specs.declared.lsa.LsaHeader.{LsaHeader}
use Rattle.ospf_wire.specs.Constants.{RouterLsaType}
use Rattle.ospf_lsdb.specs.declared.key.LsaKey.{LsaKey}

-- by type, id and advertising router
abbrev pub key_cmp : LsaKey → LsaKey → Ordering
key_cmp a b = ordering_then (nat_cmp a.kind b.kind) (ordering_then (nat_cmp a.id b.id) (nat_cmp a.router b.router))

-- the name that a header gives
abbrev pub key_of : LsaHeader → LsaKey
key_of h = record { kind = h.kind; id = h.id; router = h.router }

-- the name of a router's own LSA: a router-LSA whose id is the router's
abbrev pub own_key : ℕ → LsaKey
own_key router = record { kind = RouterLsaType; id = router; router = router }
