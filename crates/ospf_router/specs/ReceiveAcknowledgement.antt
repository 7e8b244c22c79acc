-- A Link State Acknowledgement that comes (RFC 2328 section 13.7).
use Rattle.std.specs.Prelude.{ℕ, Bool, false, if◌then◌else◌, List, fold, Option, Some, None}
use Rattle.std.specs.Ordering.{is_eq}
use Rattle.ospf_wire.specs.declared.lsa.LsaHeader.{LsaHeader}
use Rattle.ospf_wire.specs.Newer.{newer_of}
use Rattle.ospf_lsdb.specs.declared.kept.Kept.{Kept}
use Rattle.ospf_lsdb.specs.Kept.{header_now}
use Rattle.ospf_lsdb.specs.Keys.{key_of}
use Rattle.ospf_lsdb.specs.Database.{kept_at}
use Rattle.ospf_router.specs.declared.router.Router.{Router}
use Rattle.ospf_router.specs.Interfaces.{unlisted}

-- the copy in the database is of the instance that is acknowledged
abbrev pub is_copy : ℕ → LsaHeader → Option Kept → Bool
is_copy now h None = false
is_copy now h (Some k) = is_eq (newer_of h (header_now now k))

-- one header
unfoldable pub receive_header : ℕ → Router → LsaHeader → Router
receive_header port r h =
    if is_copy r.tick h (kept_at r.db (key_of h)) then record r { interfaces = unlisted port (key_of h) r.interfaces }
    else r

-- the router after an Acknowledgement on a port
unfoldable pub receive_acknowledgement : ℕ → List LsaHeader → Router → Router
receive_acknowledgement port hs r = fold (receive_header port) r hs
