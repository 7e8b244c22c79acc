-- What is left of LSAs that have reached MaxAge (RFC 2328 section 14).
use Rattle.std.specs.Prelude.{◌≡◌, Some, true}
use Rattle.ospf_wire.specs.Constants.{MaxAge}
use Rattle.ospf_lsdb.specs.declared.key.LsaKey.{LsaKey}
use Rattle.ospf_lsdb.specs.declared.kept.Kept.{Kept}
use Rattle.ospf_lsdb.specs.Kept.{age_of}
use Rattle.ospf_lsdb.specs.Database.{kept_at}
use Rattle.ospf_router.specs.Interfaces.{is_listed}
use Rattle.ospf_router.specs.State.{OspfState}

-- each LSA whose age is MaxAge stands on a retransmission list
abbrev pub HasOnlyListedOfMaxAge : OspfState → Type 0
HasOnlyListedOfMaxAge s =
    (key : LsaKey) (k : Kept) → kept_at s.db key ≡ Some k → age_of s.tick k ≡ MaxAge → is_listed key s.interfaces ≡ true
