-- The router's own LSA and its origination (RFC 2328 section 12.4).
use Rattle.std.specs.Prelude.{◌≡◌, ◌≤◌, ◌<◌, ◌+◌, ℕ, false, List, IfSome, Option, Some}
use Rattle.ospf_wire.specs.Constants.{LSRefreshTime, MaxSequenceNumber, MinLSInterval}
use Rattle.ospf_lsdb.specs.declared.kept.Kept.{Kept}
use Rattle.ospf_lsdb.specs.Keys.{own_key}
use Rattle.ospf_lsdb.specs.Kept.{age_of}
use Rattle.ospf_lsdb.specs.Database.{kept_at}
use Rattle.ospf_router.specs.Origination.{wanted_body}
use Rattle.ospf_router.specs.State.{OspfState, router_of}

-- the LSA is there, is the router's own instance, isn't due for its refresh, and has this body
pub record IsCurrent (now : ℕ) (wanted : List ℕ) (own : Option Kept) : Type 0 where
  pub copy : Kept
  pub there : own ≡ Some copy
  pub own_instance : copy.foreign ≡ false
  pub young : age_of now copy < LSRefreshTime
  pub body : copy.lsa.body ≡ wanted

-- the own LSA of this state is current, `ports` being the mask of the up ports
abbrev pub HasCurrentLsa : ℕ → OspfState → Type 0
HasCurrentLsa ports s = IsCurrent s.tick (wanted_body ports (router_of s)) (kept_at s.db (own_key (s.number + 1)))

-- there was an origination, less than MinLSInterval ago
pub record IsRecent (now : ℕ) (originated : Option ℕ) : Type 0 where
  pub tick : ℕ
  pub last : originated ≡ Some tick
  pub recent : now < tick + MinLSInterval

-- the own LSA has the last sequence number
pub record IsAtLastSequence (own : Option Kept) : Type 0 where
  pub copy : Kept
  pub there : own ≡ Some copy
  pub last : copy.lsa.head.seq ≡ MaxSequenceNumber

-- there is an origination now, and the one before it was MinLSInterval or more ticks ago
pub record IsSpaced (now : ℕ) (before after : Option ℕ) : Type 0 where
  pub now_is : after ≡ Some now
  pub apart : IfSome before (λ tick. tick + MinLSInterval ≤ now)
