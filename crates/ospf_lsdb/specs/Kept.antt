-- An LSA in the database, and its age (RFC 2328 sections 12.1.1 and 14).
use Rattle.std.specs.Prelude.{◌+◌, ◌-◌, ◌==◌, ℕ, Bool, ◌&&◌, min, nat_lt, Some, None}
use Rattle.ospf_wire.specs.declared.lsa.Lsa.{Lsa}
use Rattle.ospf_wire.specs.declared.lsa.LsaHeader.{LsaHeader}
use Rattle.ospf_wire.specs.Constants.{MaxAge}
use Rattle.ospf_lsdb.specs.declared.kept.Kept.{Kept}

-- an instance as it is installed, not sent yet
abbrev pub fresh : Lsa → ℕ → Bool → Bool → Kept
fresh lsa now flooded foreign = record { lsa = lsa; installed = now; flooded = flooded; sent = None; foreign = foreign }

-- the age now: the age at installation and the ticks since then, at most MaxAge
abbrev pub age_of : ℕ → Kept → ℕ
age_of now k = min MaxAge (k.lsa.head.age + (now - k.installed))

-- the header with the age now
abbrev pub header_now : ℕ → Kept → LsaHeader
header_now now k = record k.lsa.head { age = age_of now k }

-- its age was below MaxAge and is MaxAge now
abbrev pub reaches_max_age : ℕ → Kept → Bool
reaches_max_age now k = nat_lt k.lsa.head.age MaxAge && age_of now k == MaxAge

-- it has the age MaxAge from now on, and all else stays
abbrev pub with_max_age : ℕ → Kept → Kept
with_max_age now k = record k { lsa = record k.lsa { head = record k.lsa.head { age = MaxAge } }; installed = now }

-- it was sent now
abbrev pub sent_at : ℕ → Kept → Kept
sent_at now k = record k { sent = Some now }
