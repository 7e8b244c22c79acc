-- The constants of OSPF by their names in RFC 2328 (appendices B and C.3, sections 12.1.6, A.2 and A.4). Times and ages
-- are in seconds, and a tick is one second. MinLSArrival of 1 second is "in this tick", and has no number here.
use Rattle.std.specs.Prelude.{ℕ}

-- ---- architectural constants (appendix B)

-- the age at which an LSA is no longer used
abbrev pub MaxAge : ℕ
MaxAge = 3600

-- ages that differ by more than this are of two instances (section 13.1)
abbrev pub MaxAgeDiff : ℕ
MaxAgeDiff = 900

-- the age at which the own LSA is originated anew
abbrev pub LSRefreshTime : ℕ
LSRefreshTime = 1800

-- the least time between two originations of one LSA
abbrev pub MinLSInterval : ℕ
MinLSInterval = 5

-- the first sequence number of an LSA, which is the least of signed numbers but one (section 12.1.6)
abbrev pub InitialSequenceNumber : ℕ
InitialSequenceNumber = 0x80000001

-- the greatest sequence number
abbrev pub MaxSequenceNumber : ℕ
MaxSequenceNumber = 0x7fffffff

-- ---- parameters that RFC 2328 leaves to the configuration (appendix C.3), with its sample values

-- the time between two Hellos
abbrev pub HelloInterval : ℕ
HelloInterval = 10

-- the time after which a silent neighbour is Down
abbrev pub RouterDeadInterval : ℕ
RouterDeadInterval = 40

-- the time after which an LSA that wasn't acknowledged is sent again
abbrev pub RxmtInterval : ℕ
RxmtInterval = 5

-- what an LSA's age grows by on its way over a link
abbrev pub InfTransDelay : ℕ
InfTransDelay = 1

-- ---- numbers in packets

-- the place of the E bit in the options (appendix A.2)
abbrev pub EBit : ℕ
EBit = 1

-- this profile: the options in what a router sends, the E bit alone
abbrev pub OwnOptions : ℕ
OwnOptions = 2

-- the LS type of a router-LSA (appendix A.4.1)
abbrev pub RouterLsaType : ℕ
RouterLsaType = 1

-- the types of a router-LSA's links to a neighbour and to a stub network (appendix A.4.2)
abbrev pub PointToPoint : ℕ
PointToPoint = 1

abbrev pub StubNetwork : ℕ
StubNetwork = 3

-- this profile: the only area, the backbone
abbrev pub Backbone : ℕ
Backbone = 0
