-- Link State Updates as they are sent (RFC 2328 section 13.3 and appendix A.3.5).
use Rattle.std.specs.Prelude.{◌+◌, ◌==◌, ℕ, Bool, true, not, ◌&&◌, min, nat_le, if◌then◌else◌, List, [], ◌∷◌, ◌++◌, length, map, filter, sum_by, Option, Some, None, option_map}
use Rattle.std.specs.List.{filter_map, range_with_len}
use Rattle.dn_guest.specs.declared.outbox.Output.{Output}
use Rattle.dn_guest.specs.Ports.{is_up}
use Rattle.ospf_wire.specs.declared.lsa.Lsa.{Lsa}
use Rattle.ospf_wire.specs.declared.packet.Body.{Body}
use Rattle.ospf_wire.specs.declared.packet.Body.TheVariants as body
use Rattle.ospf_wire.specs.Packets.{packet_bytes}
use Rattle.ospf_wire.specs.Constants.{Backbone, InfTransDelay, MaxAge}
use Rattle.ospf_lsdb.specs.declared.key.LsaKey.{LsaKey}
use Rattle.ospf_lsdb.specs.Kept.{age_of}
use Rattle.ospf_lsdb.specs.Database.{Database, kept_at}

-- the bytes of a packet of this router, in area 0
unfoldable pub packet_of : ℕ → Body → List ℕ
packet_of number b = packet_bytes (record { router = number + 1; area = Backbone; body = b })

-- an LSA of this age
abbrev pub of_age : ℕ → Lsa → Lsa
of_age age l = record l { head = record l.head { age = age } }

-- An LSA in an Update has its age and InfTransDelay for the way, MaxAge at most (section 13.3).
abbrev pub sent_age : ℕ → ℕ
sent_age age = min MaxAge (age + InfTransDelay)

-- Its length is that of its bytes and leaves room for the packet around it. Every LSA that came in a packet or was
-- originated is such; one that isn't is never sent.
abbrev pub is_sendable : Lsa → Bool
is_sendable l = nat_le (length l.body) 65487 && l.head.length == 20 + length l.body

-- the copy in the database as it is sent at this tick
unfoldable pub copy_of : ℕ → Database → LsaKey → Option Lsa
copy_of now db key = option_map (λ k. of_age (sent_age (age_of now k)) k.lsa) (kept_at db key)

-- these bytes on each port of a mask, in ascending order
abbrev pub copies : ℕ → List ℕ → List Output
copies mask bytes =
    filter (λ output. is_up mask output.port) (map (λ port. record { port = port; body = bytes }) (range_with_len 0 16))

-- an Update with this LSA alone on each port of a mask
unfoldable pub update_on : ℕ → ℕ → Option Lsa → List Output
update_on mask number None = []
update_on mask number (Some l) =
    if not (mask == 0) && is_sendable l then copies mask (packet_of number (body.Update (l ∷ []))) else []

-- ---- several LSAs on one port

-- how many bytes an Update with these LSAs has
abbrev pub update_len : List Lsa → ℕ
update_len ls = 28 + sum_by (λ l. 20 + length l.body) ls

-- the LSA may join those of a packet: it is the first, or the packet has at most 1,400 bytes with it
abbrev pub joins : List Lsa → Lsa → Bool
joins [] l = true
joins (x ∷ xs) l = nat_le (update_len (x ∷ xs) + (20 + length l.body)) 1400

-- the packets that hold these LSAs in their order, the first of which begins with those of `pack`
abbrev pub packs : List Lsa → List Lsa → List (List Lsa)
packs [] [] = []
packs (x ∷ pack) [] = (x ∷ pack) ∷ []
packs pack (l ∷ ls) =
    if is_sendable l then (if joins pack l then packs (pack ++ l ∷ []) ls else pack ∷ packs (l ∷ []) ls)
    else packs pack ls

-- one Update on a port
abbrev pub one_update : ℕ → ℕ → List Lsa → Output
one_update port number ls = record { port = port; body = packet_of number (body.Update ls) }

-- the copies of these LSAs, as many in each Update as go into 1,400 bytes
unfoldable pub updates_on : ℕ → ℕ → ℕ → Database → List LsaKey → List Output
updates_on port number now db keys = map (one_update port number) (packs [] (filter_map (copy_of now db) keys))
