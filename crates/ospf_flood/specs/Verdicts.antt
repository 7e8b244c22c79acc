-- The table by which an LSA is judged that comes in a Link State Update (RFC 2328 section 13).
use Rattle.std.specs.Prelude.{◌%◌, ◌==◌, ◌&&◌, ◌||◌, ℕ, Bool, false, not, nat_eq, nat_le, min, if◌then◌else◌, length, sum, Option, Some, None, is_some}
use Rattle.std.specs.Option.{is_none, option_eq}
use Rattle.std.specs.declared.cmp.Ordering.{Ordering}
use Rattle.std.specs.declared.cmp.Ordering.TheVariants.{Less, Equal, Greater}
use Rattle.std.specs.Ordering.{is_eq, is_gt}
use Rattle.ospf_wire.specs.declared.lsa.Lsa.{Lsa}
use Rattle.ospf_wire.specs.declared.lsa.LsaHeader.{LsaHeader}
use Rattle.ospf_wire.specs.Constants.{MaxAge, MaxSequenceNumber, RouterLsaType}
use Rattle.ospf_wire.specs.Fletcher.{checked_bytes, weighted}
use Rattle.ospf_wire.specs.Newer.{newer_of}
use Rattle.ospf_lsdb.specs.declared.kept.Kept.{Kept}
use Rattle.ospf_lsdb.specs.Keys.{key_of}
use Rattle.ospf_lsdb.specs.Kept.{age_of, header_now}
use Rattle.ospf_lsdb.specs.Database.{Database, kept_at}
use Rattle.ospf_flood.specs.declared.verdict.Verdict.{Verdict}
use Rattle.ospf_flood.specs.declared.verdict.Verdict.TheVariants.{Discarded, Acked, Installed, SentBack, Implied}
use Rattle.ospf_flood.specs.Retransmission.{OnPort, last_sent}
use Rattle.ospf_wire.specs.Reading.{is_well_formed}

-- this profile: an age above MaxAge is taken as MaxAge
abbrev pub with_capped_age : LsaHeader → LsaHeader
with_capped_age h = record h { age = min MaxAge h.age }

-- the LS checksum is right (section 12.1.7)
abbrev pub has_right_sum : Lsa → Bool
has_right_sum l = sum (checked_bytes l.head l.body) % 255 == 0 && weighted (checked_bytes l.head l.body) % 255 == 0

-- a router-LSA whose links fill it (appendix A.4.2)
abbrev pub is_router_lsa : Lsa → Bool
is_router_lsa l = l.head.kind == RouterLsaType && is_well_formed l.body

-- the copy was installed by flooding in this tick, so less than MinLSArrival ago (section 13, step (5)(a))
abbrev pub arrived_this_tick : ℕ → Kept → Bool
arrived_this_tick now k = k.flooded && k.installed == now

-- the copy was sent in this tick, so less than MinLSArrival ago (section 13, step (8))
abbrev pub sent_this_tick : ℕ → Kept → Bool
sent_this_tick now k = option_eq nat_eq k.sent (Some now)

-- the copy has MaxAge and MaxSequenceNumber: the sequence number is wrapping (section 13, step (8))
abbrev pub is_wrapping : ℕ → Kept → Bool
is_wrapping now k = age_of now k == MaxAge && k.lsa.head.seq == MaxSequenceNumber

-- the LSA is newer than the copy, or of the same instance (section 13.1)
abbrev pub is_newer : ℕ → Lsa → Kept → Bool
is_newer now l k = is_gt (newer_of (with_capped_age l.head) (header_now now k))

abbrev pub is_same : ℕ → Lsa → Kept → Bool
is_same now l k = is_eq (newer_of (with_capped_age l.head) (header_now now k))

-- there is a copy, and this holds of it
abbrev pub copy_is : (Kept → Bool) → Option Kept → Bool
copy_is test None = false
copy_is test (Some k) = test k

-- The table (section 13), if the database has so many LSAs, and `listed` says whether the LSA is on the list of the
-- port on which it comes. The first line that holds decides: step (1), (2) and (3), (4), (5)(a), (5), (7)(a), (7)(b),
-- (8) if the sequence number wraps, (8) within MinLSArrival, (8).
abbrev pub receive_table : Lsa → ℕ → Option Kept → ℕ → Bool → Verdict
receive_table l now copy count listed =
    if not (has_right_sum l) then Discarded
    else if not (is_router_lsa l) || is_none copy && nat_le 65534 count then Discarded
    else if is_none copy && (with_capped_age l.head).age == MaxAge then Acked
    else if copy_is (λ k. is_newer now l k && arrived_this_tick now k) copy then Discarded
    else if is_none copy || copy_is (is_newer now l) copy then Installed
    else if copy_is (is_same now l) copy && listed then Implied
    else if copy_is (is_same now l) copy then Acked
    else if copy_is (is_wrapping now) copy then Discarded
    else if copy_is (sent_this_tick now) copy then Discarded
    else SentBack

-- its lines where there is a copy, by how the LSA compares with it
abbrev pub verdict_by_copy : Ordering → ℕ → Kept → Bool → Verdict
verdict_by_copy Greater now k listed = if arrived_this_tick now k then Discarded else Installed
verdict_by_copy Equal now k listed = if listed then Implied else Acked
verdict_by_copy Less now k listed = if is_wrapping now k || sent_this_tick now k then Discarded else SentBack

-- its lines for a router-LSA with a right checksum
abbrev pub verdict_on_router_lsa : LsaHeader → ℕ → Option Kept → ℕ → Bool → Verdict
verdict_on_router_lsa h now None count listed =
    if nat_le 65534 count then Discarded else if (with_capped_age h).age == MaxAge then Acked else Installed
verdict_on_router_lsa h now (Some k) count listed =
    verdict_by_copy (newer_of (with_capped_age h) (header_now now k)) now k listed

-- the verdict on an LSA that comes on the port with this list
abbrev pub verdict_of : Database → OnPort → Lsa → ℕ → Verdict
verdict_of db list l now =
    receive_table l now (kept_at db (key_of l.head)) (length db) (is_some (last_sent list (key_of l.head)))
