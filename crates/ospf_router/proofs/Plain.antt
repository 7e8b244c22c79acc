-- What a sound state tells of its LSAs and lists.
use Rattle.std.proofs.Common.{◌≡◌, ◌+◌, ◌^◌, ◌≤◌, ◌<◌, ℕ, Bool, true, false, cond, List, [], ◌∷◌, length, sym, subst, arith}
use Rattle.std.specs.Prelude.{All, IfSome, Option, Some, None, option_map}
use Rattle.std.specs.List.{AllByRecursion}
use Rattle.std.specs.Map.{keys_of}
use Rattle.std.specs.BTreeMap.{is_at}
use Rattle.std.proofs.lemmas.Map.Entries.{length-keys_of}
use Rattle.ospf_wire.specs.declared.lsa.Lsa.{Lsa}
use Rattle.ospf_wire.specs.declared.packet.Body.{Body}
use Rattle.ospf_wire.specs.declared.packet.Body.TheVariants as body
use Rattle.ospf_wire.specs.declared.packet.Packet.{Packet}
use Rattle.ospf_wire.specs.Packets.{IsEncodable}
use Rattle.ospf_wire.specs.Reading.{packet_at}
use Rattle.ospf_wire.proofs.GrammarLaws.{is_encodable}
use Rattle.ospf_lsdb.specs.declared.key.LsaKey.{LsaKey}
use Rattle.ospf_lsdb.specs.declared.kept.Kept.{Kept}
use Rattle.ospf_lsdb.specs.Keys.{key_cmp, own_key}
use Rattle.ospf_lsdb.specs.Kept.{age_of}
use Rattle.ospf_lsdb.specs.Database.{Database, kept_at}
use Rattle.ospf_flood.specs.Retransmission.{OnPort}
use Rattle.ospf_lsdb.proofs.DatabaseLaws.{key_cmp_total}
use Rattle.ospf_router.specs.State.{OspfState}
use Rattle.ospf_router.specs.Sound.{IsSoundEntry, IsSoundList, IsSoundState}
use Rattle.ospf_router.specs.BuildUpdates.{copy_of, is_sendable, of_age, sent_age}
use Rattle.ospf_router.proofs.Rising.{all_more, no_more}
use Rattle.ospf_router.proofs.Database.{most-le}
use Rattle.ospf_router.proofs.Steps.{byte_at, sendable_body}

-- ---- an LSA of the database can be sent

sendable_by : (b : Bool) (k : Kept) (o : Option Kept) → is_sendable k.lsa ≡ true → IfSome o (λ j. is_sendable j.lsa ≡ true) → IfSome (cond b (Some k) o) (λ j. is_sendable j.lsa ≡ true)
sendable_by true k o here more = here
sendable_by false k o here more = more

found_sendable : (now : ℕ) (db : Database) (key : LsaKey) → AllByRecursion (IsSoundEntry now) db → IfSome (kept_at db key) (λ k. is_sendable k.lsa ≡ true)
found_sendable now [] key all = tt
found_sendable now (e ∷ db) key all = sendable_by (is_at (key_cmp key) e.0) e.1 (kept_at db key) all.0.sendable (found_sendable now db key all.1)

of_found : (now : ℕ) (o : Option Kept) → IfSome o (λ k. is_sendable k.lsa ≡ true) → IfSome (option_map (λ k. of_age (sent_age (age_of now k)) k.lsa) o) (λ l. is_sendable l ≡ true)
of_found now None h = tt
of_found now (Some k) h = h

pub sendable_copy : (s : OspfState) (now : ℕ) (key : LsaKey) → IsSoundState s → IfSome (copy_of now s.db key) (λ l. is_sendable l ≡ true)
unfolding copy_of
sendable_copy s now key sound = of_found now (kept_at s.db key) (found_sendable s.tick s.db key sound.database.each)

-- ---- an LSA that comes can be sent

sendable_of : (p : Packet) (ls : List Lsa) → p.body ≡ body.Update ls → IsEncodable p → AllByRecursion (λ l. is_sendable l ≡ true) ls
sendable_of p ls is fits =
    sendable_body p.router p.area ls (subst (λ (b : Body). IsEncodable (record { router = p.router; area = p.area; body = b })) is fits)

pub sendable_lsas : (bytes : List ℕ) (p : Packet) (ls : List Lsa) → All (λ b. b < 2 ^ 8) bytes → packet_at bytes ≡ Some p → p.body ≡ body.Update ls → AllByRecursion (λ l. is_sendable l ≡ true) ls
sendable_lsas bytes p ls all found is = sendable_of p ls is (is_encodable bytes (byte_at bytes all) (Some p) (sym found))

-- ---- how many there are

pub few_lsas : (s : OspfState) → IsSoundState s → length s.db ≤ 65535
few_lsas s sound = omega (arith, sound.database.few, most-le (kept_at s.db (own_key (s.number + 1))))

pub short_lists : (s : OspfState) → IsSoundState s → AllByRecursion (λ (l : OnPort). length l ≤ 65535) s.interfaces.lists
short_lists s sound =
    all_more (IsSoundList s.tick s.db) (λ l. length l ≤ 65535)
    (λ l h. omega (arith, no_more key_cmp_total (keys_of l) s.db h.rising h.kept, length-keys_of l, few_lsas s sound)) s.interfaces.lists sound.listed
