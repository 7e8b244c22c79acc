-- The bytes that are written for a packet are that packet.
use Rattle.std.proofs.Common.{◌≡◌, ℕ, zero, suc, ◌+◌, ◌-◌, ◌*◌, ◌^◌, ◌<◌, ◌≤◌, List, [], ◌∷◌, ◌++◌, length, take, drop, refl, sym, ap, subst, ◌∙◌, append_assoc, arith}
use Rattle.std.specs.Prelude.{sum, sum_by, All}
use Rattle.std.specs.List.{AllByRecursion}
use Rattle.std.proofs.Math.Seq.{take-append-add}
use Rattle.std.proofs.lemmas.List.{length-append, take_at, drop_at, drop-drop}
use Rattle.std.proofs.lemmas.List.Sums.{sum_by-append}
use Rattle.std.proofs.lemmas.List.Elements.{recursion_from_All}
use Rattle.byteorder.specs.Numbers.{big_number-reads_back}
use Rattle.ospf_wire.specs.declared.lsa.Lsa.{Lsa}
use Rattle.ospf_wire.specs.declared.lsa.LsaHeader.{LsaHeader}
use Rattle.ospf_wire.specs.declared.hello.Hello.{Hello}
use Rattle.ospf_wire.specs.declared.packet.Body.{Body}
use Rattle.ospf_wire.specs.declared.packet.Body.TheVariants as body
use Rattle.ospf_wire.specs.declared.packet.Packet.{Packet}
use Rattle.ospf_wire.specs.Fields.{field, number}
use Rattle.ospf_wire.specs.Pieces.{ArePieces}
use Rattle.ospf_wire.specs.Lsas.{header_of, header_bytes, headers_bytes, lsa_bytes, lsas_bytes, update_bytes, IsAtFront, AreLsas, FitsHeader}
use Rattle.ospf_wire.specs.Hellos.{fixed_bytes, ids_bytes, hello_bytes, IsHello, FitsHello, FitsWord}
use Rattle.ospf_wire.specs.Sums.{carried, words, checksum, summed_bytes, packet_sum, packet_checksum}
use Rattle.ospf_wire.specs.Packets.{kind_of, IsBody, HasHeader, IsPacket, body_bytes, header_text, summed_header, packet_bytes, body_len, IsEncodable, HaveLengths, HasFewLsas, FitsBody}
use Rattle.ospf_wire.proofs.SumLaws.{sum-words-append, sum-summed}

-- ---- LSA headers

abbrev header_made : ℕ → ℕ → ℕ → ℕ → ℕ → ℕ → ℕ → ℕ → LsaHeader
header_made a o k i r s c l = record { age = a; options = o; kind = k; id = i; router = r; seq = s; sum = c; length = l }

same_header : (h : LsaHeader) (a o k i r s c l : ℕ) → a ≡ h.age → o ≡ h.options → k ≡ h.kind → i ≡ h.id → r ≡ h.router → s ≡ h.seq → c ≡ h.sum → l ≡ h.length → header_made a o k i r s c l ≡ h
same_header h a o k i r s c l ea eo ek ei er es ec el = rw (ea, eo, ek, ei, er, es, ec, el) refl

-- the header is read again from its bytes
header_again : (h : LsaHeader) (rest : List ℕ) → FitsHeader h → header_of (header_bytes h ++ rest) ≡ h
unfolding header_of header_bytes field number
header_again h rest fits =
    same_header h _ _ _ _ _ _ _ _
    (big_number-reads_back 2 h.age [] fits.age) (omega arith) (omega arith) (big_number-reads_back 4 h.id [] fits.id)
    (big_number-reads_back 4 h.router [] fits.router) (big_number-reads_back 4 h.seq [] fits.seq) (big_number-reads_back 2 h.sum [] fits.sum) (big_number-reads_back 2 h.length [] fits.length)

length-header_bytes : (h : LsaHeader) → length (header_bytes h) ≡ 20
unfolding header_bytes number
length-header_bytes h = refl

headers_are : (hs : List LsaHeader) → AllByRecursion FitsHeader hs → ArePieces 20 header_of (headers_bytes hs) hs
headers_are [] fit = refl
headers_are (h ∷ hs) fit = (
  omega (arith, length-header_bytes h, length-append (header_bytes h) (headers_bytes hs)),
  sym (header_again h (headers_bytes hs) fit.0),
  rw (drop_at (header_bytes h) (headers_bytes hs) 20 (length-header_bytes h)) (headers_are hs fit.1),
)

-- ---- LSAs

abbrev HasLength : Lsa → Type 0
HasLength l = l.head.length ≡ 20 + length l.body

length-lsa_bytes : (l : Lsa) → length (lsa_bytes l) ≡ 20 + length l.body
unfolding lsa_bytes
length-lsa_bytes l = omega (arith, length-append (header_bytes l.head) l.body, length-header_bytes l.head)

lsa_stands : (l : Lsa) (rest : List ℕ) → FitsHeader l.head → HasLength l → IsAtFront (lsa_bytes l ++ rest) l
unfolding lsa_bytes
lsa_stands l rest fits len =
    let regrouped : (header_bytes l.head ++ l.body) ++ rest ≡ header_bytes l.head ++ (l.body ++ rest) = append_assoc (header_bytes l.head) l.body rest in
    let behind : drop 20 (header_bytes l.head ++ (l.body ++ rest)) ≡ l.body ++ rest = drop_at (header_bytes l.head) (l.body ++ rest) 20 (length-header_bytes l.head) in
    let body : take (l.head.length - 20) (l.body ++ rest) ≡ l.body = take_at l.body rest (l.head.length - 20) (omega arith) in
    let stands : IsAtFront (header_bytes l.head ++ (l.body ++ rest)) l = record {
      head = sym (header_again l.head (l.body ++ rest) fits);
      least = omega arith;
      fits = omega (arith, length-append (header_bytes l.head) (l.body ++ rest), length-header_bytes l.head, length-append l.body rest);
      body = sym (ap (take (l.head.length - 20)) behind ∙ body);
    } in
    subst (λ (bytes : List ℕ). IsAtFront bytes l) (sym regrouped) stands

lsas_are : (ls : List Lsa) → AllByRecursion (λ l. FitsHeader l.head) ls → AllByRecursion HasLength ls → AreLsas (lsas_bytes ls) ls
lsas_are [] fit lens = refl
lsas_are (l ∷ ls) fit lens = (
  lsa_stands l (lsas_bytes ls) fit.0 lens.0,
  rw (drop_at (lsa_bytes l) (lsas_bytes ls) l.head.length (length-lsa_bytes l ∙ sym lens.0)) (lsas_are ls fit.1 lens.1),
)

-- as many bytes as the LSAs have, of which each has one at least
length-lsas_bytes : (ls : List Lsa) → (length (lsas_bytes ls) ≡ sum_by (λ l. 20 + length l.body) ls) × (length ls ≤ length (lsas_bytes ls))
length-lsas_bytes [] = (refl, omega arith)
length-lsas_bytes (l ∷ ls) =
    let rest = length-lsas_bytes ls in
    let both = length-append (lsa_bytes l) (lsas_bytes ls) in
    let first = length-lsa_bytes l in
    (omega (arith, rest.0, both, first, sum_by-append (λ x. 20 + length x.body) (l ∷ []) ls), omega (arith, rest.1, both, first))

length-headers_bytes : (hs : List LsaHeader) → length (headers_bytes hs) ≡ 20 * length hs
length-headers_bytes [] = omega arith
length-headers_bytes (h ∷ hs) = omega (arith, length-headers_bytes hs, length-append (header_bytes h) (headers_bytes hs), length-header_bytes h)

length-ids_bytes : (ids : List ℕ) → length (ids_bytes ids) ≡ 4 * length ids
unfolding number
length-ids_bytes [] = omega arith
length-ids_bytes (id ∷ ids) = omega (arith, length-ids_bytes ids)

length-body_bytes : (b : Body) → length (body_bytes b) ≡ body_len b
unfolding hello_bytes fixed_bytes update_bytes number
length-body_bytes (body.Hello h) = omega (arith, length-ids_bytes h.neighbours)
length-body_bytes (body.Update ls) = omega (arith, (length-lsas_bytes ls).0)
length-body_bytes (body.Ack hs) = length-headers_bytes hs

-- ---- bodies

ids_are : (ids : List ℕ) → AllByRecursion FitsWord ids → ArePieces 4 (field 0 4) (ids_bytes ids) ids
unfolding field number
ids_are [] fit = refl
ids_are (id ∷ ids) fit = (omega arith, sym (big_number-reads_back 4 id [] fit.0), ids_are ids fit.1)

hello_is : (h : Hello) → FitsHello h → All FitsWord h.neighbours → IsHello (hello_bytes h) h
unfolding hello_bytes fixed_bytes field number
hello_is h fits ids = record {
  whole = omega arith;
  mask = sym (big_number-reads_back 4 h.mask [] fits.mask);
  interval = sym (big_number-reads_back 2 h.interval [] fits.interval);
  options = omega arith;
  priority = omega arith;
  dead = sym (big_number-reads_back 4 h.dead [] fits.dead);
  dr = sym (big_number-reads_back 4 h.dr [] fits.dr);
  bdr = sym (big_number-reads_back 4 h.bdr [] fits.bdr);
  neighbours = ids_are h.neighbours (recursion_from_All FitsWord h.neighbours ids);
}

update_is : (ls : List Lsa) → length ls < 2 ^ 32 → All (λ l. FitsHeader l.head) ls → All HasLength ls → IsBody (update_bytes ls) (body.Update ls)
unfolding update_bytes field number
update_is ls few fit lens = (
  omega arith,
  big_number-reads_back 4 (length ls) [] few,
  lsas_are ls (recursion_from_All (λ l. FitsHeader l.head) ls fit) (recursion_from_All HasLength ls lens),
)

body_is : (b : Body) → HasFewLsas b → FitsBody b → HaveLengths b → IsBody (body_bytes b) b
body_is (body.Hello h) few fits lens = hello_is h fits.0 fits.1
body_is (body.Update ls) few fits lens = update_is ls few fits lens
body_is (body.Ack hs) few fits lens = headers_are hs (recursion_from_All FitsHeader hs fits)

-- ---- the header

pub length-header_text : (p : Packet) (len s : ℕ) → length (header_text p len s) ≡ 24
unfolding header_text number
length-header_text p len s = refl

few_of : (b : Body) → length (body_bytes b) ≤ 65535 → HasFewLsas b
unfolding update_bytes number
few_of (body.Hello h) room = tt
few_of (body.Update ls) room = omega (arith, (length-lsas_bytes ls).1)
few_of (body.Ack hs) room = tt

-- there is room for the body
pub room_for : (p : Packet) → IsEncodable p → 24 + length (body_bytes p.body) ≤ 65535
room_for p is = omega (arith, is.room, length-body_bytes p.body)

pub has_few : (p : Packet) → IsEncodable p → HasFewLsas p.body
has_few p is = few_of p.body (omega (arith, room_for p is))

-- the words of a packet are those before the authentication and those of its body
total_is : (p : Packet) (len s : ℕ) (b : List ℕ) → sum (words (summed_bytes (header_text p len s ++ b))) ≡ sum (words (take 16 (header_text p len s))) + sum (words b)
unfolding header_text number
total_is p len s b = sum-summed (header_text p len s ++ b)

pub checksum_is : (p : Packet) (len : ℕ) (b : List ℕ) → checksum (sum (words (take 16 (header_text p len 0))) + sum (words b)) ≡ packet_checksum (header_text p len 0 ++ b)
unfolding packet_checksum
checksum_is p len b = ap checksum (sym (total_is p len 0 b))

-- the checksum counts as one word
with_checksum : (p : Packet) (len s : ℕ) → s < 2 ^ 16 → sum (words (take 16 (header_text p len s))) ≡ sum (words (take 16 (header_text p len 0))) + s
unfolding header_text number
with_checksum p len s lt = omega arith

some_total : (p : Packet) (len : ℕ) → 0 < sum (words (take 16 (header_text p len 0)))
unfolding header_text number
some_total p len = omega arith

-- a sum and its complement are 0xffff
complement : (n s : ℕ) → 0 < n → s ≡ 65535 - carried n → carried (n + s) ≡ 65535
complement zero s positive e = absurd (omega arith)
complement (suc n) s positive e =
    let place : suc n + s ≡ suc (n + s) = omega arith in
    rw place (omega arith)

summed_is : (p : Packet) (len : ℕ) (b : List ℕ) → packet_sum (header_text p len (packet_checksum (header_text p len 0 ++ b)) ++ b) ≡ 65535
unfolding packet_checksum
summed_is p len b =
    let n = sum (words (take 16 (header_text p len 0))) + sum (words b) in
    let s = packet_checksum (header_text p len 0 ++ b) in
    let s_is : s ≡ 65535 - carried n = ap (λ (k : ℕ). 65535 - carried k) (total_is p len 0 b) in
    let total : sum (words (summed_bytes (header_text p len s ++ b))) ≡ n + s = total_is p len s b ∙ omega (arith, with_checksum p len s (omega arith)) in
    ap carried total ∙ complement n s (omega (arith, some_total p len)) s_is

header_has : (p : Packet) (b : List ℕ) → 24 + length b ≤ 65535 → HasHeader (summed_header p b ++ b)
unfolding summed_header header_text field number
header_has p b room = record {
  whole = omega arith;
  version = omega arith;
  length = big_number-reads_back 2 (24 + length b) [] (omega arith) ∙ omega arith;
  authentication = omega arith;
  sum = summed_is p (24 + length b) b;
}

parts_of : (p : Packet) (b : List ℕ) → p.router < 2 ^ 32 → p.area < 2 ^ 32
    → (field 1 1 (summed_header p b ++ b) ≡ kind_of p.body) × (p.router ≡ field 4 4 (summed_header p b ++ b)) × (p.area ≡ field 8 4 (summed_header p b ++ b)) × (drop 24 (summed_header p b ++ b) ≡ b)
unfolding summed_header header_text field number
parts_of p b router area = (omega arith, sym (big_number-reads_back 4 p.router [] router), sym (big_number-reads_back 4 p.area [] area), refl)

whole_of : (p : Packet) → HasHeader (summed_header p (body_bytes p.body) ++ body_bytes p.body) → field 1 1 (summed_header p (body_bytes p.body) ++ body_bytes p.body) ≡ kind_of p.body
    → p.router ≡ field 4 4 (summed_header p (body_bytes p.body) ++ body_bytes p.body) → p.area ≡ field 8 4 (summed_header p (body_bytes p.body) ++ body_bytes p.body)
    → IsBody (drop 24 (summed_header p (body_bytes p.body) ++ body_bytes p.body)) p.body → IsPacket (packet_bytes p) p
unfolding packet_bytes
whole_of p has kind router area is = record { header = has; kind = kind; router = router; area = area; body = is }

-- what is written is the packet
pub packet_is : (p : Packet) → p.router < 2 ^ 32 → p.area < 2 ^ 32 → FitsBody p.body → IsEncodable p → IsPacket (packet_bytes p) p
packet_is p router area fits encodable =
    let b = body_bytes p.body in
    let has = header_has p b (room_for p encodable) in
    let parts = parts_of p b router area in
    let is = body_is p.body (has_few p encodable) fits encodable.lengths in
    whole_of p has parts.0 parts.1 parts.2 (subst (λ (bytes : List ℕ). IsBody bytes p.body) (sym parts.3) is)

pub joined : (p : Packet) (b : List ℕ) → b ≡ body_bytes p.body → summed_header p b ++ b ≡ packet_bytes p
unfolding packet_bytes
joined p b e = ap (λ (bytes : List ℕ). summed_header p bytes ++ bytes) e

-- ---- the checksum of any packet

-- the words before the checksum, the checksum, and the words behind it
total_at : (front rest : List ℕ) (n : ℕ) → length front ≡ 12 → n < 2 ^ 16
    → sum (words (summed_bytes (front ++ number 2 n ++ rest))) ≡ sum (words front) + n + (sum (words (take 2 rest)) + sum (words (drop 10 rest)))
unfolding number
total_at front rest n len lt =
    let head = front ++ number 2 n in
    let long : length head ≡ 14 = omega (arith, length-append front (number 2 n)) in
    let place : 16 ≡ length head + 2 = omega arith in
    let first : take 16 (head ++ rest) ≡ head ++ take 2 rest = ap (λ (k : ℕ). take k (head ++ rest)) place ∙ take-append-add head rest 2 in
    let second : drop 24 (head ++ rest) ≡ drop 10 rest = sym (drop-drop 10 14 (head ++ rest)) ∙ ap (drop 10) (drop_at head rest 14 long) in
    let word : sum (words (number 2 n)) ≡ n = omega arith in
    sum-summed (head ++ rest)
    ∙ omega (
      arith,
      ap (λ (xs : List ℕ). sum (words xs)) first,
      ap (λ (xs : List ℕ). sum (words xs)) second,
      sum-words-append 7 head (take 2 rest) long,
      sum-words-append 6 front (number 2 n) len,
      word,
    )

pub written_is_right : (front rest : List ℕ) (n : ℕ) → length front ≡ 12 → 0 < sum (words front)
    → n ≡ packet_checksum (front ++ number 2 0 ++ rest) → packet_sum (front ++ number 2 n ++ rest) ≡ 65535
unfolding packet_checksum
written_is_right front rest n len some e =
    let total = sum (words front) + (sum (words (take 2 rest)) + sum (words (drop 10 rest))) in
    let without : sum (words (summed_bytes (front ++ number 2 0 ++ rest))) ≡ total = total_at front rest 0 len (omega arith) ∙ omega arith in
    let n-is : n ≡ 65535 - carried total = e ∙ ap (λ (k : ℕ). 65535 - carried k) without in
    let with_it : sum (words (summed_bytes (front ++ number 2 n ++ rest))) ≡ total + n = total_at front rest n len (omega arith) ∙ omega arith in
    ap carried with_it ∙ complement total n (omega arith) n-is
