-- The laws of reading a packet: what is read is the packet, and the packet is read.
use Rattle.std.proofs.Common.{◌≡◌, ℕ, zero, suc, ◌+◌, ◌-◌, ◌^◌, ◌<◌, ◌≤◌, ◌==◌, ◌&&◌, eqb, leb, true, cond, inl, inr, List, [], ◌∷◌, length, get_or, drop, Option, Some, None, refl, sym, ap, subst, ◌∙◌, arith}
use Rattle.std.specs.Prelude.{option_map, IfSome, IfNone}
use Rattle.std.specs.Prelude.{sum_by}
use Rattle.std.specs.List.{AllByRecursion}
use Rattle.std.proofs.lemmas.List.{length-take, length-drop, get_or-drop}
use Rattle.std.proofs.lemmas.List.Sums.{sum_by-append}
use Rattle.std.proofs.lemmas.List.Elements.{All-from_recursion}
use Rattle.byteorder.specs.Numbers.{big_from-lt}
use Rattle.ospf_wire.specs.declared.lsa.Lsa.{Lsa}
use Rattle.std.proofs.lemmas.Bool.{eqb-true, eq-eqb, leb-true, le-leb, and_parts}
use Rattle.std.proofs.lemmas.Option.{none-some, same_Some}
use Rattle.ospf_wire.specs.declared.packet.Body.{Body}
use Rattle.ospf_wire.specs.declared.packet.Body.TheVariants as body
use Rattle.ospf_wire.specs.declared.packet.Packet.{Packet}
use Rattle.ospf_wire.specs.Fields.{field}
use Rattle.ospf_wire.specs.Lsas.{header_of, IsAtFront, AreLsas}
use Rattle.ospf_wire.specs.Sums.{carried, packet_sum, packet_checksum}
use Rattle.ospf_wire.specs.Packets.{kind_of, IsBody, HasHeader, IsPacket, IsEncodable, body_len, HaveLengths}
use Rattle.ospf_wire.specs.Reading.{all_pieces, hello_at, update_at, body_at, has_header, packet_at}
use Rattle.ospf_wire.proofs.Choices.{chosen, mapped}
use Rattle.ospf_wire.proofs.PieceLaws.{all_take, all_again, pieces_again}
use Rattle.ospf_wire.proofs.LsaLaws.{update_takes, update_again}
use Rattle.ospf_wire.proofs.HelloLaws.{hello_takes, hello_again}

abbrev Fits : ℕ → List ℕ → Body → Type 0
Fits kind bytes b = (kind ≡ kind_of b) × IsBody bytes b

ack_takes : (kind : ℕ) (bytes : List ℕ) (b : Body) → cond (kind == 5) (option_map body.Ack (all_pieces 20 header_of bytes)) None ≡ Some b → Fits kind bytes b
ack_takes kind bytes b e =
    elim (chosen (kind == 5) (option_map body.Ack (all_pieces 20 header_of bytes)) None (Some b) e) [
      | inl hit ↦
          let m = mapped body.Ack (all_pieces 20 header_of bytes) b hit.1 in
          subst (λ (x : Body). Fits kind bytes x) m.2 (eqb-true kind 5 hit.0, all_take 20 header_of bytes m.0 (omega arith) m.1)
      | inr miss ↦ absurd (none-some b miss.1)
    ]

update_body : (kind : ℕ) (bytes : List ℕ) (b : Body)
    → cond (kind == 4) (option_map body.Update (update_at bytes)) (cond (kind == 5) (option_map body.Ack (all_pieces 20 header_of bytes)) None) ≡ Some b → Fits kind bytes b
update_body kind bytes b e =
    elim (chosen (kind == 4) (option_map body.Update (update_at bytes)) (cond (kind == 5) (option_map body.Ack (all_pieces 20 header_of bytes)) None) (Some b) e) [
      | inl hit ↦
          let m = mapped body.Update (update_at bytes) b hit.1 in
          subst (λ (x : Body). Fits kind bytes x) m.2 (eqb-true kind 4 hit.0, update_takes bytes m.0 m.1)
      | inr other ↦ ack_takes kind bytes b other.1
    ]

body_takes : (kind : ℕ) (bytes : List ℕ) (b : Body) → body_at kind bytes ≡ Some b → Fits kind bytes b
unfolding body_at
body_takes kind bytes b e =
    elim (chosen (kind == 1) (option_map body.Hello (hello_at bytes)) (cond (kind == 4) (option_map body.Update (update_at bytes)) (cond (kind == 5) (option_map body.Ack (all_pieces 20 header_of bytes)) None)) (Some b) e) [
      | inl hit ↦
          let m = mapped body.Hello (hello_at bytes) b hit.1 in
          subst (λ (x : Body). Fits kind bytes x) m.2 (eqb-true kind 1 hit.0, hello_takes bytes m.0 m.1)
      | inr other ↦ update_body kind bytes b other.1
    ]

body_again : (bytes : List ℕ) (b : Body) → IsBody bytes b → body_at (kind_of b) bytes ≡ Some b
unfolding body_at
body_again bytes (body.Hello h) is = rw (hello_again bytes h is) refl
body_again bytes (body.Update ls) is = rw (update_again bytes ls is.0 is.1 is.2) refl
body_again bytes (body.Ack hs) is = rw (all_again 20 header_of bytes hs (omega arith) is) refl

carried-le : (n : ℕ) → carried n ≤ 65535
carried-le zero = omega arith
carried-le (suc n) = omega arith

header_takes : (bytes : List ℕ) → has_header bytes ≡ true → HasHeader bytes
unfolding has_header packet_checksum
header_takes bytes e =
    let long = leb 24 (length bytes) in
    let version = eqb (field 0 1 bytes) 2 in
    let len = eqb (field 2 2 bytes) (length bytes) in
    let null = eqb (field 14 2 bytes) 0 in
    let d = and_parts (long && version && len && null) (eqb (packet_checksum bytes) 0) e in
    let c = and_parts (long && version && len) null d.0 in
    let b = and_parts (long && version) len c.0 in
    let a = and_parts long version b.0 in
    let zero_left : packet_checksum bytes ≡ 0 = eqb-true (packet_checksum bytes) 0 d.1 in
    let most : packet_sum bytes ≤ 65535 = carried-le _ in
    record {
      whole = leb-true 24 (length bytes) a.0;
      version = eqb-true (field 0 1 bytes) 2 a.1;
      length = eqb-true (field 2 2 bytes) (length bytes) b.1;
      authentication = eqb-true (field 14 2 bytes) 0 c.1;
      sum = omega arith;
    }

header_again : (bytes : List ℕ) → HasHeader bytes → has_header bytes ≡ true
unfolding has_header packet_checksum
header_again bytes has =
    let s : packet_checksum bytes ≡ 0 = omega (arith, has.sum) in
    rw (le-leb 24 (length bytes) has.whole, eq-eqb (field 0 1 bytes) 2 has.version, eq-eqb (field 2 2 bytes) (length bytes) has.length, eq-eqb (field 14 2 bytes) 0 has.authentication, eq-eqb (packet_checksum bytes) 0 s) refl

abbrev made : List ℕ → Body → Packet
made bytes b = record { router = field 4 4 bytes; area = field 8 4 bytes; body = b }

-- what is read is the packet
pub packet_takes : (bytes : List ℕ) (p : Packet) → packet_at bytes ≡ Some p → IsPacket bytes p
unfolding packet_at
packet_takes bytes p e =
    elim (chosen (has_header bytes) (option_map (made bytes) (body_at (field 1 1 bytes) (drop 24 bytes))) None (Some p) e) [
      | inl hit ↦
          let m = mapped (made bytes) (body_at (field 1 1 bytes) (drop 24 bytes)) p hit.1 in
          let fits = body_takes (field 1 1 bytes) (drop 24 bytes) m.0 m.1 in
          let is : IsPacket bytes (made bytes m.0) = record { header = header_takes bytes hit.0; kind = fits.0; router = refl; area = refl; body = fits.1 } in
          subst (λ (x : Packet). IsPacket bytes x) m.2 is
      | inr miss ↦ absurd (none-some p miss.1)
    ]

-- the packet is read
pub packet_again : (bytes : List ℕ) (p : Packet) → IsPacket bytes p → packet_at bytes ≡ Some p
unfolding packet_at
packet_again bytes p is =
    let read : body_at (field 1 1 bytes) (drop 24 bytes) ≡ Some p.body = ap (λ (k : ℕ). body_at k (drop 24 bytes)) is.kind ∙ body_again (drop 24 bytes) p.body is.body in
    let same : made bytes p.body ≡ p = rw (← is.router, ← is.area) refl in
    rw (header_again bytes is.header, read) (ap (λ (x : Packet). Some x) same)

-- bytes are one packet at most
pub one_packet : (bytes : List ℕ) (p q : Packet) → IsPacket bytes p → IsPacket bytes q → p ≡ q
one_packet bytes p q one other = same_Some p q (sym (packet_again bytes p one) ∙ packet_again bytes q other)

pub is_found : (bytes : List ℕ) (found : Option Packet) → found ≡ packet_at bytes → IfSome found (λ p. IsPacket bytes p)
is_found bytes None e = tt
is_found bytes (Some p) e = packet_takes bytes p (sym e)

pub is_none : (bytes : List ℕ) (found : Option Packet) → found ≡ packet_at bytes → IfNone found ((p : Packet) → ¬ IsPacket bytes p)
is_none bytes None e = λ p is. none-some p (e ∙ packet_again bytes p is)
is_none bytes (Some p) e = tt

pub is_read : (bytes : List ℕ) (found : Option Packet) → found ≡ packet_at bytes → (p : Packet) → IsPacket bytes p → found ≡ Some p
is_read bytes found e p is = e ∙ packet_again bytes p is

-- ---- what is read can be written

lsa_len : (bytes : List ℕ) (l : Lsa) → IsAtFront bytes l → l.head.length ≡ 20 + length l.body
lsa_len bytes l stands =
    let body = ap length stands.body in
    omega (arith, stands.least, stands.fits, body, length-take (l.head.length - 20) (drop 20 bytes), length-drop 20 bytes)

lsas_have_lengths : (ls : List Lsa) (bytes : List ℕ) → AreLsas bytes ls → AllByRecursion (λ l. l.head.length ≡ 20 + length l.body) ls
lsas_have_lengths [] bytes are = tt
lsas_have_lengths (l ∷ ls) bytes are = (lsa_len bytes l are.0, lsas_have_lengths ls (drop l.head.length bytes) are.1)

lsas_len : (ls : List Lsa) (bytes : List ℕ) → AreLsas bytes ls → length bytes ≡ sum_by (λ l. 20 + length l.body) ls
lsas_len [] bytes are = ap length are
lsas_len (l ∷ ls) bytes are =
    let rest = lsas_len ls (drop l.head.length bytes) are.1 in
    omega (arith, lsa_len bytes l are.0, are.0.fits, rest, length-drop l.head.length bytes, sum_by-append (λ x. 20 + length x.body) (l ∷ []) ls)

body_has_len : (bytes : List ℕ) (b : Body) → IsBody bytes b → (length bytes ≡ body_len b) × HaveLengths b
body_has_len bytes (body.Hello h) is =
    (omega (arith, is.whole, length-drop 20 bytes, (pieces_again 4 (field 0 4) h.neighbours (drop 20 bytes) is.neighbours).0), tt)
body_has_len bytes (body.Update ls) is = (
  omega (arith, is.0, length-drop 4 bytes, lsas_len ls (drop 4 bytes) is.2),
  All-from_recursion (λ l. l.head.length ≡ 20 + length l.body) ls (lsas_have_lengths ls (drop 4 bytes) is.2),
)
body_has_len bytes (body.Ack hs) is = ((pieces_again 20 header_of hs bytes is).0, tt)

field-lt : (at n : ℕ) (bytes : List ℕ) → ((i : ℕ) → get_or bytes i 0 < 256) → field at n bytes < 256 ^ n
unfolding field
field-lt at n bytes fits = big_from-lt 0 n (drop at bytes) (λ i. rw get_or-drop (fits (at + i)))

encodable : (bytes : List ℕ) (p : Packet) → ((i : ℕ) → get_or bytes i 0 < 256) → IsPacket bytes p → IsEncodable p
encodable bytes p fits is =
    let b = body_has_len (drop 24 bytes) p.body is.body in
    record {
      room = omega (arith, b.0, is.header.whole, is.header.length, length-drop 24 bytes, field-lt 2 2 bytes fits);
      lengths = b.1;
    }

pub is_encodable : (bytes : List ℕ) → ((i : ℕ) → get_or bytes i 0 < 256) → (found : Option Packet) → found ≡ packet_at bytes → IfSome found IsEncodable
is_encodable bytes fits None e = tt
is_encodable bytes fits (Some p) e = encodable bytes p fits (packet_takes bytes p (sym e))
