-- What is read from bytes is written again, but for the two bytes behind the version.
use Rattle.std.proofs.Common.{◌≡◌, ℕ, zero, suc, ◌+◌, ◌/◌, ◌%◌, ◌^◌, ◌<◌, ◌≤◌, ◌⊎◌, inl, inr, List, [], ◌∷◌, ◌++◌, length, take, drop, sym, ap, ◌∙◌, arith}
use Rattle.std.specs.Prelude.{All, slice_index}
use Rattle.std.specs.Int.{byte_at}
use Rattle.std.specs.List.{AllByRecursion}
use Rattle.std.proofs.lemmas.Bool.{cases_lt}
use Rattle.std.proofs.lemmas.List.{drop-drop, length-drop, get_or_past}
use Rattle.std.proofs.lemmas.List.Elements.{All-append, All-cons, All-drop, All-get_or, All-nil, recursion_from_All}
use Rattle.byteorder.specs.Endian.{big_bytes, big_number}
use Rattle.byteorder.specs.Numbers.{big_from-lt}
use Rattle.rip_wire.specs.declared.entry.Entry.{Entry}
use Rattle.rip_wire.specs.declared.message.Message.{Message}
use Rattle.rip_wire.specs.Entries.{AreEntries, FitsEntry, StandsAtFront, entries_bytes, entry_bytes}
use Rattle.rip_wire.specs.Messages.{IsEncodable, IsMessage, message_bytes}
use Rattle.rip_wire.specs.Reading.{entry_at}
use Rattle.rip_wire.proofs.EntryLaws.{same_entry}

abbrev AreBytes : List ℕ → Type 0
AreBytes xs = All (λ b. b < 2 ^ 8) xs

-- ---- numbers

two_written : (xs : List ℕ) → AllByRecursion (λ b. b < 2 ^ 8) xs → 2 ≤ length xs → big_bytes 2 (big_number 2 xs) ++ drop 2 xs ≡ xs
two_written [] all few = absurd (omega arith)
two_written (a ∷ []) all few = absurd (omega arith)
two_written (a ∷ b ∷ rest) all few =
    let x = all.0 in
    let y = all.1.0 in
    let high : big_number 2 (a ∷ b ∷ rest) / 256 % 256 ≡ a = omega arith in
    let low : big_number 2 (a ∷ b ∷ rest) % 256 ≡ b = omega arith in
    cc

four_written : (xs : List ℕ) → AllByRecursion (λ b. b < 2 ^ 8) xs → 4 ≤ length xs → big_bytes 4 (big_number 4 xs) ++ drop 4 xs ≡ xs
four_written [] all few = absurd (omega arith)
four_written (a ∷ []) all few = absurd (omega arith)
four_written (a ∷ b ∷ []) all few = absurd (omega arith)
four_written (a ∷ b ∷ c ∷ []) all few = absurd (omega arith)
four_written (a ∷ b ∷ c ∷ d ∷ rest) all few =
    let x = all.0 in
    let y = all.1.0 in
    let z = all.1.1.0 in
    let u = all.1.1.1.0 in
    let n = big_number 4 (a ∷ b ∷ c ∷ d ∷ rest) in
    let first : n / 16777216 % 256 ≡ a = omega arith in
    let second : n / 65536 % 256 ≡ b = omega arith in
    let third : n / 256 % 256 ≡ c = omega arith in
    let last : n % 256 ≡ d = omega arith in
    cc

two_at : (k : ℕ) (bytes : List ℕ) → AreBytes bytes → k + 2 ≤ length bytes → big_bytes 2 (big_number 2 (drop k bytes)) ++ drop (k + 2) bytes ≡ drop k bytes
two_at k bytes all long =
    let front = drop k bytes in
    let here = two_written front (recursion_from_All (λ (b : ℕ). b < 2 ^ 8) front (All-drop (λ (b : ℕ). b < 2 ^ 8) k bytes all)) (omega (arith, length-drop k bytes, long)) in
    ap (λ (rest : List ℕ). big_bytes 2 (big_number 2 front) ++ rest) (sym (drop-drop 2 k bytes)) ∙ here

four_at : (k : ℕ) (bytes : List ℕ) → AreBytes bytes → k + 4 ≤ length bytes → big_bytes 4 (big_number 4 (drop k bytes)) ++ drop (k + 4) bytes ≡ drop k bytes
four_at k bytes all long =
    let front = drop k bytes in
    let here = four_written front (recursion_from_All (λ (b : ℕ). b < 2 ^ 8) front (All-drop (λ (b : ℕ). b < 2 ^ 8) k bytes all)) (omega (arith, length-drop k bytes, long)) in
    ap (λ (rest : List ℕ). big_bytes 4 (big_number 4 front) ++ rest) (sym (drop-drop 4 k bytes)) ∙ here

-- ---- entries

entry_again : (bytes : List ℕ) → AreBytes bytes → 20 ≤ length bytes → entry_bytes (entry_at bytes) ++ drop 20 bytes ≡ bytes
unfolding entry_bytes entry_at
entry_again bytes all long =
    let family = two_at 0 bytes all (omega arith) in
    let tag = two_at 2 bytes all (omega arith) in
    let address = four_at 4 bytes all (omega arith) in
    let mask = four_at 8 bytes all (omega arith) in
    let hop = four_at 12 bytes all (omega arith) in
    let metric = four_at 16 bytes all (omega arith) in
    cc

entries_again : (es : List Entry) (bytes : List ℕ) → AreBytes bytes → AreEntries bytes es → entries_bytes es ≡ bytes
entries_again [] bytes all are = sym are
entries_again (e ∷ es) bytes all are =
    let rest = entries_again es (drop 20 bytes) (All-drop (λ (b : ℕ). b < 2 ^ 8) 20 bytes all) are.1 in
    ap (λ (text : List ℕ). entry_bytes e ++ text) rest
    ∙ ap (λ (x : Entry). entry_bytes x ++ drop 20 bytes) (sym (same_entry bytes e are.0))
    ∙ entry_again bytes all are.0.whole

-- ---- messages

-- a message of bytes is written as these bytes, with zeros behind the version
pub message_again_written : (bytes : List ℕ) (m : Message) → AreBytes bytes → IsMessage bytes m → message_bytes m ≡ take 2 bytes ++ 0 ∷ 0 ∷ drop 4 bytes
message_again_written [] m all is = absurd cc
message_again_written (a ∷ []) m all is = absurd cc
message_again_written (a ∷ b ∷ rest) m all is =
    let entries = entries_again m.entries (drop 4 (a ∷ b ∷ rest)) (All-drop (λ (x : ℕ). x < 2 ^ 8) 4 (a ∷ b ∷ rest) all) is.entries in
    let command : m.command ≡ a = is.command in
    let version : b ≡ 2 = is.version in
    cc

-- ---- what is read fits its width

byte_in : (xs : List ℕ) → AreBytes xs → (k : ℕ) → slice_index xs k < 256
byte_in xs all k = elim (cases_lt k (length xs)) [
  | inl here ↦ All-get_or (λ (b : ℕ). b < 2 ^ 8) xs k 0 here all
  | inr past ↦ omega (arith, get_or_past xs k 0 past)
]

number_fits : (n k : ℕ) (bytes : List ℕ) → AreBytes bytes → big_number n (drop k bytes) < 256 ^ n
number_fits n k bytes all = big_from-lt 0 n (drop k bytes) (byte_in (drop k bytes) (All-drop (λ (b : ℕ). b < 2 ^ 8) k bytes all))

entry_fits : (bytes : List ℕ) (e : Entry) → AreBytes bytes → StandsAtFront bytes e → FitsEntry e
entry_fits bytes e all stands = record {
  family = omega (arith, stands.family, number_fits 2 0 bytes all);
  tag = omega (arith, stands.tag, number_fits 2 2 bytes all);
  address = omega (arith, stands.address, number_fits 4 4 bytes all);
  mask = omega (arith, stands.mask, number_fits 4 8 bytes all);
  hop = omega (arith, stands.hop, number_fits 4 12 bytes all);
  metric = omega (arith, stands.metric, number_fits 4 16 bytes all);
}

pub entries_fit : (es : List Entry) (bytes : List ℕ) → AreBytes bytes → AreEntries bytes es → All FitsEntry es
entries_fit [] bytes all are = All-nil FitsEntry
entries_fit (e ∷ es) bytes all are =
    All-cons FitsEntry e es (entry_fits bytes e all are.0) (entries_fit es (drop 20 bytes) (All-drop (λ (b : ℕ). b < 2 ^ 8) 20 bytes all) are.1)

-- ---- what is written is bytes

byte_of : (k n : ℕ) → byte_at k n < 2 ^ 8
byte_of zero n = omega arith
byte_of (suc k) n = omega arith

number_in_bytes : (k n : ℕ) → AreBytes (big_bytes k n)
number_in_bytes zero n = All-nil (λ (b : ℕ). b < 2 ^ 8)
number_in_bytes (suc k) n = All-cons (λ (b : ℕ). b < 2 ^ 8) (byte_at k n) (big_bytes k n) (byte_of k n) (number_in_bytes k n)

both : (xs ys : List ℕ) → AreBytes xs → AreBytes ys → AreBytes (xs ++ ys)
both xs ys all more = All-append (λ (b : ℕ). b < 2 ^ 8) xs ys all more

entry_in_bytes : (e : Entry) → AreBytes (entry_bytes e)
unfolding entry_bytes
entry_in_bytes e =
    let family = big_bytes 2 e.family in
    let tag = big_bytes 2 e.tag in
    let address = big_bytes 4 e.address in
    let mask = big_bytes 4 e.mask in
    let hop = big_bytes 4 e.hop in
    both (family ++ tag ++ address ++ mask ++ hop) (big_bytes 4 e.metric)
    (both (family ++ tag ++ address ++ mask) hop
    (both (family ++ tag ++ address) mask
    (both (family ++ tag) address (both family tag (number_in_bytes 2 e.family) (number_in_bytes 2 e.tag)) (number_in_bytes 4 e.address))
    (number_in_bytes 4 e.mask)) (number_in_bytes 4 e.hop)) (number_in_bytes 4 e.metric)

entries_in_bytes : (es : List Entry) → AreBytes (entries_bytes es)
entries_in_bytes [] = All-nil (λ (b : ℕ). b < 2 ^ 8)
entries_in_bytes (e ∷ es) = both (entry_bytes e) (entries_bytes es) (entry_in_bytes e) (entries_in_bytes es)

command_is : (n : ℕ) → (n ≡ 1) ⊎ (n ≡ 2) → n < 2 ^ 8
command_is n is = elim is [ inl one ↦ omega (arith, one) | inr two ↦ omega (arith, two) ]

pub message_in_bytes : (m : Message) → IsEncodable m → AreBytes (message_bytes m)
message_in_bytes m encodable =
    let P : ℕ → Type 0 = λ b. b < 2 ^ 8 in
    let text = entries_bytes m.entries in
    All-cons P m.command (2 ∷ 0 ∷ 0 ∷ text) (command_is m.command encodable.command)
    (All-cons P 2 (0 ∷ 0 ∷ text) (omega arith) (All-cons P 0 (0 ∷ text) (omega arith) (All-cons P 0 text (omega arith) (entries_in_bytes m.entries))))
