-- Entries: read one after the other as a loop does, and the laws of reading and writing them.
use Rattle.std.proofs.Common.{◌≡◌, ℕ, zero, suc, ◌+◌, ◌-◌, ◌*◌, ◌<◌, ◌≤◌, List, [], ◌∷◌, ◌++◌, length, drop, refl, sym, ap, ◌∙◌, append_assoc, arith}
use Rattle.std.specs.List.{AllByRecursion}
use Rattle.std.proofs.lemmas.List.{drop-drop, length-drop, nil_from_length, drop_at}
use Rattle.byteorder.specs.Numbers.{big_number-reads_back}
use Rattle.rip_wire.specs.declared.entry.Entry.{Entry}
use Rattle.rip_wire.specs.Entries.{StandsAtFront, AreEntries, FitsEntry, entry_bytes, entries_bytes}
use Rattle.rip_wire.specs.Reading.{entry_at, entries_at}

-- one more entry is read
pub entries_more : (count i : ℕ) (bytes : List ℕ) (front total : List Entry) → i < count
    → front ++ entries_at (count - i) (drop (20 * i) bytes) ≡ total
    → (front ++ entry_at (drop (20 * i) bytes) ∷ []) ++ entries_at (count - (i + 1)) (drop (20 * (i + 1)) bytes) ≡ total
entries_more count i bytes front total lt so_far =
    let k : count - i ≡ suc (count - (i + 1)) = omega arith in
    let place : 20 * i + 20 ≡ 20 * (i + 1) = omega arith in
    let moved : drop 20 (drop (20 * i) bytes) ≡ drop (20 * (i + 1)) bytes = drop-drop 20 (20 * i) bytes ∙ ap (λ (m : ℕ). drop m bytes) place in
    let opened : front ++ entry_at (drop (20 * i) bytes) ∷ entries_at (count - (i + 1)) (drop 20 (drop (20 * i) bytes)) ≡ total = rw k at so_far in
    append_assoc front (entry_at (drop (20 * i) bytes) ∷ []) (entries_at (count - (i + 1)) (drop (20 * (i + 1)) bytes))
    ∙ ap (λ (rest : List ℕ). front ++ entry_at (drop (20 * i) bytes) ∷ entries_at (count - (i + 1)) rest) (sym moved) ∙ opened

-- what is read at the front stands there
entry_stands : (bytes : List ℕ) → 20 ≤ length bytes → StandsAtFront bytes (entry_at bytes)
unfolding entry_at
entry_stands bytes whole = record { whole = whole; family = refl; tag = refl; address = refl; mask = refl; hop = refl; metric = refl }

-- so many bytes are so many entries
pub entries_take : (count : ℕ) (bytes : List ℕ) → length bytes ≡ 20 * count → AreEntries bytes (entries_at count bytes) × (length (entries_at count bytes) ≡ count)
entries_take zero bytes len = (nil_from_length bytes (omega arith), refl)
entries_take (suc count) bytes len =
    let rest = entries_take count (drop 20 bytes) (omega (arith, length-drop 20 bytes)) in
    ((entry_stands bytes (omega arith), rest.0), ap suc rest.1)

pub same_entry : (bytes : List ℕ) (e : Entry) → StandsAtFront bytes e → entry_at bytes ≡ e
unfolding entry_at
same_entry bytes e stands =
    rw (← stands.family, ← stands.tag, ← stands.address, ← stands.mask, ← stands.hop, ← stands.metric) refl

-- bytes that are entries are as many as these, and are read as these
pub entries_again : (es : List Entry) (bytes : List ℕ) → AreEntries bytes es → (length bytes ≡ 20 * length es) × (entries_at (length es) bytes ≡ es)
entries_again [] bytes are = (omega (arith, ap length are), refl)
entries_again (e ∷ es) bytes are =
    let rest = entries_again es (drop 20 bytes) are.1 in
    let front = ap (λ (x : Entry). x ∷ entries_at (length es) (drop 20 bytes)) (same_entry bytes e are.0) in
    (omega (arith, rest.0, are.0.whole, length-drop 20 bytes), front ∙ ap (λ (xs : List Entry). e ∷ xs) rest.1)

-- ---- what is written

pub length-entry_bytes : (e : Entry) → length (entry_bytes e) ≡ 20
unfolding entry_bytes
length-entry_bytes e = refl

-- an entry stands at the front of its bytes
entry_written : (e : Entry) (rest : List ℕ) → FitsEntry e → StandsAtFront (entry_bytes e ++ rest) e
unfolding entry_bytes
entry_written e rest fits = record {
  whole = omega arith;
  family = sym (big_number-reads_back 2 e.family [] fits.family);
  tag = sym (big_number-reads_back 2 e.tag [] fits.tag);
  address = sym (big_number-reads_back 4 e.address [] fits.address);
  mask = sym (big_number-reads_back 4 e.mask [] fits.mask);
  hop = sym (big_number-reads_back 4 e.hop [] fits.hop);
  metric = sym (big_number-reads_back 4 e.metric [] fits.metric);
}

-- the bytes of entries are these entries
pub entries_written : (es : List Entry) → AllByRecursion FitsEntry es → AreEntries (entries_bytes es) es
entries_written [] fit = refl
entries_written (e ∷ es) fit = (
  entry_written e (entries_bytes es) fit.0,
  rw (drop_at (entry_bytes e) (entries_bytes es) 20 (length-entry_bytes e)) (entries_written es fit.1),
)
