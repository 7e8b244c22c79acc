-- The link-state database as a finite map: the list of its entries in ascending order of the keys.
use Rattle.std.specs.Prelude.{◌≡◌, ◌+◌, ◌%◌, ◌^◌, ◌==◌, ℕ, false, if◌then◌else◌, List, [], ◌∷◌, length, map, filter, Option, Some, None}
use Rattle.std.specs.List.{AllByRecursion}
use Rattle.std.specs.Map.{keys_of, lookup, remove_entry}
use Rattle.std.specs.BTreeMap.{insert_entry, is_at}
use Rattle.ospf_wire.specs.declared.lsa.Lsa.{Lsa}
use Rattle.ospf_wire.specs.Constants.{InitialSequenceNumber, MaxAge, MaxSequenceNumber, OwnOptions, RouterLsaType}
use Rattle.ospf_wire.specs.Fletcher.{ls_checksum, with_sum}
use Rattle.ospf_lsdb.specs.declared.key.LsaKey.{LsaKey}
use Rattle.ospf_lsdb.specs.declared.kept.Kept.{Kept}
use Rattle.ospf_lsdb.specs.Keys.{key_cmp, key_of, own_key}
use Rattle.ospf_lsdb.specs.Kept.{age_of, fresh, reaches_max_age, with_max_age}

abbrev pub Database : Type 0
Database = List (LsaKey × Kept)

-- what is kept at this key
abbrev pub kept_at : Database → LsaKey → Option Kept
kept_at db key = lookup (is_at (key_cmp key)) db

-- this is kept at this key, in place of what was there
abbrev pub with_kept : Database → LsaKey → Kept → Database
with_kept db key k = insert_entry key_cmp db key k

-- what is kept at this key is changed so, if it is there
abbrev pub changed : LsaKey → (Kept → Kept) → Database → Database
changed key change [] = []
changed key change (e ∷ db) = if is_at (key_cmp key) e.0 then (e.0, change e.1) ∷ db else e ∷ changed key change db

-- nothing is kept at this key
abbrev pub without : Database → LsaKey → Database
without db key = remove_entry (is_at (key_cmp key)) db

-- each LSA is kept at its own name
abbrev pub AreNamed : Database → Type 0
AreNamed db = AllByRecursion (λ e. e.0 ≡ key_of e.1.lsa.head) db

-- ---- aging (RFC 2328 section 14)

-- the LSAs whose age was below MaxAge and is MaxAge now, in order
abbrev pub reaching_max_age : ℕ → Database → List LsaKey
reaching_max_age now db = keys_of (filter (λ e. reaches_max_age now e.1) db)

-- these have the age MaxAge from now on
abbrev pub aged : ℕ → Database → Database
aged now db = map (λ e. (e.0, if reaches_max_age now e.1 then with_max_age now e.1 else e.1)) db

-- the LSAs whose age is MaxAge, in order
abbrev pub max_age_lsas : ℕ → Database → List LsaKey
max_age_lsas now db = keys_of (filter (λ e. age_of now e.1 == MaxAge) db)

-- ---- origination (RFC 2328 sections 12.1.6 and 12.4)

-- The sequence number behind that of the own LSA, and the first if there is no own LSA. There is none behind the
-- greatest, which is this project's own rule.
abbrev pub next_sequence_number : Option Kept → Option ℕ
next_sequence_number None = Some InitialSequenceNumber
next_sequence_number (Some k) = if k.lsa.head.seq == MaxSequenceNumber then None else Some ((k.lsa.head.seq + 1) % 2 ^ 32)

-- a router's own LSA with this sequence number and body, and with the right LS checksum
abbrev pub own_lsa : ℕ → ℕ → List ℕ → Lsa
own_lsa router seq body =
    let lsa : Lsa = record {
      head = record {
        age = 0;
        options = OwnOptions;
        kind = RouterLsaType;
        id = router;
        router = router;
        seq = seq;
        sum = 0;
        length = 20 + length body;
      };
      body = body;
    } in
    with_sum lsa (ls_checksum lsa)

-- the database in which the own LSA with this sequence number, if there is one, was installed now, not by flooding
abbrev pub with_own : Database → ℕ → List ℕ → ℕ → Option ℕ → Database
with_own db router body now None = db
with_own db router body now (Some seq) = with_kept db (own_key router) (fresh (own_lsa router seq body) now false false)

-- the database in which the own LSA was originated anew
abbrev pub originated : Database → ℕ → List ℕ → ℕ → Database
originated db router body now = with_own db router body now (next_sequence_number (kept_at db (own_key router)))
