-- Each change of a router's database and of its lists leaves them sound.
use Rattle.std.proofs.Common.{◌≡◌, ℕ, Bool, true, false, cond, ◌||◌, ◌+◌, ◌≤◌, zero, suc, List, [], ◌∷◌, length, refl, sym, ap, subst, ◌∙◌, arith}
use Rattle.std.specs.Prelude.{Option, Some, None, is_some}
use Rattle.std.specs.List.{AllByRecursion, list_any}
use Rattle.std.specs.List.Sorted.{IsStrictlySortedBy}
use Rattle.std.specs.Map.{keys_of, remove_entry}
use Rattle.std.specs.BTreeMap.{is_at}
use Rattle.std.specs.declared.cmp.Ordering.{Ordering}
use Rattle.std.specs.declared.cmp.Ordering.TheVariants.{Less, Equal, Greater}
use Rattle.std.specs.Ordering.{match_ordering}
use Rattle.std.proofs.lemmas.Map.Entries.{length-keys_of}
use Rattle.std.proofs.lemmas.Map.Made.{is_some-lookup, keys_of-map_values}
use Rattle.dn_guest.specs.Ports.{is_up}
use Rattle.ospf_lsdb.specs.declared.key.LsaKey.{LsaKey}
use Rattle.ospf_lsdb.specs.declared.kept.Kept.{Kept}
use Rattle.ospf_lsdb.specs.Keys.{key_cmp}
use Rattle.ospf_lsdb.specs.Kept.{with_max_age, reaches_max_age}
use Rattle.ospf_lsdb.specs.Database.{Database, aged, changed, kept_at, with_kept, without}
use Rattle.ospf_lsdb.proofs.DatabaseLaws.{exact_keys, key_cmp_total}
use Rattle.ospf_flood.specs.Retransmission.{OnPort, OnPorts, list_of, without_lsa, without_lsa_anywhere, last_sent, with_lsa}
use Rattle.ospf_flood.specs.Flooding.{put_from}
use Rattle.ospf_router.specs.Sound.{IsPast, IsSoundDatabase, IsSoundEntry, IsSoundList, most}
use Rattle.ospf_router.proofs.Rising.{all_more, each-insert, each-remove, finds-insert, finds-remove, is_eq-true, length-insert, length-remove, one, rises-insert, rises-remove, values-insert, values-remove}

abbrev pub Has : Database → LsaKey → Type 0
Has db q = is_some (kept_at db q) ≡ true

-- ---- how many LSAs there may be

pub most-le : (o : Option Kept) → most o ≤ 65535
most-le None = omega arith
most-le (Some k) = omega arith

pub le-most : (o : Option Kept) → 65534 ≤ most o
le-most None = omega arith
le-most (Some k) = omega arith

most-more : (o p : Option Kept) → (is_some o ≡ true → is_some p ≡ true) → most o ≤ most p
most-more None p more = le-most p
most-more (Some k) None more =
    let bad : false ≡ true = more refl in
    absurd cc
most-more (Some k) (Some j) more = omega arith

most-same : (o p : Option Kept) → is_some o ≡ is_some p → most o ≡ most p
most-same o p h = ap (λ b. cond b 65535 65534) h

-- ---- the same names

has-same : (d db : Database) (q : LsaKey) → keys_of d ≡ keys_of db → is_some (kept_at d q) ≡ is_some (kept_at db q)
has-same d db q same = is_some-lookup (is_at (key_cmp q)) d ∙ ap (list_any (is_at (key_cmp q))) same ∙ sym (is_some-lookup (is_at (key_cmp q)) db)

pub has-kept : (d db : Database) (q : LsaKey) → keys_of d ≡ keys_of db → Has db q → Has d q
has-kept d db q same h = has-same d db q same ∙ h

pub sound_same : (now : ℕ) (own : LsaKey) (d db : Database) → keys_of d ≡ keys_of db → AllByRecursion (IsSoundEntry now) d → IsSoundDatabase now own db → IsSoundDatabase now own d
sound_same now own d db same each sound =
    let many : length d ≡ length db = sym (length-keys_of d) ∙ ap length same ∙ length-keys_of db in
    let room : most (kept_at d own) ≡ most (kept_at db own) = most-same (kept_at d own) (kept_at db own) (has-same d db own same) in
    record {
      rising = subst (IsStrictlySortedBy key_cmp) (sym same) sound.rising;
      each = each;
      few = omega (arith, many, room, sound.few);
    }

-- ---- changes of one LSA

keys_by : (b : Bool) (e : LsaKey × Kept) (k : Kept) (db rest : Database) → keys_of rest ≡ keys_of db → keys_of (cond b ((e.0, k) ∷ db) (e ∷ rest)) ≡ keys_of (e ∷ db)
keys_by true e k db rest more = refl
keys_by false e k db rest more = ap (λ (ks : List LsaKey). e.0 ∷ ks) more

pub keys-changed : (key : LsaKey) (change : Kept → Kept) (db : Database) → keys_of (changed key change db) ≡ keys_of db
keys-changed key change [] = refl
keys-changed key change (e ∷ db) = keys_by (is_at (key_cmp key) e.0) e (change e.1) db (changed key change db) (keys-changed key change db)

each_by : (now : ℕ) (b : Bool) (e : LsaKey × Kept) (k : Kept) (db rest : Database) → IsSoundEntry now (e.0, k) → IsSoundEntry now e → AllByRecursion (IsSoundEntry now) db → AllByRecursion (IsSoundEntry now) rest
    → AllByRecursion (IsSoundEntry now) (cond b ((e.0, k) ∷ db) (e ∷ rest))
each_by now true e k db rest new old all more = (new, all)
each_by now false e k db rest new old all more = (old, more)

each-changed : (now : ℕ) (key : LsaKey) (change : Kept → Kept) (db : Database) → ((e : LsaKey × Kept) → IsSoundEntry now e → IsSoundEntry now (e.0, change e.1)) → AllByRecursion (IsSoundEntry now) db → AllByRecursion (IsSoundEntry now) (changed key change db)
each-changed now key change [] keeps all = tt
each-changed now key change (e ∷ db) keeps all =
    each_by now (is_at (key_cmp key) e.0) e (change e.1) db (changed key change db) (keeps e all.0) all.0 all.1 (each-changed now key change db keeps all.1)

pub sound-changed : (now : ℕ) (own key : LsaKey) (change : Kept → Kept) (db : Database) → ((e : LsaKey × Kept) → IsSoundEntry now e → IsSoundEntry now (e.0, change e.1)) → IsSoundDatabase now own db → IsSoundDatabase now own (changed key change db)
sound-changed now own key change db keeps sound =
    sound_same now own (changed key change db) db (keys-changed key change db) (each-changed now key change db keeps sound.each) sound

-- ---- aging

pub sound-with_max_age : (now : ℕ) (e : LsaKey × Kept) → IsSoundEntry now e → IsSoundEntry now (e.0, with_max_age now e.1)
sound-with_max_age now e sound = record { named = sound.named; sendable = sound.sendable; installed = omega arith; sent = sound.sent }

aged_by : (b : Bool) (now : ℕ) (e : LsaKey × Kept) → IsSoundEntry now e → IsSoundEntry now (e.0, cond b (with_max_age now e.1) e.1)
aged_by true now e sound = sound-with_max_age now e sound
aged_by false now e sound = sound

each-aged : (now : ℕ) (db : Database) → AllByRecursion (IsSoundEntry now) db → AllByRecursion (IsSoundEntry now) (aged now db)
each-aged now [] all = tt
each-aged now (e ∷ db) all = (aged_by (reaches_max_age now e.1) now e all.0, each-aged now db all.1)

pub keys-aged : (now : ℕ) (db : Database) → keys_of (aged now db) ≡ keys_of db
keys-aged now db = keys_of-map_values (λ (k : Kept). cond (reaches_max_age now k) (with_max_age now k) k) db

pub sound-aged : (own : LsaKey) (now : ℕ) (db : Database) → IsSoundDatabase now own db → IsSoundDatabase now own (aged now db)
sound-aged own now db sound = sound_same now own (aged now db) db (keys-aged now db) (each-aged now db sound.each) sound

-- ---- installation

each_put : (now : ℕ) (o : Ordering) (e : LsaKey × Kept) (db rest : Database) (key : LsaKey) (k : Kept) → key_cmp key e.0 ≡ o → IsSoundEntry now (key, k) → IsSoundEntry now e → AllByRecursion (IsSoundEntry now) db → AllByRecursion (IsSoundEntry now) rest
    → AllByRecursion (IsSoundEntry now) (match_ordering o ((key, k) ∷ e ∷ db) ((e.0, k) ∷ db) (e ∷ rest))
each_put now Less e db rest key k t new old all more = (new, (old, all))
each_put now Equal e db rest key k t new old all more = (subst (λ (x : LsaKey). IsSoundEntry now (x, k)) (exact_keys key e.0 t) new, all)
each_put now Greater e db rest key k t new old all more = (old, more)

each-with : (now : ℕ) (db : Database) (key : LsaKey) (k : Kept) → IsSoundEntry now (key, k) → AllByRecursion (IsSoundEntry now) db → AllByRecursion (IsSoundEntry now) (with_kept db key k)
each-with now [] key k new all = (new, tt)
each-with now (e ∷ db) key k new all =
    each_put now (key_cmp key e.0) e db (with_kept db key k) key k refl new all.0 all.1 (each-with now db key k new all.1)

-- how many there are with an LSA that was there, or came where there was room, or is the router's own
room_by : (b : Bool) (many more room : ℕ) → more + one b ≡ many + 1 → many ≤ 65535 → many ≤ room → (b ≡ false → more ≤ room) → more ≤ room
unfolding one
room_by true many more room count few fits new = omega (arith, count, fits)
room_by false many more room count few fits new = new refl

room_new : (b : Bool) (many more : ℕ) → more + one b ≡ many + 1 → b ≡ false → more ≡ many + 1
unfolding one
room_new true many more count new = absurd cc
room_new false many more count new = omega (arith, count)

pub sound-with : (now : ℕ) (own key : LsaKey) (k : Kept) (db : Database) → IsSoundEntry now (key, k) → (is_some (kept_at db key) ≡ false → length db + 1 ≤ most (kept_at (with_kept db key k) own)) → IsSoundDatabase now own db → IsSoundDatabase now own (with_kept db key k)
sound-with now own key k db new free sound =
    let count = length-insert key_cmp_total db key k sound.rising in
    let room : most (kept_at db own) ≤ most (kept_at (with_kept db key k) own) = most-more (kept_at db own) (kept_at (with_kept db key k) own) (finds-insert key_cmp db key k own) in
    record {
      rising = rises-insert key_cmp_total db key k sound.rising;
      each = each-with now db key k new sound.each;
      few = room_by (is_some (kept_at db key)) (length db) (length (with_kept db key k)) (most (kept_at (with_kept db key k) own)) count
          (omega (arith, sound.few, most-le (kept_at db own))) (omega (arith, sound.few, room))
          (λ none. omega (arith, room_new (is_some (kept_at db key)) (length db) (length (with_kept db key k)) count none, free none));
    }

-- ---- removal

each_left : (now : ℕ) (b : Bool) (e : LsaKey × Kept) (db rest : Database) → IsSoundEntry now e → AllByRecursion (IsSoundEntry now) db → AllByRecursion (IsSoundEntry now) rest → AllByRecursion (IsSoundEntry now) (cond b db (e ∷ rest))
each_left now true e db rest old all more = all
each_left now false e db rest old all more = (old, more)

each-without : (now : ℕ) (test : LsaKey → Bool) (db : Database) → AllByRecursion (IsSoundEntry now) db → AllByRecursion (IsSoundEntry now) (remove_entry test db)
each-without now test [] all = tt
each-without now test (e ∷ db) all = each_left now (test e.0) e db (remove_entry test db) all.0 all.1 (each-without now test db all.1)

left_own : (o : Option Kept) (many less : ℕ) → less + one (is_some o) ≡ many → many ≤ most o → less ≤ 65534
unfolding one
left_own None many less count few = omega (arith, count, few)
left_own (Some k) many less count few = omega (arith, count, few)

left_by : (now : ℕ) (b : Bool) (own key : LsaKey) (db : Database) → is_at (key_cmp key) own ≡ b → IsSoundDatabase now own db → length (without db key) ≤ most (kept_at (without db key) own)
left_by now true own key db t sound =
    let same : key ≡ own = exact_keys key own (is_eq-true (key_cmp key own) t) in
    let count : length (without db key) + one (is_some (kept_at db own)) ≡ length db = subst (λ (x : LsaKey). length (without db key) + one (is_some (kept_at db x)) ≡ length db) same (length-remove (is_at (key_cmp key)) db) in
    omega (arith, left_own (kept_at db own) (length db) (length (without db key)) count sound.few, le-most (kept_at (without db key) own))
left_by now false own key db t sound =
    let room : most (kept_at db own) ≤ most (kept_at (without db key) own) = most-more (kept_at db own) (kept_at (without db key) own) (finds-remove key_cmp_total db key own t) in
    omega (arith, length-remove (is_at (key_cmp key)) db, sound.few, room)

pub sound-without : (now : ℕ) (own key : LsaKey) (db : Database) → IsSoundDatabase now own db → IsSoundDatabase now own (without db key)
sound-without now own key db sound = record {
  rising = rises-remove key_cmp (is_at (key_cmp key)) db sound.rising;
  each = each-without now (is_at (key_cmp key)) db sound.each;
  few = left_by now (is_at (key_cmp key) own) own key db refl sound;
}

-- ---- lists

pub lists_more : (now : ℕ) (db d : Database) (ls : OnPorts) → ((q : LsaKey) → Has db q → Has d q) → AllByRecursion (IsSoundList now db) ls → AllByRecursion (IsSoundList now d) ls
lists_more now db d ls more all =
    all_more (IsSoundList now db) (IsSoundList now d) (λ l sound. record { rising = sound.rising; kept = all_more (Has db) (Has d) more (keys_of l) sound.kept; sent = sound.sent }) ls all

pub empty_list : (now : ℕ) (db : Database) → IsSoundList now db []
unfolding IsStrictlySortedBy
empty_list now db = record { rising = tt; kept = tt; sent = tt }

-- an LSA is put on the list now
pub with_list : (now : ℕ) (db : Database) (l : OnPort) (key : LsaKey) → Has db key → IsSoundList now db l → IsSoundList now db (with_lsa l key now)
with_list now db l key has sound = record {
  rising = rises-insert key_cmp_total l key now sound.rising;
  kept = each-insert key_cmp (Has db) l key now has sound.kept;
  sent = values-insert key_cmp (λ tick. tick ≤ now) l key now (omega arith) sound.sent;
}

pub off_list : (now : ℕ) (db : Database) (key : LsaKey) (l : OnPort) → IsSoundList now db l → IsSoundList now db (without_lsa key l)
off_list now db key l sound = record {
  rising = rises-remove key_cmp (is_at (key_cmp key)) l sound.rising;
  kept = each-remove (Has db) (is_at (key_cmp key)) l sound.kept;
  sent = values-remove (λ tick. tick ≤ now) (is_at (key_cmp key)) l sound.sent;
}

put_by : (b : Bool) (now : ℕ) (db : Database) (l : OnPort) (key : LsaKey) → Has db key → IsSoundList now db l → IsSoundList now db (cond b (with_lsa l key now) l)
put_by true now db l key has sound = with_list now db l key has sound
put_by false now db l key has sound = sound

pub put_lists : (now : ℕ) (db : Database) (p ports : ℕ) (key : LsaKey) (ls : OnPorts) → Has db key → AllByRecursion (IsSoundList now db) ls → AllByRecursion (IsSoundList now db) (put_from p ports key now ls)
put_lists now db p ports key [] has all = tt
put_lists now db p ports key (l ∷ ls) has all = (put_by (is_up ports p) now db l key has all.0, put_lists now db (p + 1) ports key ls has all.1)

pub off_lists : (now : ℕ) (db : Database) (key : LsaKey) (ls : OnPorts) → AllByRecursion (IsSoundList now db) ls → AllByRecursion (IsSoundList now db) (without_lsa_anywhere key ls)
off_lists now db key [] all = tt
off_lists now db key (l ∷ ls) all = (off_list now db key l all.0, off_lists now db key ls all.1)

pub list_at : (now : ℕ) (db : Database) (ls : OnPorts) (port : ℕ) → AllByRecursion (IsSoundList now db) ls → IsSoundList now db (list_of ls port)
list_at now db [] port all = empty_list now db
list_at now db (l ∷ ls) zero all = all.0
list_at now db (l ∷ ls) (suc port) all = list_at now db ls port all.1

-- ---- what is so at a tick is so at a later one

pub past_later : (now later : ℕ) (tick : Option ℕ) → now ≤ later → IsPast now tick → IsPast later tick
past_later now later None le past = tt
past_later now later (Some t) le past = omega (arith, le, past)

entry_later : (now later : ℕ) → now ≤ later → (e : LsaKey × Kept) → IsSoundEntry now e → IsSoundEntry later e
entry_later now later le e sound = record { named = sound.named; sendable = sound.sendable; installed = omega (arith, le, sound.installed); sent = past_later now later e.1.sent le sound.sent }

pub database_later : (now later : ℕ) (own : LsaKey) (db : Database) → now ≤ later → IsSoundDatabase now own db → IsSoundDatabase later own db
database_later now later own db le sound = record { rising = sound.rising; each = all_more (IsSoundEntry now) (IsSoundEntry later) (entry_later now later le) db sound.each; few = sound.few }

pub lists_later : (now later : ℕ) (db : Database) (ls : OnPorts) → now ≤ later → AllByRecursion (IsSoundList now db) ls → AllByRecursion (IsSoundList later db) ls
lists_later now later db ls le all =
    all_more (IsSoundList now db) (IsSoundList later db)
    (λ l sound. record { rising = sound.rising; kept = sound.kept; sent = all_more (λ (e : LsaKey × ℕ). e.1 ≤ now) (λ (e : LsaKey × ℕ). e.1 ≤ later) (λ e early. omega (arith, le, early)) l sound.sent }) ls all

-- ---- what stands on no list may be removed

or_none : (x y : Bool) → (x || y) ≡ false → (x ≡ false) × (y ≡ false)
or_none true y h = absurd cc
or_none false y h = (refl, h)

keys_left : (db : Database) (key : LsaKey) (ks : List LsaKey) → list_any (is_at (key_cmp key)) ks ≡ false → AllByRecursion (Has db) ks → AllByRecursion (Has (without db key)) ks
keys_left db key [] away all = tt
keys_left db key (k ∷ ks) away all =
    let none = or_none (is_at (key_cmp key) k) (list_any (is_at (key_cmp key)) ks) away in
    (finds-remove key_cmp_total db key k none.0 all.0, keys_left db key ks none.1 all.1)

list_left : (now : ℕ) (db : Database) (key : LsaKey) (l : OnPort) → is_some (last_sent l key) ≡ false → IsSoundList now db l → IsSoundList now (without db key) l
list_left now db key l away sound = record {
  rising = sound.rising;
  kept = keys_left db key (keys_of l) (sym (is_some-lookup (is_at (key_cmp key)) l) ∙ away) sound.kept;
  sent = sound.sent;
}

pub lists_left : (now : ℕ) (db : Database) (key : LsaKey) (ls : OnPorts) → list_any (λ (l : OnPort). is_some (last_sent l key)) ls ≡ false → AllByRecursion (IsSoundList now db) ls → AllByRecursion (IsSoundList now (without db key)) ls
lists_left now db key [] away all = tt
lists_left now db key (l ∷ ls) away all =
    let none = or_none (is_some (last_sent l key)) (list_any (λ (x : OnPort). is_some (last_sent x key)) ls) away in
    (list_left now db key l none.0 all.0, lists_left now db key ls none.1 all.1)
