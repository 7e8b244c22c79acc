-- What flooding an LSA and receiving one do to a database and its lists leaves them sound.
use Rattle.std.proofs.Common.{◌≡◌, ℕ, Bool, true, false, cond, not, ◌&&◌, ◌||◌, ◌≤◌, length, refl, ◌∙◌, arith}
use Rattle.std.specs.Prelude.{Option, Some, None, is_some, ◌==◌, nat_le}
use Rattle.std.specs.Option.{is_none}
use Rattle.std.specs.List.{AllByRecursion}
use Rattle.std.specs.Map.{keys_of}
use Rattle.std.proofs.lemmas.Bool.Decides.{nat_tests}
use Rattle.std.proofs.lemmas.List.{length-map, length-set}
use Rattle.dn_guest.specs.Ports.{with_down}
use Rattle.ospf_wire.specs.declared.lsa.Lsa.{Lsa}
use Rattle.ospf_lsdb.specs.declared.key.LsaKey.{LsaKey}
use Rattle.ospf_lsdb.specs.declared.kept.Kept.{Kept}
use Rattle.ospf_lsdb.specs.Keys.{key_cmp, key_of}
use Rattle.ospf_lsdb.specs.Kept.{with_max_age, fresh, sent_at}
use Rattle.ospf_lsdb.specs.Database.{Database, changed, kept_at, with_kept}
use Rattle.ospf_flood.specs.declared.verdict.Verdict.{Verdict}
use Rattle.ospf_flood.specs.declared.verdict.Verdict.TheVariants.{Discarded, Acked, Installed, SentBack, Implied}
use Rattle.ospf_flood.specs.Retransmission.{list_of, without_lsa, without_lsa_anywhere, last_sent}
use Rattle.ospf_flood.specs.Flooding.{State, flooded, note_flooded}
use Rattle.ospf_flood.specs.Verdicts.{receive_table, has_right_sum, is_router_lsa, verdict_of}
use Rattle.ospf_flood.specs.Receiving.{apply_verdict, flushed, installed, is_own_router_lsa, is_other_self_originated, received, flood_received, to_install}
use Rattle.ospf_lsdb.proofs.DatabaseLaws.{key_cmp_total}
use Rattle.ospf_router.specs.Sound.{IsSoundDatabase, IsSoundEntry, IsSoundList}
use Rattle.ospf_router.specs.BuildUpdates.{is_sendable}
use Rattle.ospf_router.proofs.Choice.{choose}
use Rattle.ospf_router.proofs.Lengths.{length-flooded}
use Rattle.ospf_router.proofs.Rising.{each-set, finds-insert, finds-new}
use Rattle.ospf_router.proofs.Database.{Has, has-kept, keys-changed, le-most, list_at, lists_more, off_list, off_lists, put_lists, sound-with_max_age, sound-changed, sound-with}

-- a database and its lists at a tick, so many of them
pub record IsSound (now : ℕ) (own : LsaKey) (many : ℕ) (s : State) : Type 0 where
  pub database : IsSoundDatabase now own s.db
  pub listed : AllByRecursion (IsSoundList now s.db) s.lists
  pub count : length s.lists ≡ many

pub sound-sent_at : (now : ℕ) (e : LsaKey × Kept) → IsSoundEntry now e → IsSoundEntry now (e.0, sent_at now e.1)
sound-sent_at now e sound = record { named = sound.named; sendable = sound.sendable; installed = sound.installed; sent = omega arith }

-- ---- flooding

pub keys-note_flooded : (mask now : ℕ) (key : LsaKey) (db : Database) → keys_of (note_flooded mask key now db) ≡ keys_of db
keys-note_flooded mask now key db =
    choose (λ (d : Database). keys_of d ≡ keys_of db) (mask == 0) db (changed key (sent_at now) db) (λ _. refl) (λ _. keys-changed key (sent_at now) db)

sound-note_flooded : (own key : LsaKey) (mask now : ℕ) (db : Database) → IsSoundDatabase now own db → IsSoundDatabase now own (note_flooded mask key now db)
sound-note_flooded own key mask now db sound =
    choose (IsSoundDatabase now own) (mask == 0) db (changed key (sent_at now) db) (λ _. sound) (λ _. sound-changed now own key (sent_at now) db (sound-sent_at now) sound)

pub sound-flooded : (own key : LsaKey) (many mask now : ℕ) (s : State) → Has s.db key → IsSound now own many s → IsSound now own many (flooded mask key now s)
sound-flooded own key many mask now s has sound =
    let kept : (q : LsaKey) → Has s.db q → Has (note_flooded mask key now s.db) q = λ q h. has-kept (note_flooded mask key now s.db) s.db q (keys-note_flooded mask now key s.db) h in
    record {
      database = sound-note_flooded own key mask now s.db sound.database;
      listed = put_lists now (note_flooded mask key now s.db) 0 mask key s.lists (kept key has) (lists_more now s.db (note_flooded mask key now s.db) s.lists kept sound.listed);
      count = length-flooded mask key now s ∙ sound.count;
    }

-- ---- what is installed

sound-fresh : (l : Lsa) (now : ℕ) (foreign : Bool) → is_sendable l ≡ true → IsSoundEntry now (key_of l.head, fresh (to_install l) now true foreign)
sound-fresh l now foreign sendable = record { named = refl; sendable = sendable; installed = omega arith; sent = tt }

placed : (s : State) (l : Lsa) (now : ℕ) (foreign : Bool) → State
placed s l now foreign = record { db = with_kept s.db (key_of l.head) (fresh (to_install l) now true foreign); lists = without_lsa_anywhere (key_of l.head) s.lists }

sound-placed : (own : LsaKey) (many : ℕ) (s : State) (l : Lsa) (now : ℕ) (foreign : Bool) → is_sendable l ≡ true → (is_some (kept_at s.db (key_of l.head)) ≡ false → length s.db ≤ 65533) → IsSound now own many s → IsSound now own many (placed s l now foreign)
unfolding placed
sound-placed own many s l now foreign sendable room sound =
    let key = key_of l.head in
    let k : Kept = fresh (to_install l) now true foreign in
    let kept : (q : LsaKey) → Has s.db q → Has (with_kept s.db key k) q = λ q h. finds-insert key_cmp s.db key k q h in
    record {
      database = sound-with now own key k s.db (sound-fresh l now foreign sendable) (λ none. omega (arith, room none, le-most (kept_at (with_kept s.db key k) own))) sound.database;
      listed = off_lists now (with_kept s.db key k) key s.lists (lists_more now s.db (with_kept s.db key k) s.lists kept sound.listed);
      count = length-map s.lists (without_lsa key) ∙ sound.count;
    }

sound-flood_received : (own : LsaKey) (many : ℕ) (s : State) (full from : ℕ) (l : Lsa) (id now : ℕ) → is_sendable l ≡ true → (is_some (kept_at s.db (key_of l.head)) ≡ false → length s.db ≤ 65533) → IsSound now own many s
    → IsSound now own many (flood_received s full from l id now)
unfolding placed
sound-flood_received own many s full from l id now sendable room sound =
    sound-flooded own (key_of l.head) many (with_down full from) now (placed s l now (is_own_router_lsa l id))
    (finds-new key_cmp_total s.db (key_of l.head) (fresh (to_install l) now true (is_own_router_lsa l id)))
    (sound-placed own many s l now (is_own_router_lsa l id) sendable room sound)

has-flood_received : (s : State) (full from : ℕ) (l : Lsa) (id now : ℕ) → Has (flood_received s full from l id now).db (key_of l.head)
has-flood_received s full from l id now =
    let k : Kept = fresh (to_install l) now true (is_own_router_lsa l id) in
    has-kept (flood_received s full from l id now).db (with_kept s.db (key_of l.head) k) (key_of l.head)
    (keys-note_flooded (with_down full from) now (key_of l.head) (with_kept s.db (key_of l.head) k)) (finds-new key_cmp_total s.db (key_of l.head) k)

age_lsas : (now : ℕ) (key : LsaKey) (s : State) → State
age_lsas now key s = record s { db = changed key (with_max_age now) s.db }

sound-age_lsas : (own key : LsaKey) (many now : ℕ) (s : State) → IsSound now own many s → IsSound now own many (age_lsas now key s)
unfolding age_lsas
sound-age_lsas own key many now s sound = record {
  database = sound-changed now own key (with_max_age now) s.db (sound-with_max_age now) sound.database;
  listed = lists_more now s.db (changed key (with_max_age now) s.db) s.lists (λ q h. has-kept (changed key (with_max_age now) s.db) s.db q (keys-changed key (with_max_age now) s.db) h) sound.listed;
  count = sound.count;
}

sound-flushed : (own key : LsaKey) (many full now : ℕ) (s : State) → Has s.db key → IsSound now own many s → IsSound now own many (flushed s full key now)
unfolding age_lsas
sound-flushed own key many full now s has sound =
    sound-flooded own key many full now (age_lsas now key s) (has-kept (changed key (with_max_age now) s.db) s.db key (keys-changed key (with_max_age now) s.db) has) (sound-age_lsas own key many now s sound)

sound-installed : (own : LsaKey) (many : ℕ) (s : State) (full from : ℕ) (l : Lsa) (id now : ℕ) → is_sendable l ≡ true → (is_some (kept_at s.db (key_of l.head)) ≡ false → length s.db ≤ 65533) → IsSound now own many s
    → IsSound now own many (installed s full from l id now)
sound-installed own many s full from l id now sendable room sound =
    let here = sound-flood_received own many s full from l id now sendable room sound in
    choose (IsSound now own many) (is_other_self_originated l id) (flushed (flood_received s full from l id now) full (key_of l.head) now) (flood_received s full from l id now)
    (λ _. sound-flushed own (key_of l.head) many full now (flood_received s full from l id now) (has-flood_received s full from l id now) here) (λ _. here)

-- ---- by the verdict

sound-apply_verdict : (v : Verdict) (own : LsaKey) (many : ℕ) (s : State) (full from : ℕ) (l : Lsa) (id now : ℕ) → is_sendable l ≡ true → (v ≡ Installed → is_some (kept_at s.db (key_of l.head)) ≡ false → length s.db ≤ 65533)
    → IsSound now own many s → IsSound now own many (apply_verdict v s full from l id now)
sound-apply_verdict Discarded own many s full from l id now sendable room sound = sound
sound-apply_verdict Acked own many s full from l id now sendable room sound = sound
sound-apply_verdict Installed own many s full from l id now sendable room sound = sound-installed own many s full from l id now sendable (room refl) sound
sound-apply_verdict SentBack own many s full from l id now sendable room sound = record {
  database = sound-changed now own (key_of l.head) (sent_at now) s.db (sound-sent_at now) sound.database;
  listed = lists_more now s.db (changed (key_of l.head) (sent_at now) s.db) s.lists (λ q h. has-kept (changed (key_of l.head) (sent_at now) s.db) s.db q (keys-changed (key_of l.head) (sent_at now) s.db) h) sound.listed;
  count = sound.count;
}
sound-apply_verdict Implied own many s full from l id now sendable room sound = record {
  database = sound.database;
  listed = each-set (IsSoundList now s.db) s.lists from (without_lsa (key_of l.head) (list_of s.lists from)) (off_list now s.db (key_of l.head) (list_of s.lists from) (list_at now s.db s.lists from sound.listed)) sound.listed;
  count = length-set s.lists from (without_lsa (key_of l.head) (list_of s.lists from)) ∙ sound.count;
}

-- what is installed where there is no copy comes where there is room
passed : (right router full : Bool) (rest : Verdict) → cond (not right) Discarded (cond (not router || full) Discarded rest) ≡ Installed → full ≡ false
passed false router full rest h = absurd cc
passed true false full rest h = absurd cc
passed true true true rest h = absurd cc
passed true true false rest h = refl

room_left : (o : Option Kept) (count : ℕ) → (is_none o && nat_le 65534 count) ≡ false → is_some o ≡ false → count ≤ 65533
room_left None count h none = grind (arith, nat_tests)
room_left (Some k) count h none = absurd cc

table_room : (l : Lsa) (now : ℕ) (copy : Option Kept) (count : ℕ) (listed : Bool) → receive_table l now copy count listed ≡ Installed → is_some copy ≡ false → count ≤ 65533
table_room l now copy count listed h none =
    room_left copy count (passed (has_right_sum l) (is_router_lsa l) (is_none copy && nat_le 65534 count) _ h) none

pub sound-received : (own : LsaKey) (many : ℕ) (s : State) (full from : ℕ) (l : Lsa) (id now : ℕ) → is_sendable l ≡ true → IsSound now own many s → IsSound now own many (received s full from l id now)
sound-received own many s full from l id now sendable sound =
    sound-apply_verdict (verdict_of s.db (list_of s.lists from) l now) own many s full from l id now sendable
    (table_room l now (kept_at s.db (key_of l.head)) (length s.db) (is_some (last_sent (list_of s.lists from) (key_of l.head)))) sound
