-- After every step each LSA of age MaxAge stands on a retransmission list.
use Rattle.std.proofs.Common.{◌≡◌, ◌≢◌, ◌⊎◌, inl, inr, ℕ, Bool, true, false, cond, ◌&&◌, ◌==◌, List, [], ◌∷◌, Option, Some, None, refl, sym, ap, subst, ◌∙◌}
use Rattle.std.specs.Prelude.{filter, fold}
use Rattle.std.specs.List.{AllByRecursion}
use Rattle.std.specs.List.Sorted.{IsStrictlySortedBy}
use Rattle.std.specs.Map.{keys_of}
use Rattle.std.specs.BTreeMap.{is_at}
use Rattle.std.specs.Ordering.{is_eq}
use Rattle.std.proofs.lemmas.Bool.{cases_Bool}
use Rattle.std.proofs.lemmas.Bool.Decides.{Decides-eqb}
use Rattle.std.proofs.lemmas.Option.{none-some, same_Some}
use Rattle.dn_guest.specs.declared.input.Input.{Input}
use Rattle.ospf_lsdb.specs.declared.key.LsaKey.{LsaKey}
use Rattle.ospf_lsdb.specs.declared.kept.Kept.{Kept}
use Rattle.ospf_lsdb.specs.Keys.{key_cmp, own_key}
use Rattle.ospf_lsdb.specs.Kept.{age_of, fresh}
use Rattle.ospf_lsdb.specs.Database.{Database, kept_at, max_age_lsas, next_sequence_number, own_lsa, with_own, without}
use Rattle.ospf_lsdb.proofs.DatabaseLaws.{at_same, key_cmp_total, same_key}
use Rattle.ospf_lsdb.proofs.Lookups.{removed_elsewhere, removed_here}
use Rattle.ospf_router.specs.declared.router.Router.{Router}
use Rattle.ospf_router.specs.Interfaces.{AtPorts, full_mask, is_listed}
use Rattle.ospf_router.specs.Flooding.{flood_lsa}
use Rattle.ospf_router.specs.Origination.{finish_step, has_next_sequence_number, is_outdated, may_originate, originate_if_needed, originate_own_lsa, remove_max_age_lsa, remove_max_age_lsas, wanted_body}
use Rattle.ospf_router.specs.Sound.{HasBytes, IsSoundState, ospf_run}
use Rattle.ospf_router.specs.State.{OspfState, Prefix, id_of, opening, router_of, state_of}
use Rattle.ospf_router.specs.Step.{handled, is_passed_over, next, ospf_after, stepped}
use Rattle.ospf_router.proofs.Received.{keys-note_flooded}
use Rattle.ospf_router.proofs.Rising.{rises-insert, rises-remove}
use Rattle.ospf_laws.specs.Left.{HasOnlyListedOfMaxAge}
use Rattle.ospf_laws.proofs.Choice.{choose}

abbrev pub Rises : Database → Type 0
Rises db = IsStrictlySortedBy key_cmp (keys_of db)

-- ---- two names

other_key : (m n : LsaKey) → is_at (key_cmp m) n ≡ false → m ≢ n
other_key m n f e =
    let itself : is_at (key_cmp m) m ≡ true = ap is_eq (same_key m) in
    let same : is_at (key_cmp m) n ≡ true = subst (λ (k : LsaKey). is_at (key_cmp m) k ≡ true) e itself in
    let both : true ≡ false = sym same ∙ f in
    absurd cc

pub same_or_other : (m n : LsaKey) → (m ≡ n) ⊎ (m ≢ n)
same_or_other m n = elim (cases_Bool (is_at (key_cmp m) n)) [
  | inl t ↦ inl (at_same m n t)
  | inr f ↦ inr (other_key m n f)
]

-- ---- the names of the LSAs that pass a test

-- the name is one of these
abbrev Among : LsaKey → List LsaKey → Type 0
Among key [] = ⊥
Among key (k ∷ ks) = (key ≡ k) ⊎ Among key ks

among_later : (b : Bool) (key : LsaKey) (e : LsaKey × Kept) (rest : Database) → Among key (keys_of rest) → Among key (keys_of (cond b (e ∷ rest) rest))
among_later true key e rest more = inr more
among_later false key e rest more = more

among_by : (b : Bool) (test : Kept → Bool) (key : LsaKey) (e : LsaKey × Kept) (db : Database) (k : Kept) → is_at (key_cmp key) e.0 ≡ b → test k ≡ true
    → kept_at (e ∷ db) key ≡ Some k → (kept_at db key ≡ Some k → Among key (keys_of (filter (λ (x : LsaKey × Kept). test x.1) db)))
    → Among key (keys_of (filter (λ (x : LsaKey × Kept). test x.1) (e ∷ db)))
among_by true test key e db k t passing found more =
    let here : Some e.1 ≡ Some k = rw t at found in
    let passes : test e.1 ≡ true = ap test (same_Some e.1 k here) ∙ passing in
    rw passes (inl (at_same key e.0 t))
among_by false test key e db k t passing found more =
    let there : kept_at db key ≡ Some k = rw t at found in
    among_later (test e.1) key e (filter (λ (x : LsaKey × Kept). test x.1) db) (more there)

among : (test : Kept → Bool) (db : Database) (key : LsaKey) (k : Kept) → test k ≡ true → kept_at db key ≡ Some k → Among key (keys_of (filter (λ (x : LsaKey × Kept). test x.1) db))
among test [] key k passing found = absurd cc
among test (e ∷ db) key k passing found = among_by (is_at (key_cmp key) e.0) test key e db k refl passing found (among test db key k passing)

-- ---- one removal

rises-one : (a : AtPorts) (db : Database) (q : LsaKey) → Rises db → Rises (remove_max_age_lsa a db q)
rises-one a db q up = choose Rises (is_listed q a) db (without db q) (λ _. up) (λ _. rises-remove key_cmp (is_at (key_cmp q)) db up)

none-without : (db : Database) (q key : LsaKey) → Rises db → kept_at db key ≡ None → kept_at (without db q) key ≡ None
none-without db q key up none = elim (same_or_other q key) [
  | inl same ↦ subst (λ (m : LsaKey). kept_at (without db q) m ≡ None) same (removed_here db q up)
  | inr differ ↦ removed_elsewhere db q key differ ∙ none
]

none-one : (a : AtPorts) (db : Database) (q key : LsaKey) → Rises db → kept_at db key ≡ None → kept_at (remove_max_age_lsa a db q) key ≡ None
none-one a db q key up none = choose (λ (d : Database). kept_at d key ≡ None) (is_listed q a) db (without db q) (λ _. none) (λ _. none-without db q key up none)

some-without : (db : Database) (q key : LsaKey) (k : Kept) → Rises db → kept_at (without db q) key ≡ Some k → kept_at db key ≡ Some k
some-without db q key k up found = elim (same_or_other q key) [
  | inl same ↦
      let gone : kept_at (without db q) key ≡ None = subst (λ (m : LsaKey). kept_at (without db q) m ≡ None) same (removed_here db q up) in
      absurd (none-some k (sym gone ∙ found))
  | inr differ ↦ sym (removed_elsewhere db q key differ) ∙ found
]

some-one : (a : AtPorts) (db : Database) (q key : LsaKey) (k : Kept) → Rises db → kept_at (remove_max_age_lsa a db q) key ≡ Some k → kept_at db key ≡ Some k
some-one a db q key k up =
    choose (λ (d : Database). kept_at d key ≡ Some k → kept_at db key ≡ Some k) (is_listed q a) db (without db q) (λ _ found. found) (λ _ found. some-without db q key k up found)

gone-one : (a : AtPorts) (db : Database) (key : LsaKey) → Rises db → is_listed key a ≡ false → kept_at (remove_max_age_lsa a db key) key ≡ None
gone-one a db key up away = rw away (removed_here db key up)

-- ---- all removals

none-each : (a : AtPorts) (ks : List LsaKey) (db : Database) (key : LsaKey) → Rises db → kept_at db key ≡ None → kept_at (fold (remove_max_age_lsa a) db ks) key ≡ None
none-each a [] db key up none = none
none-each a (q ∷ ks) db key up none = none-each a ks (remove_max_age_lsa a db q) key (rises-one a db q up) (none-one a db q key up none)

pub some-each : (a : AtPorts) (ks : List LsaKey) (db : Database) (key : LsaKey) (k : Kept) → Rises db → kept_at (fold (remove_max_age_lsa a) db ks) key ≡ Some k → kept_at db key ≡ Some k
some-each a [] db key k up found = found
some-each a (q ∷ ks) db key k up found = some-one a db q key k up (some-each a ks (remove_max_age_lsa a db q) key k (rises-one a db q up) found)

gone-each : (a : AtPorts) (ks : List LsaKey) (db : Database) (key : LsaKey) → Rises db → is_listed key a ≡ false → Among key ks → kept_at (fold (remove_max_age_lsa a) db ks) key ≡ None
gone-each a [] db key up away among = absurd among
gone-each a (q ∷ ks) db key up away (inl same) =
    none-each a ks (remove_max_age_lsa a db q) key (rises-one a db q up)
    (subst (λ (m : LsaKey). kept_at (remove_max_age_lsa a db m) key ≡ None) same (gone-one a db key up away))
gone-each a (q ∷ ks) db key up away (inr later) = gone-each a ks (remove_max_age_lsa a db q) key (rises-one a db q up) away later

listed_by : (b : Bool) (a : AtPorts) (now : ℕ) (db : Database) (key : LsaKey) (k : Kept) → is_listed key a ≡ b → Rises db
    → kept_at (fold (remove_max_age_lsa a) db (max_age_lsas now db)) key ≡ Some k → age_of now k ≡ 3600 → is_listed key a ≡ true
listed_by true a now db key k t up found old = t
listed_by false a now db key k t up found old =
    let there = some-each a (max_age_lsas now db) db key k up found in
    let test : (age_of now k == 3600) ≡ true = (Decides-eqb (age_of now k) 3600).1 old in
    let gone = gone-each a (max_age_lsas now db) db key up t (among (λ (x : Kept). age_of now x == 3600) db key k test there) in
    absurd (none-some k (sym gone ∙ found))

-- ---- the order of the database at the end of a step

rises-with_own : (seq : Option ℕ) (db : Database) (router : ℕ) (body : List ℕ) (now : ℕ) → Rises db → Rises (with_own db router body now seq)
rises-with_own None db router body now up = up
rises-with_own (Some seq) db router body now up = rises-insert key_cmp_total db (own_key router) (fresh (own_lsa router seq body) now false false) up

pub rises-originate : (full : ℕ) (wanted : List ℕ) (r : Router) → Rises r.db → Rises (originate_own_lsa full wanted r).db
unfolding originate_own_lsa flood_lsa
rises-originate full wanted r up =
    let seq = next_sequence_number (kept_at r.db (own_key (id_of r))) in
    subst (λ (ks : List LsaKey). IsStrictlySortedBy key_cmp ks)
    (sym (keys-note_flooded full r.tick (own_key (id_of r)) (with_own r.db (id_of r) wanted r.tick seq)))
    (rises-with_own seq r.db (id_of r) wanted r.tick up)

pub rises-originate_if_needed : (ports : ℕ) (r : Router) → Rises r.db → Rises (originate_if_needed ports r).db
unfolding originate_if_needed
rises-originate_if_needed ports r up =
    let own = kept_at r.db (own_key (id_of r)) in
    let wanted = wanted_body ports r in
    choose (λ (t : Router). Rises t.db) (may_originate r.tick r.originated && is_outdated r.tick wanted own && has_next_sequence_number own)
    (originate_own_lsa (full_mask ports r.interfaces) wanted r) r
    (λ _. rises-originate (full_mask ports r.interfaces) wanted r up) (λ _. up)

-- ---- a step

left-removed : (r : Router) → Rises r.db → HasOnlyListedOfMaxAge (state_of (remove_max_age_lsas r))
unfolding remove_max_age_lsas
left-removed r up = λ key k found old. listed_by (is_listed key r.interfaces) r.interfaces r.tick r.db key k refl up found old

left-finish_step : (ports : ℕ) (r : Router) → Rises r.db → HasOnlyListedOfMaxAge (state_of (finish_step ports r))
unfolding finish_step
left-finish_step ports r up = left-removed (originate_if_needed ports r) (rises-originate_if_needed ports r up)

-- what the law `sound_parts` says of the middle of a step
abbrev pub SoundHandled : Type 0
SoundHandled = (r : Router) (ports : ℕ) (i : Input) → HasBytes i → is_passed_over r.tick i ≡ false → IsSoundState (state_of r) → IsSoundState (state_of (handled ports i r))

pub left-step : (c : SoundHandled) (s : OspfState) (ports : ℕ) (i : Input) → HasBytes i → IsSoundState s → HasOnlyListedOfMaxAge s → HasOnlyListedOfMaxAge (ospf_after s ports i)
unfolding ospf_after next stepped
left-step c s ports i bytes sound before =
    choose (λ (t : Router). HasOnlyListedOfMaxAge (state_of t)) (is_passed_over s.tick i) (router_of s) (finish_step ports (handled ports i (router_of s)))
    (λ _. before)
    (λ here. left-finish_step ports (handled ports i (router_of s)) (c (router_of s) ports i bytes here sound).database.rising)

abbrev pub SoundStep : Type 0
SoundStep = (s : OspfState) (ports : ℕ) (i : Input) → HasBytes i → IsSoundState s → IsSoundState (ospf_after s ports i)

pub left-run : (c : SoundHandled) (d : SoundStep) (s : OspfState) (es : List (ℕ × Input)) → AllByRecursion (λ (e : ℕ × Input). HasBytes e.1) es → IsSoundState s
    → HasOnlyListedOfMaxAge s → HasOnlyListedOfMaxAge (ospf_run s es)
left-run c d s [] all sound before = before
left-run c d s (e ∷ es) all sound before =
    left-run c d (ospf_after s e.0 e.1) es all.1 (d s e.0 e.1 all.0 sound) (left-step c s e.0 e.1 all.0 sound before)

pub left-opening : (number : ℕ) (costs : List ℕ) (prefixes : List Prefix) → HasOnlyListedOfMaxAge (opening number costs prefixes)
left-opening number costs prefixes = λ key k found old. absurd (none-some k found)
