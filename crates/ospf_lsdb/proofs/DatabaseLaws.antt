-- The order of names. Each change of the database keeps each LSA at its own name, and what is written through a look-up is a change.
use Rattle.std.proofs.Common.{◌≡◌, ℕ, Bool, true, false, cond, [], ◌∷◌, Bor, refl, sym, ap, ◌∙◌}
use Rattle.std.specs.Prelude.{Option, Some, None, IfSome, option_copied}
use Rattle.std.specs.Map.{set_value}
use Rattle.std.specs.BTreeMap.{is_at}
use Rattle.std.specs.declared.cmp.Ordering.{Ordering}
use Rattle.std.specs.declared.cmp.Ordering.TheVariants.{Less, Equal, Greater}
use Rattle.std.specs.Ordering.{nat_cmp, ordering_then, match_ordering, is_eq}
use Rattle.std.specs.Cmp.{IsTotalOrder, nat_cmp_total, then_total, on_total, tied_itself}
use Rattle.std.proofs.lemmas.Option.{none-some, same_Some}
use Rattle.std.proofs.lemmas.Map.Lookups.{exact_unsigned}
use Rattle.ospf_lsdb.specs.declared.key.LsaKey.{LsaKey}
use Rattle.ospf_lsdb.specs.declared.kept.Kept.{Kept}
use Rattle.ospf_lsdb.specs.Keys.{key_cmp, key_of}
use Rattle.ospf_lsdb.specs.Kept.{with_max_age, reaches_max_age}
use Rattle.ospf_lsdb.specs.Database.{Database, kept_at, with_kept, changed, without, AreNamed, aged}

-- ---- the order tells all keys apart

then_equal : (x y : Ordering) → ordering_then x y ≡ Equal → (x ≡ Equal) × (y ≡ Equal)
then_equal Less y e = absurd cc
then_equal Equal y e = (refl, e)
then_equal Greater y e = absurd cc

key_made : ℕ → ℕ → ℕ → LsaKey
key_made k i r = record { kind = k; id = i; router = r }

pub exact_keys : (a b : LsaKey) → key_cmp a b ≡ Equal → a ≡ b
unfolding key_made
exact_keys a b e =
    let one = then_equal (nat_cmp a.kind b.kind) (ordering_then (nat_cmp a.id b.id) (nat_cmp a.router b.router)) e in
    let two = then_equal (nat_cmp a.id b.id) (nat_cmp a.router b.router) one.1 in
    let kind = exact_unsigned a.kind b.kind one.0 in
    let id = exact_unsigned a.id b.id two.0 in
    let router = exact_unsigned a.router b.router two.1 in
    ap (λ (k : ℕ). key_made k a.id a.router) kind ∙ ap (λ (i : ℕ). key_made b.kind i a.router) id ∙ ap (λ (r : ℕ). key_made b.kind b.id r) router

pub key_cmp_total : IsTotalOrder key_cmp
key_cmp_total =
    then_total (on_total (λ (k : LsaKey). k.kind) nat_cmp_total)
    (then_total (on_total (λ (k : LsaKey). k.id) nat_cmp_total) (on_total (λ (k : LsaKey). k.router) nat_cmp_total))

pub same_key : (k : LsaKey) → key_cmp k k ≡ Equal
same_key k = tied_itself key_cmp_total k

is_eq-true : (o : Ordering) → is_eq o ≡ true → o ≡ Equal
is_eq-true Less e = absurd cc
is_eq-true Equal e = refl
is_eq-true Greater e = absurd cc

pub at_same : (key k : LsaKey) → is_at (key_cmp key) k ≡ true → key ≡ k
at_same key k e = exact_keys key k (is_eq-true (key_cmp key k) e)

-- ---- each LSA stays at its own name

abbrev IsNamed : LsaKey × Kept → Type 0
IsNamed e = e.0 ≡ key_of e.1.lsa.head

put : (o : Ordering) (e : LsaKey × Kept) (db : Database) (key : LsaKey) (k : Kept) → (o ≡ Equal → key ≡ e.0) → IsNamed (key, k) → IsNamed e → AreNamed db → AreNamed (with_kept db key k)
    → AreNamed (match_ordering o ((key, k) ∷ e ∷ db) ((e.0, k) ∷ db) (e ∷ with_kept db key k))
put Less e db key k tie new old rest more = (new, (old, rest))
put Equal e db key k tie new old rest more = (sym (tie refl) ∙ new, rest)
put Greater e db key k tie new old rest more = (old, more)

pub named-with : (db : Database) (key : LsaKey) (k : Kept) → key ≡ key_of k.lsa.head → AreNamed db → AreNamed (with_kept db key k)
named-with [] key k new named = (new, tt)
named-with (e ∷ db) key k new named =
    put (key_cmp key e.0) e db key k (exact_keys key e.0) new named.0 named.1 (named-with db key k new named.1)

changed_by : (b : Bool) (e : LsaKey × Kept) (db rest : Database) (w : Kept) → key_of w.lsa.head ≡ key_of e.1.lsa.head → IsNamed e → AreNamed db → AreNamed rest → AreNamed (cond b ((e.0, w) ∷ db) (e ∷ rest))
changed_by true e db rest w same old named more = (old ∙ sym same, named)
changed_by false e db rest w same old named more = (old, more)

pub named-changed : (key : LsaKey) (change : Kept → Kept) (db : Database) → ((k : Kept) → key_of (change k).lsa.head ≡ key_of k.lsa.head) → AreNamed db → AreNamed (changed key change db)
named-changed key change [] same named = tt
named-changed key change (e ∷ db) same named =
    changed_by (is_at (key_cmp key) e.0) e db (changed key change db) (change e.1) (same e.1) named.0 named.1 (named-changed key change db same named.1)

without_by : (b : Bool) (e : LsaKey × Kept) (db rest : Database) → IsNamed e → AreNamed db → AreNamed rest → AreNamed (cond b db (e ∷ rest))
without_by true e db rest old named more = named
without_by false e db rest old named more = (old, more)

pub named-without : (db : Database) (key : LsaKey) → AreNamed db → AreNamed (without db key)
named-without [] key named = tt
named-without (e ∷ db) key named =
    without_by (is_at (key_cmp key) e.0) e db (without db key) named.0 named.1 (named-without db key named.1)

aged_name : (b : Bool) (now : ℕ) (k : Kept) → key_of (cond b (with_max_age now k) k).lsa.head ≡ key_of k.lsa.head
aged_name true now k = refl
aged_name false now k = refl

pub named-aged : (now : ℕ) (db : Database) → AreNamed db → AreNamed (aged now db)
named-aged now [] named = tt
named-aged now (e ∷ db) named = (named.0 ∙ sym (aged_name (reaches_max_age now e.1) now e.1), named-aged now db named.1)

-- ---- what a look-up finds

found_by : (b : Bool) (key : LsaKey) (e : LsaKey × Kept) (rest : Option Kept) (k : Kept) → (b ≡ true → key ≡ e.0) → IsNamed e → (rest ≡ Some k → key_of k.lsa.head ≡ key)
    → cond b (Some e.1) rest ≡ Some k → key_of k.lsa.head ≡ key
found_by true key e rest k tie named more found =
    let same : e.1 ≡ k = cc in
    ap (λ (x : Kept). key_of x.lsa.head) (sym same) ∙ sym named ∙ sym (tie refl)
found_by false key e rest k tie named more found = more found

-- it has the name by which it was looked up
pub found_name : (db : Database) (key : LsaKey) (k : Kept) → AreNamed db → kept_at db key ≡ Some k → key_of k.lsa.head ≡ key
found_name [] key k named found = absurd cc
found_name (e ∷ db) key k named found =
    found_by (is_at (key_cmp key) e.0) key e (kept_at db key) k (at_same key e.0) named.0 (found_name db key k named.1) found

set_here : (b : Bool) (e : LsaKey × Kept) (db : Database) (key : LsaKey) (change : Kept → Kept) (k : Kept) → is_at (key_cmp key) e.0 ≡ b → kept_at (e ∷ db) key ≡ Some k
    → (kept_at db key ≡ Some k → set_value (is_at (key_cmp key)) db (change k) ≡ changed key change db)
    → set_value (is_at (key_cmp key)) (e ∷ db) (change k) ≡ changed key change (e ∷ db)
set_here true e db key change k t found later =
    let here : Some e.1 ≡ Some k = rw t at found in
    rw t (ap (λ (x : Kept). (e.0, change x) ∷ db) (sym (same_Some e.1 k here)))
set_here false e db key change k t found later =
    let there : kept_at db key ≡ Some k = rw t at found in
    rw t (ap (λ (es : Database). e ∷ es) (later there))

-- the changed value written where it was found is the change
pub set_changed : (db : Database) (key : LsaKey) (change : Kept → Kept) (k : Kept) → kept_at db key ≡ Some k → set_value (is_at (key_cmp key)) db (change k) ≡ changed key change db
set_changed [] key change k found = absurd cc
set_changed (e ∷ db) key change k found = set_here (is_at (key_cmp key) e.0) e db key change k refl found (set_changed db key change k)

not_here : (b : Bool) (e : LsaKey × Kept) (db : Database) (key : LsaKey) (change : Kept → Kept) → is_at (key_cmp key) e.0 ≡ b → kept_at (e ∷ db) key ≡ None
    → (kept_at db key ≡ None → changed key change db ≡ db) → changed key change (e ∷ db) ≡ e ∷ db
not_here true e db key change t none later =
    let impossible : Some e.1 ≡ None = rw t at none in
    absurd (none-some e.1 (sym impossible))
not_here false e db key change t none later =
    let there : kept_at db key ≡ None = rw t at none in
    rw t (ap (λ (es : Database). e ∷ es) (later there))

-- where nothing is found, nothing changes
pub not_changed : (db : Database) (key : LsaKey) (change : Kept → Kept) → kept_at db key ≡ None → changed key change db ≡ db
not_changed [] key change none = refl
not_changed (e ∷ db) key change none = not_here (is_at (key_cmp key) e.0) e db key change refl none (not_changed db key change)

-- what a look-up answers by reference has the name by which it was looked up
pub copied_name : (db : Database) (key : LsaKey) (found : Option (Bor Kept)) → AreNamed db → option_copied found ≡ kept_at db key → IfSome found (λ k. key_of k.now.lsa.head ≡ key)
copied_name db key None named e = tt
copied_name db key (Some k) named e = found_name db key k.now named (sym e)
