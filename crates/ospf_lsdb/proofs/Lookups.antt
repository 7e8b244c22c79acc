-- What a look-up finds after a change at one name: in any map from names of LSAs, and in the database.
use Rattle.std.proofs.Common.{◌≡◌, ◌≢◌, ℕ, Bool, true, false, cond, List, [], ◌∷◌, Option, Some, None, refl, sym, ap, ◌∙◌}
use Rattle.std.specs.Prelude.{option_map}
use Rattle.std.specs.Map.{keys_of, lookup, remove_entry}
use Rattle.std.specs.BTreeMap.{insert_entry, is_at}
use Rattle.std.specs.List.Sorted.{IsStrictlySortedBy}
use Rattle.std.specs.declared.cmp.Ordering.{Ordering}
use Rattle.std.specs.declared.cmp.Ordering.TheVariants.{Less, Equal, Greater}
use Rattle.std.specs.Ordering.{is_eq, match_ordering}
use Rattle.std.proofs.lemmas.Cmp.{eq_by_cmp_equiv}
use Rattle.std.proofs.lemmas.Map.{lookup-remove_entry}
use Rattle.std.proofs.lemmas.Map.Keys.{IsDistinct-from_sorted}
use Rattle.ospf_lsdb.specs.declared.key.LsaKey.{LsaKey}
use Rattle.ospf_lsdb.specs.declared.kept.Kept.{Kept}
use Rattle.ospf_lsdb.specs.Keys.{key_cmp, own_key}
use Rattle.ospf_lsdb.specs.Kept.{fresh, reaches_max_age, with_max_age}
use Rattle.ospf_lsdb.specs.Database.{Database, aged, changed, kept_at, next_sequence_number, originated, own_lsa, with_own}
use Rattle.ospf_lsdb.proofs.DatabaseLaws.{at_same, exact_keys, key_cmp_total, same_key}

-- ---- two names

apart_by : (o : Ordering) (m n : LsaKey) → n ≢ m → key_cmp m n ≡ o → is_eq o ≡ false
apart_by Less m n differ t = refl
apart_by Equal m n differ t = absurd (differ (sym (exact_keys m n t)))
apart_by Greater m n differ t = refl

apart : (m n : LsaKey) → n ≢ m → is_at (key_cmp m) n ≡ false
apart m n differ = apart_by (key_cmp m n) m n differ refl

-- an entry at a name is not at another
away : (key m k : LsaKey) → key ≢ m → is_at (key_cmp key) k ≡ true → is_at (key_cmp m) k ≡ false
away key m k differ t = ap (is_at (key_cmp m)) (sym (at_same key k t)) ∙ apart m key differ

-- ---- what is put

here_by : {X : Type 0} (o : Ordering) (key : LsaKey) (x : X) (e : LsaKey × X) (es : List (LsaKey × X)) → key_cmp key e.0 ≡ o
    → lookup (is_at (key_cmp key)) (insert_entry key_cmp es key x) ≡ Some x
    → lookup (is_at (key_cmp key)) (match_ordering o ((key, x) ∷ e ∷ es) ((e.0, x) ∷ es) (e ∷ insert_entry key_cmp es key x)) ≡ Some x
here_by Less key x e es t more = rw (same_key key) refl
here_by Equal key x e es t more = rw t refl
here_by Greater key x e es t more = rw t more

pub put_here : {X : Type 0} (es : List (LsaKey × X)) (key : LsaKey) (x : X) → lookup (is_at (key_cmp key)) (insert_entry key_cmp es key x) ≡ Some x
put_here [] key x = rw (same_key key) refl
put_here (e ∷ es) key x = here_by (key_cmp key e.0) key x e es refl (put_here es key x)

elsewhere_by : {X : Type 0} (o : Ordering) (key m : LsaKey) (x : X) (e : LsaKey × X) (es : List (LsaKey × X)) → key_cmp key e.0 ≡ o → key ≢ m
    → lookup (is_at (key_cmp m)) (insert_entry key_cmp es key x) ≡ lookup (is_at (key_cmp m)) es
    → lookup (is_at (key_cmp m)) (match_ordering o ((key, x) ∷ e ∷ es) ((e.0, x) ∷ es) (e ∷ insert_entry key_cmp es key x)) ≡ lookup (is_at (key_cmp m)) (e ∷ es)
elsewhere_by Less key m x e es t differ more = rw (apart m key differ) refl
elsewhere_by Equal key m x e es t differ more =
    let other : is_at (key_cmp m) e.0 ≡ false = ap (is_at (key_cmp m)) (sym (exact_keys key e.0 t)) ∙ apart m key differ in
    rw other refl
elsewhere_by Greater key m x e es t differ more = ap (cond (is_at (key_cmp m) e.0) (Some e.1)) more

pub put_elsewhere : {X : Type 0} (es : List (LsaKey × X)) (key m : LsaKey) (x : X) → key ≢ m → lookup (is_at (key_cmp m)) (insert_entry key_cmp es key x) ≡ lookup (is_at (key_cmp m)) es
put_elsewhere [] key m x differ = rw (apart m key differ) refl
put_elsewhere (e ∷ es) key m x differ = elsewhere_by (key_cmp key e.0) key m x e es refl differ (put_elsewhere es key m x differ)

-- ---- what is removed

pub removed_here : {X : Type 0} (es : List (LsaKey × X)) (key : LsaKey) → IsStrictlySortedBy key_cmp (keys_of es) → lookup (is_at (key_cmp key)) (remove_entry (is_at (key_cmp key)) es) ≡ None
removed_here es key rising =
    let equal = eq_by_cmp_equiv key_cmp_total in
    let found = lookup-remove_entry equal (is_at (key_cmp key)) (λ x y t. equal.congr key x y t) key es (IsDistinct-from_sorted key_cmp (keys_of es) rising) in
    let itself : is_at (key_cmp key) key ≡ true = ap is_eq (same_key key) in
    found ∙ ap (λ (b : Bool). cond b None (lookup (is_at (key_cmp key)) es)) itself

left_by : {X : Type 0} (b : Bool) (key m : LsaKey) (e : LsaKey × X) (es : List (LsaKey × X)) → is_at (key_cmp key) e.0 ≡ b → key ≢ m
    → lookup (is_at (key_cmp m)) (remove_entry (is_at (key_cmp key)) es) ≡ lookup (is_at (key_cmp m)) es
    → lookup (is_at (key_cmp m)) (cond b es (e ∷ remove_entry (is_at (key_cmp key)) es)) ≡ lookup (is_at (key_cmp m)) (e ∷ es)
left_by true key m e es t differ more = rw (away key m e.0 differ t) refl
left_by false key m e es t differ more = ap (cond (is_at (key_cmp m) e.0) (Some e.1)) more

pub removed_elsewhere : {X : Type 0} (es : List (LsaKey × X)) (key m : LsaKey) → key ≢ m → lookup (is_at (key_cmp m)) (remove_entry (is_at (key_cmp key)) es) ≡ lookup (is_at (key_cmp m)) es
removed_elsewhere [] key m differ = refl
removed_elsewhere (e ∷ es) key m differ = left_by (is_at (key_cmp key) e.0) key m e es refl differ (removed_elsewhere es key m differ)

-- ---- what is changed

changed_here_by : (b : Bool) (e : LsaKey × Kept) (db : Database) (key : LsaKey) (change : Kept → Kept) → is_at (key_cmp key) e.0 ≡ b
    → kept_at (changed key change db) key ≡ option_map change (kept_at db key)
    → kept_at (cond b ((e.0, change e.1) ∷ db) (e ∷ changed key change db)) key ≡ option_map change (cond b (Some e.1) (kept_at db key))
changed_here_by true e db key change t more = rw t refl
changed_here_by false e db key change t more = rw t more

pub changed_here : (db : Database) (key : LsaKey) (change : Kept → Kept) → kept_at (changed key change db) key ≡ option_map change (kept_at db key)
changed_here [] key change = refl
changed_here (e ∷ db) key change = changed_here_by (is_at (key_cmp key) e.0) e db key change refl (changed_here db key change)

changed_elsewhere_by : (b : Bool) (e : LsaKey × Kept) (db : Database) (key m : LsaKey) (change : Kept → Kept) → is_at (key_cmp key) e.0 ≡ b → key ≢ m
    → kept_at (changed key change db) m ≡ kept_at db m → kept_at (cond b ((e.0, change e.1) ∷ db) (e ∷ changed key change db)) m ≡ kept_at (e ∷ db) m
changed_elsewhere_by true e db key m change t differ more = rw (away key m e.0 differ t) refl
changed_elsewhere_by false e db key m change t differ more = ap (cond (is_at (key_cmp m) e.0) (Some e.1)) more

pub changed_elsewhere : (db : Database) (key m : LsaKey) (change : Kept → Kept) → key ≢ m → kept_at (changed key change db) m ≡ kept_at db m
changed_elsewhere [] key m change differ = refl
changed_elsewhere (e ∷ db) key m change differ = changed_elsewhere_by (is_at (key_cmp key) e.0) e db key m change refl differ (changed_elsewhere db key m change differ)

-- ---- the own LSA

with_own_elsewhere : (seq : Option ℕ) (db : Database) (router : ℕ) (body : List ℕ) (now : ℕ) (m : LsaKey) → own_key router ≢ m → kept_at (with_own db router body now seq) m ≡ kept_at db m
with_own_elsewhere None db router body now m differ = refl
with_own_elsewhere (Some seq) db router body now m differ = put_elsewhere db (own_key router) m (fresh (own_lsa router seq body) now false false) differ

pub originated_elsewhere : (db : Database) (router : ℕ) (body : List ℕ) (now : ℕ) (m : LsaKey) → own_key router ≢ m → kept_at (originated db router body now) m ≡ kept_at db m
originated_elsewhere db router body now m differ = with_own_elsewhere (next_sequence_number (kept_at db (own_key router))) db router body now m differ

-- ---- aging

abbrev aged_one : ℕ → Kept → Kept
aged_one now k = cond (reaches_max_age now k) (with_max_age now k) k

aged_by : (b : Bool) (now : ℕ) (e : LsaKey × Kept) (rest found : Option Kept) → rest ≡ option_map (aged_one now) found
    → cond b (Some (aged_one now e.1)) rest ≡ option_map (aged_one now) (cond b (Some e.1) found)
aged_by true now e rest found more = refl
aged_by false now e rest found more = more

pub aged_each : (db : Database) (now : ℕ) (key : LsaKey) → kept_at (aged now db) key ≡ option_map (aged_one now) (kept_at db key)
aged_each [] now key = refl
aged_each (e ∷ db) now key = aged_by (is_at (key_cmp key) e.0) now e (kept_at (aged now db) key) (kept_at db key) (aged_each db now key)
