-- One port's list: an LSA that is put on it and taken back, or put on it twice.
use Rattle.std.proofs.Common.{◌≡◌, ℕ, Bool, true, false, [], ◌∷◌, refl, sym, ap, subst, ◌∙◌}
use Rattle.std.specs.Prelude.{Option, Some, None}
use Rattle.std.specs.Map.{keys_of, set_value}
use Rattle.std.specs.BTreeMap.{is_at}
use Rattle.std.specs.List.{AllByRecursion}
use Rattle.std.specs.List.Sorted.{IsStrictlySortedBy}
use Rattle.std.specs.declared.cmp.Ordering.{Ordering}
use Rattle.std.specs.declared.cmp.Ordering.TheVariants.{Less, Equal, Greater}
use Rattle.std.proofs.lemmas.Option.{none-some}
use Rattle.std.proofs.lemmas.Map.{NonePasses, lookup-none}
use Rattle.std.proofs.lemmas.Map.Entries.{none_below_head}
use Rattle.std.proofs.lemmas.Map.Keys.{sorted_head, sorted_tail}
use Rattle.ospf_lsdb.specs.declared.key.LsaKey.{LsaKey}
use Rattle.ospf_lsdb.specs.Keys.{key_cmp}
use Rattle.ospf_lsdb.proofs.DatabaseLaws.{exact_keys, key_cmp_total, same_key}
use Rattle.ospf_flood.specs.Retransmission.{OnPort, last_sent, with_lsa, without_lsa, restored}

abbrev pub IsRising : OnPort → Type 0
IsRising l = IsStrictlySortedBy key_cmp (keys_of l)

-- ---- what is not there

-- where the name is below the first of a rising list, no entry has it
none_here : (key : LsaKey) (e : LsaKey × ℕ) (l : OnPort) → IsRising (e ∷ l) → key_cmp key e.0 ≡ Less → NonePasses (is_at (key_cmp key)) (e ∷ l)
none_here key e l rising less = none_below_head key_cmp_total key e l rising less

off_none : (key : LsaKey) (l : OnPort) → NonePasses (is_at (key_cmp key)) l → without_lsa key l ≡ l
off_none key [] none = refl
off_none key (e ∷ l) none = rw none.0 (ap (λ (es : OnPort). e ∷ es) (off_none key l none.1))

-- where every name of the list is above, the LSA goes to its front
put_first : (key : LsaKey) (tick : ℕ) (l : OnPort) → AllByRecursion (λ k. key_cmp key k ≡ Less) (keys_of l) → with_lsa l key tick ≡ (key, tick) ∷ l
put_first key tick [] above = refl
put_first key tick (e ∷ l) above = rw above.0 refl

set_by : (b : Bool) (key : LsaKey) (tick : ℕ) (e : LsaKey × ℕ) (l : OnPort) → is_at (key_cmp key) e.0 ≡ b → last_sent (e ∷ l) key ≡ None
    → (last_sent l key ≡ None → set_value (is_at (key_cmp key)) l tick ≡ l) → set_value (is_at (key_cmp key)) (e ∷ l) tick ≡ e ∷ l
set_by true key tick e l t none more =
    let impossible : Some e.1 ≡ None = rw t at none in
    absurd (none-some e.1 (sym impossible))
set_by false key tick e l t none more =
    let there : last_sent l key ≡ None = rw t at none in
    rw t (ap (λ (es : OnPort). e ∷ es) (more there))

pub set_none : (key : LsaKey) (tick : ℕ) (l : OnPort) → last_sent l key ≡ None → set_value (is_at (key_cmp key)) l tick ≡ l
set_none key tick [] none = refl
set_none key tick (e ∷ l) none = set_by (is_at (key_cmp key) e.0) key tick e l refl none (set_none key tick l)

-- ---- taken off and put on is put on

put_by : (o : Ordering) (key : LsaKey) (tick : ℕ) (e : LsaKey × ℕ) (l : OnPort) → key_cmp key e.0 ≡ o → IsRising (e ∷ l) → with_lsa (without_lsa key l) key tick ≡ with_lsa l key tick
    → with_lsa (without_lsa key (e ∷ l)) key tick ≡ with_lsa (e ∷ l) key tick
put_by Less key tick e l t rising more =
    let gone = off_none key (e ∷ l) (none_here key e l rising t) in
    ap (λ (es : OnPort). with_lsa es key tick) gone
put_by Equal key tick e l t rising more =
    let same : key ≡ e.0 = exact_keys key e.0 t in
    let above : AllByRecursion (λ k. key_cmp key k ≡ Less) (keys_of l) = subst (λ (k : LsaKey). AllByRecursion (λ x. key_cmp k x ≡ Less) (keys_of l)) (sym same) (sorted_head key_cmp e.0 (keys_of l) rising) in
    rw t (put_first key tick l above ∙ ap (λ (k : LsaKey). (k, tick) ∷ l) same)
put_by Greater key tick e l t rising more = rw t (rw t (ap (λ (es : OnPort). e ∷ es) more))

pub put_again : (key : LsaKey) (tick : ℕ) (l : OnPort) → IsRising l → with_lsa (without_lsa key l) key tick ≡ with_lsa l key tick
put_again key tick [] rising = refl
put_again key tick (e ∷ l) rising = put_by (key_cmp key e.0) key tick e l refl rising (put_again key tick l (sorted_tail key_cmp e.0 (keys_of l) rising))

-- ---- put on twice has the last tick

twice_by : (o : Ordering) (key : LsaKey) (first last : ℕ) (e : LsaKey × ℕ) (l : OnPort) → key_cmp key e.0 ≡ o → with_lsa (with_lsa l key first) key last ≡ with_lsa l key last
    → with_lsa (with_lsa (e ∷ l) key first) key last ≡ with_lsa (e ∷ l) key last
twice_by Less key first last e l t more = rw t (rw (same_key key) refl)
twice_by Equal key first last e l t more = rw t (rw t refl)
twice_by Greater key first last e l t more = rw t (rw t (ap (λ (es : OnPort). e ∷ es) more))

pub put_twice : (key : LsaKey) (first last : ℕ) (l : OnPort) → with_lsa (with_lsa l key first) key last ≡ with_lsa l key last
put_twice key first last [] = rw (same_key key) refl
put_twice key first last (e ∷ l) = twice_by (key_cmp key e.0) key first last e l refl (put_twice key first last l)

-- ---- what was put on is taken back

restored_past : (before : Option ℕ) (key : LsaKey) (e : LsaKey × ℕ) (l : OnPort) → key_cmp key e.0 ≡ Greater → restored (e ∷ l) key before ≡ e ∷ restored l key before
restored_past None key e l t = rw t refl
restored_past (Some tick) key e l t = rw t refl

back_by : (o : Ordering) (key : LsaKey) (tick : ℕ) (e : LsaKey × ℕ) (l : OnPort) → key_cmp key e.0 ≡ o → IsRising (e ∷ l) → restored (with_lsa l key tick) key (last_sent l key) ≡ l
    → restored (with_lsa (e ∷ l) key tick) key (last_sent (e ∷ l) key) ≡ e ∷ l
back_by Less key tick e l t rising more =
    let none = lookup-none (is_at (key_cmp key)) (e ∷ l) (none_here key e l rising t) in
    rw none (rw t (rw (same_key key) refl))
back_by Equal key tick e l t rising more = rw t (rw t refl)
back_by Greater key tick e l t rising more =
    rw t (restored_past (last_sent l key) key e (with_lsa l key tick) t ∙ ap (λ (es : OnPort). e ∷ es) more)

pub put_back : (key : LsaKey) (tick : ℕ) (l : OnPort) → IsRising l → restored (with_lsa l key tick) key (last_sent l key) ≡ l
put_back key tick [] rising = rw (same_key key) refl
put_back key tick (e ∷ l) rising = back_by (key_cmp key e.0) key tick e l refl rising (put_back key tick l (sorted_tail key_cmp e.0 (keys_of l) rising))
