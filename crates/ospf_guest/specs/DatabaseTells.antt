-- The image of the database tells it.
use Rattle.std.specs.Prelude.{◌≡◌, ℕ, ◌+◌, ◌*◌, ◌≤◌, ◌^◌, ◌==◌, ◌&&◌, nat_le, nat_lt, min, Bool, true, false, if◌then◌else◌, List, [], ◌∷◌, ◌++◌, length, flat_map, refl}
use Rattle.std.proofs.Common.{arith, append_assoc, ap, sym, ◌∙◌}
use Rattle.std.proofs.lemmas.Bool.{and_parts, eqb-true}
use Rattle.ospf_wire.specs.declared.lsa.Lsa.{Lsa}
use Rattle.ospf_wire.specs.declared.lsa.LsaHeader.{LsaHeader}
use Rattle.ospf_lsdb.specs.declared.key.LsaKey.{LsaKey}
use Rattle.ospf_lsdb.specs.declared.kept.Kept.{Kept}
use Rattle.ospf_lsdb.specs.Database.{Database}
use Rattle.ospf_guest.specs.Numbers.{two, four, eight, one_more, bit}
use Rattle.ospf_guest.specs.PlainImage.{head_image}
use Rattle.ospf_guest.specs.Image.{is_named, is_plain, flags_byte, odd_image, sent_image, kept_image, database_image}
use Rattle.ospf_guest.specs.Prefixfree.{IsFree, same_parts, regrouped, free_two, free_four, free_eight, same_one_more, same_bit, bit_small, free_key, same_list}

-- ---- headers

free_head : IsFree head_image
unfolding head_image
free_head g h u v e =
    let age = free_two g.age h.age _ _ e in
    let behind = age.1 in
    let options : g.options ≡ h.options = cc in
    let kind : g.kind ≡ h.kind = cc in
    let tails : four g.id ++ (four g.router ++ (four g.seq ++ (two g.sum ++ (two g.length ++ u)))) ≡ four h.id ++ (four h.router ++ (four h.seq ++ (two h.sum ++ (two h.length ++ v)))) = cc in
    let id = free_four g.id h.id _ _ tails in
    let router = free_four g.router h.router _ _ id.1 in
    let seq = free_four g.seq h.seq _ _ router.1 in
    let sum = free_two g.sum h.sum _ _ seq.1 in
    let len = free_two g.length h.length u v sum.1 in
    (λ i. record { age = age.0 i; options = options i; kind = kind i; id = id.0 i; router = router.0 i; seq = seq.0 i; sum = sum.0 i; length = len.0 i }, len.1)

-- ---- flags

same_odd : (a b : ℕ) (c d : Bool) → a ≤ 3 → b ≤ 3 → a + (if c then 0 else 4) ≡ b + (if d then 0 else 4) → (a ≡ b) × (c ≡ d)
same_odd a b true true l m e = (omega arith, refl)
same_odd a b true false l m e = absurd (omega arith)
same_odd a b false true l m e = absurd (omega arith)
same_odd a b false false l m e = (omega arith, refl)

same_bits : (c d f g : Bool) → bit c + 2 * bit d ≡ bit f + 2 * bit g → (c ≡ f) × (d ≡ g)
same_bits c d f g e =
    let first : bit c ≡ bit f = omega (arith, bit_small c, bit_small d, bit_small f, bit_small g) in
    let second : bit d ≡ bit g = omega arith in
    (same_bit c f first, same_bit d g second)

bits_small : (c d : Bool) → bit c + 2 * bit d ≤ 3
bits_small c d = omega (arith, bit_small c, bit_small d)

-- ---- what is kept

-- header and body
same_lsa : (x y : Lsa) (u v : List ℕ) → (x.head ≡ y.head → length x.body ≡ length y.body) → head_image x.head ++ (x.body ++ u) ≡ head_image y.head ++ (y.body ++ v) → (x ≡ y) × (u ≡ v)
same_lsa x y u v len e =
    let head = free_head x.head y.head (x.body ++ u) (y.body ++ v) e in
    let body = same_parts x.body y.body u v (len head.0) head.1 in
    (λ i. record { head = head.0 i; body = body.0 i }, body.1)

-- the key, its LSA and the tick after that of its last sending
abbrev Told : LsaKey × Kept → LsaKey × Kept → List ℕ → List ℕ → Type 0
Told x y u v = (x.0 ≡ y.0) × (x.1.lsa ≡ y.1.lsa) × (one_more x.1.sent ≡ one_more y.1.sent) × (u ≡ v)

named : (key : LsaKey) (h : LsaHeader) → is_named key h ≡ true → (key.kind ≡ h.kind) × (key.id ≡ h.id) × (key.router ≡ h.router)
named key h e =
    let kind = and_parts (key.kind == h.kind) (key.id == h.id && key.router == h.router) e in
    let rest = and_parts (key.id == h.id) (key.router == h.router) kind.1 in
    (eqb-true key.kind h.kind kind.0, eqb-true key.id h.id rest.0, eqb-true key.router h.router rest.1)

plain : (key : LsaKey) (k : Kept) → is_plain key k ≡ true → (is_named key k.lsa.head ≡ true) × (k.lsa.head.length ≡ 20 + length k.lsa.body)
plain key k e =
    let name = and_parts (is_named key k.lsa.head) (nat_lt (one_more k.sent) (2 ^ 32) && (nat_le (length k.lsa.body) 65535 && k.lsa.head.length == 20 + length k.lsa.body)) e in
    let sent = and_parts (nat_lt (one_more k.sent) (2 ^ 32)) (nat_le (length k.lsa.body) 65535 && k.lsa.head.length == 20 + length k.lsa.body) name.1 in
    let len = and_parts (nat_le (length k.lsa.body) 65535) (k.lsa.head.length == 20 + length k.lsa.body) sent.1 in
    (name.0, eqb-true k.lsa.head.length (20 + length k.lsa.body) len.1)

same_plain : (x y : LsaKey × Kept) → is_plain x.0 x.1 ≡ true → is_plain y.0 y.1 ≡ true → (u v : List ℕ) →
    four (one_more x.1.sent) ++ (head_image x.1.lsa.head ++ (x.1.lsa.body ++ u)) ≡ four (one_more y.1.sent) ++ (head_image y.1.lsa.head ++ (y.1.lsa.body ++ v)) → Told x y u v
same_plain x y s t u v e =
    let sent = free_four (one_more x.1.sent) (one_more y.1.sent) _ _ e in
    let one = plain x.0 x.1 s in
    let other = plain y.0 y.1 t in
    let len : x.1.lsa.head ≡ y.1.lsa.head → length x.1.lsa.body ≡ length y.1.lsa.body = λ h. (let l : x.1.lsa.head.length ≡ y.1.lsa.head.length = ap (λ (g : LsaHeader). g.length) h in let a = one.1 in let b = other.1 in omega arith) in
    let lsa = same_lsa x.1.lsa y.1.lsa u v len sent.1 in
    let a = named x.0 x.1.lsa.head one.0 in
    let b = named y.0 y.1.lsa.head other.0 in
    let kind : x.0.kind ≡ y.0.kind = a.0 ∙ ap (λ (l : Lsa). l.head.kind) lsa.0 ∙ sym b.0 in
    let id : x.0.id ≡ y.0.id = a.1 ∙ ap (λ (l : Lsa). l.head.id) lsa.0 ∙ sym b.1 in
    let router : x.0.router ≡ y.0.router = a.2 ∙ ap (λ (l : Lsa). l.head.router) lsa.0 ∙ sym b.2 in
    (λ i. record { kind = kind i; id = id i; router = router i }, lsa.0, sent.0, lsa.1)

same_strange : (x y : LsaKey × Kept) (u v : List ℕ) →
    odd_image x.0 x.1 ++ (head_image x.1.lsa.head ++ (x.1.lsa.body ++ u)) ≡ odd_image y.0 y.1 ++ (head_image y.1.lsa.head ++ (y.1.lsa.body ++ v)) → Told x y u v
same_strange x y u v e =
    let lsas : Kept → List ℕ → List ℕ = λ k w. eight (length k.lsa.body) ++ (head_image k.lsa.head ++ (k.lsa.body ++ w)) in
    let keys : LsaKey → List ℕ → List ℕ = λ key w. key.kind ∷ (four key.id ++ (four key.router ++ w)) in
    let parts : (z : LsaKey × Kept) (w : List ℕ) → odd_image z.0 z.1 ++ (head_image z.1.lsa.head ++ (z.1.lsa.body ++ w)) ≡ eight (one_more z.1.sent) ++ keys z.0 (lsas z.1 w) = λ z w.
    append_assoc (eight (one_more z.1.sent) ++ z.0.kind ∷ four z.0.id ++ four z.0.router) (eight (length z.1.lsa.body)) (head_image z.1.lsa.head ++ (z.1.lsa.body ++ w))
    ∙ regrouped (eight (one_more z.1.sent)) (z.0.kind ∷ four z.0.id) (four z.0.router) (lsas z.1 w) in
    let whole : eight (one_more x.1.sent) ++ keys x.0 (lsas x.1 u) ≡ eight (one_more y.1.sent) ++ keys y.0 (lsas y.1 v) = sym (parts x u) ∙ e ∙ parts y v in
    let sent = free_eight (one_more x.1.sent) (one_more y.1.sent) _ _ whole in
    let key = free_key x.0 y.0 (lsas x.1 u) (lsas y.1 v) sent.1 in
    let len = free_eight (length x.1.lsa.body) (length y.1.lsa.body) _ _ key.1 in
    let lsa = same_lsa x.1.lsa y.1.lsa u v (λ _. len.0) len.1 in
    (key.0, lsa.0, sent.0, lsa.1)

told_sent : (x y : LsaKey × Kept) (c d : Bool) → c ≡ d → is_plain x.0 x.1 ≡ c → is_plain y.0 y.1 ≡ d → (u v : List ℕ) →
    (if c then four (one_more x.1.sent) else odd_image x.0 x.1) ++ (head_image x.1.lsa.head ++ (x.1.lsa.body ++ u)) ≡ (if d then four (one_more y.1.sent) else odd_image y.0 y.1) ++ (head_image y.1.lsa.head ++ (y.1.lsa.body ++ v)) → Told x y u v
told_sent x y true true o s t u v e = same_plain x y s t u v e
told_sent x y true false o s t u v e = absurd cc
told_sent x y false true o s t u v e = absurd cc
told_sent x y false false o s t u v e = same_strange x y u v e

free_kept : IsFree kept_image
unfolding kept_image
free_kept x y u v e =
    let behind : LsaKey × Kept → List ℕ → List ℕ = λ z w. sent_image z.0 z.1 ++ (head_image z.1.lsa.head ++ (z.1.lsa.body ++ w)) in
    let parts : (z : LsaKey × Kept) (w : List ℕ) → sent_image z.0 z.1 ++ head_image z.1.lsa.head ++ z.1.lsa.body ++ w ≡ behind z w = λ z w.
    regrouped (sent_image z.0 z.1) (head_image z.1.lsa.head) z.1.lsa.body w in
    let whole : four x.1.installed ++ (flags_byte x.0 x.1 ∷ behind x u) ≡ four y.1.installed ++ (flags_byte y.0 y.1 ∷ behind y v) =
    sym (ap (λ (xs : List ℕ). four x.1.installed ++ (flags_byte x.0 x.1 ∷ xs)) (parts x u)) ∙ e ∙ ap (λ (xs : List ℕ). four y.1.installed ++ (flags_byte y.0 y.1 ∷ xs)) (parts y v) in
    let installed = free_four x.1.installed y.1.installed _ _ whole in
    let tails = installed.1 in
    let flags : flags_byte x.0 x.1 ≡ flags_byte y.0 y.1 = cc in
    let rest : behind x u ≡ behind y v = cc in
    let odd = same_odd _ _ (is_plain x.0 x.1) (is_plain y.0 y.1) (bits_small x.1.flooded x.1.foreign) (bits_small y.1.flooded y.1.foreign) flags in
    let bits = same_bits x.1.flooded x.1.foreign y.1.flooded y.1.foreign odd.0 in
    let told = told_sent x y (is_plain x.0 x.1) (is_plain y.0 y.1) odd.1 refl refl u v rest in
    let sent = same_one_more x.1.sent y.1.sent told.2 in
    (λ i. (told.0 i, record { lsa = told.1 i; installed = installed.0 i; flooded = bits.0 i; sent = sent i; foreign = bits.1 i }), told.3)

filled : (x : LsaKey × Kept) (u : List ℕ) → [] ≡ kept_image x ++ u → ⊥
unfolding kept_image
filled x u e = cc

pub same_database : (a b : Database) → database_image a ≡ database_image b → a ≡ b
unfolding database_image
same_database a b e =
    let count = free_two (min 65535 (length a)) (min 65535 (length b)) (flat_map kept_image a) (flat_map kept_image b) e in
    same_list kept_image free_kept filled a b count.1
