-- The vertices of a database: read key by key, and in the order of their ids.
use Rattle.std.proofs.Common.{◌≡◌, ℕ, zero, suc, ◌+◌, ◌<◌, ◌≤◌, ◌&&◌, eqb, ltb, cond, Option, Some, None, List, [], ◌∷◌, ◌++◌, take, get_or, refl, sym, ap, ◌∙◌, inl, inr, arith, length}
use Rattle.std.specs.Prelude.{option_map, option_and_then}
use Rattle.std.specs.List.{AllByRecursion, cons_option}
use Rattle.std.specs.List.Sorted.{IsStrictlySortedBy}
use Rattle.std.specs.Map.{keys_of}
use Rattle.std.specs.Cmp.{IsTotalOrder}
use Rattle.std.specs.Ordering.{nat_cmp, ordering_then}
use Rattle.std.specs.declared.cmp.Ordering.TheVariants.{Less}
use Rattle.std.proofs.lemmas.Bool.{cases_Bool, and_parts, eqb-true}
use Rattle.std.proofs.lemmas.Cmp.{nat_cmp_total, on_total, then_total, eq_by_cmp_equiv}
use Rattle.std.proofs.lemmas.Option.{slice_get-get_or}
use Rattle.std.proofs.lemmas.List.{take_more, get_or-map}
use Rattle.std.proofs.lemmas.List.Elements.{All-from_recursion, filter_map-append}
use Rattle.std.proofs.lemmas.Map.Entries.{lookup_from_place, length-keys_of}
use Rattle.std.proofs.lemmas.Map.Keys.{sorted_head, sorted_tail, IsDistinct-from_sorted}
use Rattle.std.proofs.lemmas.Map.Lookups.{exact_unsigned}
use Rattle.ospf_wire.specs.declared.router_lsa.RouterLink.{RouterLink}
use Rattle.ospf_wire.specs.Reading.{router_links_at}
use Rattle.ospf_lsdb.specs.declared.key.LsaKey.{LsaKey}
use Rattle.ospf_lsdb.specs.declared.kept.Kept.{Kept}
use Rattle.ospf_lsdb.specs.Keys.{key_cmp}
use Rattle.ospf_lsdb.specs.Kept.{age_of}
use Rattle.ospf_lsdb.specs.Database.{Database, kept_at}
use Rattle.ospf_spf.specs.declared.graph.Vertex.{Vertex}
use Rattle.ospf_spf.specs.Graph.{is_current, vertex_of, graph_of, AreInOrder}
use Rattle.ospf_spf.proofs.Gathering.{by_option, then_less, cmp_less}

-- ---- one key after the other

pub key_total : IsTotalOrder key_cmp
key_total = then_total (on_total (λ k. k.kind) nat_cmp_total) (then_total (on_total (λ k. k.id) nat_cmp_total) (on_total (λ k. k.router) nat_cmp_total))

place : (db : Database) (i : ℕ) → i < length db → (e : LsaKey × Kept) × (get_or db i e ≡ e)
place [] i lt = absurd (omega arith)
place (e ∷ db) zero lt = (e, refl)
place (e ∷ db) (suc i) lt = place db i (let k : i < length db = omega arith in k)

-- what is kept at the key of an entry is its value
kept_there : (db : Database) (i : ℕ) (e : LsaKey × Kept) → IsStrictlySortedBy key_cmp (keys_of db) → i < length db → get_or db i e ≡ e → kept_at db e.0 ≡ Some e.1
kept_there db i e sorted lt is =
    lookup_from_place (eq_by_cmp_equiv key_total) db i e.0 e.1 (IsDistinct-from_sorted key_cmp (keys_of db) sorted) (slice_get-get_or db i e lt ∙ ap (λ (x : LsaKey × Kept). Some x) is)

-- one entry more
graph_more : (now : ℕ) (db : Database) (i : ℕ) (e : LsaKey × Kept) → i < length db → get_or db i e ≡ e → graph_of now (take (i + 1) db) ≡ graph_of now (take i db) ++ cons_option (vertex_of now e) []
graph_more now db i e lt is =
    ap (graph_of now) (take_more db i e lt) ∙ filter_map-append (vertex_of now) (take i db) (get_or db i e ∷ []) ∙ ap (λ (x : LsaKey × Kept). graph_of now (take i db) ++ cons_option (vertex_of now x) []) is

pub graph_step : (now : ℕ) (db : Database) (keys : List LsaKey) (i : ℕ) (d : LsaKey) (vs : List Vertex) (found : Option Vertex) → IsStrictlySortedBy key_cmp (keys_of db) → keys ≡ keys_of db → i < length keys
    → found ≡ option_and_then (λ k. vertex_of now (get_or keys i d, k)) (kept_at db (get_or keys i d)) → vs ≡ graph_of now (take i db) → vs ++ cons_option found [] ≡ graph_of now (take (i + 1) db)
graph_step now db keys i d vs found sorted are lt is so_far =
    let n : length keys ≡ length db = ap length are ∙ length-keys_of db in
    let il : i < length db = omega arith in
    let p = place db i il in
    let e = p.0 in
    let key : get_or keys i d ≡ e.0 = ap (λ (ks : List LsaKey). get_or ks i d) are ∙ get_or-map (λ (x : LsaKey × Kept). x.0) db i e d il ∙ ap (λ (x : LsaKey × Kept). x.0) p.1 in
    let found_is : found ≡ vertex_of now e =
    is ∙ ap (λ (k : LsaKey). option_and_then (λ x. vertex_of now (k, x)) (kept_at db k)) key ∙ ap (λ (o : Option Kept). option_and_then (λ x. vertex_of now (e.0, x)) o) (kept_there db i e sorted il p.1) in
    ap (λ (xs : List Vertex). xs ++ cons_option found []) so_far ∙ ap (λ (o : Option Vertex). graph_of now (take i db) ++ cons_option o []) found_is ∙ sym (graph_more now db i e il p.1)

-- ---- no more vertices than LSAs

option_le : (o : Option Vertex) (vs : List Vertex) → length (cons_option o vs) ≤ length vs + 1
option_le None vs = omega arith
option_le (Some v) vs = omega arith

pub graph_le : (now : ℕ) (db : Database) → length (graph_of now db) ≤ length db
graph_le now [] = omega arith
graph_le now (e ∷ db) = let a = graph_le now db in let b = option_le (vertex_of now e) (graph_of now db) in omega arith

-- ---- in the order of their ids

vertex_facts : (now : ℕ) (e : LsaKey × Kept) (v : Vertex) → vertex_of now e ≡ Some v → (e.0.kind ≡ 1) × (e.0.id ≡ e.0.router) × (v.id ≡ e.0.id)
vertex_facts now e v h =
    let read = router_links_at e.1.lsa.body in
    let f : List RouterLink → Vertex = λ ls. record { id = e.0.id; links = ls } in
    elim (cases_Bool (is_current now e.0 e.1)) [
      | inl t ↦
          (let a = and_parts ((eqb e.0.kind 1) && (eqb e.0.id e.0.router)) (ltb (age_of now e.1) 3600) t in
          let b = and_parts (eqb e.0.kind 1) (eqb e.0.id e.0.router) a.0 in
          let o : option_map f read ≡ Some v = sym (ap (λ x. cond x (option_map f read) None) t) ∙ h in (
            eqb-true e.0.kind 1 b.0,
            eqb-true e.0.id e.0.router b.1,
            by_option read
                (λ n. absurd (let z : None ≡ Some v = sym (ap (λ x. option_map f x) n) ∙ o in cc))
                (λ ls n. let z : Some (f ls) ≡ Some v = sym (ap (λ x. option_map f x) n) ∙ o in let y : f ls ≡ v = cc in sym (ap (λ (x : Vertex). x.id) y)),
          ))
      | inr t ↦ absurd (let z : None ≡ Some v = sym (ap (λ x. cond x (option_map f read) None) t) ∙ h in cc)
    ]

key_less : (k y : LsaKey) → key_cmp k y ≡ Less → k.kind ≡ 1 → y.kind ≡ 1 → k.id ≡ k.router → y.id ≡ y.router → k.id < y.id
key_less k y h kk yk kr yr =
    elim (then_less (nat_cmp k.kind y.kind) (ordering_then (nat_cmp k.id y.id) (nat_cmp k.router y.router)) h) [
      | inl a ↦ absurd (let l = cmp_less k.kind y.kind a in omega arith)
      | inr a ↦
          elim (then_less (nat_cmp k.id y.id) (nat_cmp k.router y.router) a.1) [
            | inl b ↦ cmp_less k.id y.id b
            | inr b ↦ absurd (let e = exact_unsigned k.id y.id b.0 in let l = cmp_less k.router y.router b.1 in omega arith)
          ]
    ]

all_option : (P : Vertex → Type 0) (o : Option Vertex) (vs : List Vertex) → ((v : Vertex) → o ≡ Some v → P v) → AllByRecursion P vs → AllByRecursion P (cons_option o vs)
all_option P None vs f a = a
all_option P (Some v) vs f a = (f v refl, a)

all_above : (now : ℕ) (e : LsaKey × Kept) (v : Vertex) (es : Database) → vertex_of now e ≡ Some v → AllByRecursion (λ y. key_cmp e.0 y ≡ Less) (keys_of es) → AllByRecursion (λ w. v.id < w.id) (graph_of now es)
all_above now e v [] h a = tt
all_above now e v (x ∷ es) h a =
    let p = vertex_facts now e v h in
    all_option (λ w. v.id < w.id) (vertex_of now x) (graph_of now es)
    (λ w g.
    let q = vertex_facts now x w g in
    let l = key_less e.0 x.0 a.0 p.0 q.0 p.1 q.1 in
    let pv = p.2 in
    let qw = q.2 in
    omega arith)
    (all_above now e v es h a.1)

in_order_cons : (v : Vertex) (vs : List Vertex) → AllByRecursion (λ w. v.id < w.id) vs → AreInOrder vs → AreInOrder (v ∷ vs)
in_order_cons v vs a o zero zero d ij jl = absurd (omega arith)
in_order_cons v vs a o zero (suc j) d ij jl = All-from_recursion (λ (w : Vertex). v.id < w.id) vs a j d (let k : j < length vs = omega arith in k)
in_order_cons v vs a o (suc i) zero d ij jl = absurd (omega arith)
in_order_cons v vs a o (suc i) (suc j) d ij jl = o i j d (let k : i < j = omega arith in k) (let k : j < length vs = omega arith in k)

in_order_option : (o : Option Vertex) (vs : List Vertex) → ((v : Vertex) → o ≡ Some v → AllByRecursion (λ w. v.id < w.id) vs) → AreInOrder vs → AreInOrder (cons_option o vs)
in_order_option None vs f a = a
in_order_option (Some v) vs f a = in_order_cons v vs (f v refl) a

pub graph_in_order : (now : ℕ) (db : Database) → IsStrictlySortedBy key_cmp (keys_of db) → AreInOrder (graph_of now db)
graph_in_order now [] s = λ i j d ij jl. absurd (let k : j < 0 = jl in omega arith)
graph_in_order now (e ∷ db) s =
    in_order_option (vertex_of now e) (graph_of now db) (λ v h. all_above now e v db h (sorted_head key_cmp e.0 (keys_of db) s)) (graph_in_order now db (sorted_tail key_cmp e.0 (keys_of db) s))
