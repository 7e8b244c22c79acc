-- Prefixes: their numbers, what the tests of a prefix line say, and routers with one more prefix.
use Rattle.std.proofs.Common.{◌≡◌, ℕ, ◌+◌, ◌*◌, ◌-◌, ◌<◌, ◌≤◌, ◌^◌, ◌/◌, ◌%◌, zero, suc, Bool, true, false, not, ◌&&◌, nat_eq, nat_le, List, [], ◌∷◌, ◌++◌, length, map, get_or, refl, sym, ap, subst, ◌∙◌, append_assoc, arith, rules, tests}
use Rattle.std.specs.Prelude.{position}
use Rattle.std.specs.Cmp.Lexicographic.{pointwise}
use Rattle.std.proofs.lemmas.Bool.{eqb-true}
use Rattle.std.proofs.lemmas.List.{append-nil, length-append}
use Rattle.dn_model.specs.declared.router.Kind.{Kind}
use Rattle.dn_model.specs.declared.router.Kind.TheVariants as kind
use Rattle.dn_model.specs.declared.router.Prefix.{Prefix}
use Rattle.dn_model.specs.declared.router.RouterDef.{RouterDef}
use Rattle.dn_model.specs.Kinds.{IsCost, IsPrefix, ArePrefixes}
use Rattle.dn_model.specs.Routers.{number_of}
use Rattle.dn_model.specs.Cases.{IsRouter, AreRouters}
use Rattle.dn_text.specs.declared.decimals.Number.{Number}
use Rattle.dn_text.specs.declared.decimals.Number.TheVariants.{Is}
use Rattle.dn_case.specs.declared.shape.Net.{Net}
use Rattle.dn_case.specs.Standings.{between, value, address, net_fits, is_rip, is_flood, has_host_bits, and_prefix, with_prefix}
use Rattle.dn_case.specs.Spelling.{net_of_prefix, AreSmall}
use Rattle.dn_case.proofs.RouterLaws.{nobody, position_of_map}
use Rattle.dn_case.proofs.Taken.{held, both, in_range}

within : (low high n : ℕ) → low ≤ n → n ≤ high → between low high (Is n) ≡ true
within low high n h k = search (rules, tests)

-- ---- what the tests of a line say

address_below : (a b c d : ℕ) → a ≤ 255 → b ≤ 255 → c ≤ 255 → d ≤ 255 → ((a * 256 + b) * 256 + c) * 256 + d < 2 ^ 32
address_below a b c d p q r t = omega arith

pub address_fits : (net : Net) → net_fits net ≡ true → address net < 2 ^ 32
unfolding address
address_fits net fits =
    let k = both (between 0 255 net.a && between 0 255 net.b) _ fits in
    let l = both (between 0 255 net.c && between 0 255 net.d) (between 0 32 net.len) k.1 in
    let x = both (between 0 255 net.a) (between 0 255 net.b) k.0 in
    let y = both (between 0 255 net.c) (between 0 255 net.d) l.0 in
    address_below (value net.a) (value net.b) (value net.c) (value net.d) (in_range 0 255 net.a x.0).1 (in_range 0 255 net.b x.1).1 (in_range 0 255 net.c y.0).1 (in_range 0 255 net.d y.1).1

pub len_fits : (net : Net) → net_fits net ≡ true → value net.len ≤ 32
len_fits net fits =
    let k = both (between 0 255 net.a && between 0 255 net.b) _ fits in
    let l = both (between 0 255 net.c && between 0 255 net.d) (between 0 32 net.len) k.1 in
    (in_range 0 32 net.len l.1).1

pub no_host_bits : (net : Net) → has_host_bits net ≡ false → address net % 2 ^ (32 - value net.len) ≡ 0
unfolding has_host_bits
no_host_bits net free = eqb-true (address net % 2 ^ (32 - value net.len)) 0 (both (nat_le (value net.len) 32) _ (held _ free)).1

rip_cost : (b : Bool) → (true && not b) ≡ false → b ≡ true
rip_cost true e = refl
rip_cost false e = absurd cc

pub cost_fits : (k : Kind) (cost : Number) → between 1 65535 cost ≡ true → (is_rip k && not (between 1 15 cost)) ≡ false → is_flood k ≡ false → IsCost k (value cost)
cost_fits kind.Flood cost wide rip flood = absurd cc
cost_fits kind.Ospf cost wide rip flood = in_range 1 65535 cost wide
cost_fits kind.Rip cost wide rip flood = in_range 1 15 cost (rip_cost (between 1 15 cost) rip)

-- ---- routers with other prefixes have the same numbers

number_is : (rs : List RouterDef) (name : List ℕ) → number_of rs name ≡ position (λ n. pointwise nat_eq name n) (map (λ r. r.name) rs)
unfolding number_of
number_is rs name = sym (position_of_map (λ n. pointwise nat_eq name n) (λ r. r.name) rs)

pub same_number : (rs ss : List RouterDef) (name : List ℕ) → map (λ r. r.name) rs ≡ map (λ r. r.name) ss → number_of rs name ≡ number_of ss name
same_number rs ss name same =
    number_is rs name ∙ ap (λ (names : List (List ℕ)). position (λ n. pointwise nat_eq name n) names) same ∙ sym (number_is ss name)

pub names_joined : (xs ys : List RouterDef) → map (λ r. r.name) (xs ++ ys) ≡ map (λ r. r.name) xs ++ map (λ r. r.name) ys
names_joined [] ys = refl
names_joined (x ∷ xs) ys = ap (λ (names : List (List ℕ)). x.name ∷ names) (names_joined xs ys)

pub names_append : (xs ys zs : List RouterDef) → map (λ r. r.name) xs ≡ map (λ r. r.name) ys → map (λ r. r.name) (xs ++ zs) ≡ map (λ r. r.name) (ys ++ zs)
names_append xs ys zs same =
    names_joined xs zs ∙ ap (λ (names : List (List ℕ)). names ++ map (λ r. r.name) zs) same ∙ sym (names_joined ys zs)

-- the rules of routers look at the names alone of those before them
pub same_before : (b c rs : List RouterDef) → map (λ r. r.name) b ≡ map (λ r. r.name) c → AreRouters b rs → AreRouters c rs
same_before b c [] same h = tt
same_before b c (r ∷ rs) same h =
    let is : IsRouter c r = record { named = h.0.named; apart = same_number c b r.name (sym same) ∙ h.0.apart; few_prefixes = h.0.few_prefixes; prefixes = h.0.prefixes } in
    (is, same_before (b ++ r ∷ []) (c ++ r ∷ []) rs (names_append b c (r ∷ []) same) h.1)

-- ---- one more prefix

pub prefixes_more : (k : Kind) (before ps : List Prefix) (p : Prefix) → ArePrefixes k before ps → IsPrefix k (before ++ ps) p → ArePrefixes k before (ps ++ p ∷ [])
prefixes_more k before [] p h is = (subst (λ (b : List Prefix). IsPrefix k b p) (append-nil before) is, tt)
prefixes_more k before (q ∷ ps) p h is =
    (h.0, prefixes_more k (before ++ q ∷ []) ps p h.1 (subst (λ (b : List Prefix). IsPrefix k b p) (sym (append_assoc before (q ∷ []) ps)) is))

pub length_with_prefix : (rs : List RouterDef) (i : ℕ) (p : Prefix) → length (with_prefix rs i p) ≡ length rs
unfolding with_prefix
length_with_prefix [] i p = refl
length_with_prefix (r ∷ rs) zero p = refl
length_with_prefix (r ∷ rs) (suc i) p = ap suc (length_with_prefix rs i p)

router_more : (before : List RouterDef) (r : RouterDef) (p : Prefix) → IsRouter before r → IsPrefix r.kind r.prefixes p → length r.prefixes < 32 → IsRouter before (and_prefix r p)
router_more before r p h is few =
    record { named = h.named; apart = h.apart; few_prefixes = omega (arith, few, length-append r.prefixes (p ∷ [])); prefixes = prefixes_more r.kind [] r.prefixes p h.prefixes is }

pub routers_with_prefix : (before rs : List RouterDef) (i : ℕ) (p : Prefix) → i < length rs → AreRouters before rs → IsPrefix (get_or rs i nobody).kind (get_or rs i nobody).prefixes p → length (get_or rs i nobody).prefixes < 32 → AreRouters before (with_prefix rs i p)
unfolding with_prefix
routers_with_prefix before [] i p inside h is few = absurd (omega arith)
routers_with_prefix before (r ∷ rs) zero p inside h is few =
    (router_more before r p h.0 is few, same_before (before ++ r ∷ []) (before ++ and_prefix r p ∷ []) rs (names_joined before (r ∷ []) ∙ sym (names_joined before (and_prefix r p ∷ []))) h.1)
routers_with_prefix before (r ∷ rs) (suc i) p inside h is few =
    (h.0, routers_with_prefix (before ++ r ∷ []) rs i p (omega arith) h.1 is few)

-- ---- a prefix's numbers, in its line

address_again : (a : ℕ) → a < 2 ^ 32 → ((a / 2 ^ 24 * 256 + a / 2 ^ 16 % 256) * 256 + a / 2 ^ 8 % 256) * 256 + a % 256 ≡ a
address_again a small = omega arith

pub net_again : (p : Prefix) → p.address < 2 ^ 32 → address (net_of_prefix p) ≡ p.address
unfolding address
net_again p small = address_again p.address small

pub net_small : (p : Prefix) → p.address < 2 ^ 32 → p.len ≤ 32 → AreSmall (net_of_prefix p)
net_small p small short = (omega arith, omega arith, omega arith, omega arith, omega arith)

pub net_fits_again : (p : Prefix) → p.address < 2 ^ 32 → p.len ≤ 32 → net_fits (net_of_prefix p) ≡ true
net_fits_again p small short =
    let a = within 0 255 (p.address / 2 ^ 24) (omega arith) (omega arith) in
    let b = within 0 255 (p.address / 2 ^ 16 % 256) (omega arith) (omega arith) in
    let c = within 0 255 (p.address / 2 ^ 8 % 256) (omega arith) (omega arith) in
    let d = within 0 255 (p.address % 256) (omega arith) (omega arith) in
    let len = within 0 32 p.len (omega arith) short in
    rw (a, b, c, d, len) refl

a_length : (len : ℕ) → len ≤ 32 → nat_le len 32 ≡ true
a_length len short = search (rules, tests)

pub no_host_again : (p : Prefix) → p.address < 2 ^ 32 → p.len ≤ 32 → p.address % 2 ^ (32 - p.len) ≡ 0 → has_host_bits (net_of_prefix p) ≡ false
unfolding has_host_bits
no_host_again p small short none = rw (net_again p small, a_length p.len short, none) refl

-- ---- a prefix's cost, in its line

pub cost_small : (k : Kind) (cost : ℕ) → IsCost k cost → cost < 2 ^ 64
cost_small kind.Flood cost h = absurd h
cost_small kind.Ospf cost h = omega (arith, h.1)
cost_small kind.Rip cost h = omega (arith, h.1)

pub cost_wide : (k : Kind) (cost : ℕ) → IsCost k cost → between 1 65535 (Is cost) ≡ true
cost_wide kind.Flood cost h = absurd h
cost_wide kind.Ospf cost h = within 1 65535 cost h.0 h.1
cost_wide kind.Rip cost h = within 1 65535 cost h.0 (omega (arith, h.1))

pub cost_rip : (k : Kind) (cost : ℕ) → IsCost k cost → (is_rip k && not (between 1 15 (Is cost))) ≡ false
cost_rip kind.Flood cost h = absurd h
cost_rip kind.Ospf cost h = refl
cost_rip kind.Rip cost h = rw (within 1 15 cost h.0 h.1) refl

pub cost_flood : (k : Kind) (cost : ℕ) → IsCost k cost → is_flood k ≡ false
cost_flood kind.Flood cost h = absurd h
cost_flood kind.Ospf cost h = refl
cost_flood kind.Rip cost h = refl
