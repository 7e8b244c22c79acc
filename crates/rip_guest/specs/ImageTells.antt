-- Two states with one image are equal.
use Rattle.std.specs.Prelude.{◌≡◌, ℕ, ◌+◌, ◌/◌, ◌%◌, ◌^◌, ◌==◌, Bool, true, false, if◌then◌else◌, List, [], ◌∷◌, ◌++◌}
use Rattle.std.specs.Prelude.{length, flat_map, Option, Some, None, refl}
use Rattle.std.proofs.Common.{arith, ap, sym}
use Rattle.rip_table.specs.declared.held.Held.{Held}
use Rattle.dn_net.specs.Networks.{Network}
use Rattle.rip_table.specs.Routes.{Routes}
use Rattle.rip_guest.specs.State.{RipState}
use Rattle.rip_guest.specs.Image.{two, bit, via_byte, mark_byte, route_image, rip_image}

-- ---- numbers and lists

same_two : (m n : ℕ) → m / 2 ^ 8 ≡ n / 2 ^ 8 → m % 2 ^ 8 ≡ n % 2 ^ 8 → m ≡ n
same_two m n high low = omega arith

same_four : (m n : ℕ) → m / 2 ^ 24 ≡ n / 2 ^ 24 → m / 2 ^ 16 % 2 ^ 8 ≡ n / 2 ^ 16 % 2 ^ 8
    → m / 2 ^ 8 % 2 ^ 8 ≡ n / 2 ^ 8 % 2 ^ 8 → m % 2 ^ 8 ≡ n % 2 ^ 8 → m ≡ n
same_four m n a b c d = omega arith

same_parts : (a b u v : List ℕ) → length a ≡ length b → a ++ u ≡ b ++ v → (a ≡ b) × (u ≡ v)
same_parts [] [] u v l e = (refl, e)
same_parts [] (y ∷ b) u v l e = absurd (omega arith)
same_parts (x ∷ a) [] u v l e = absurd (omega arith)
same_parts (x ∷ a) (y ∷ b) u v l e =
    let tails : a ++ u ≡ b ++ v = cc in
    let rest = same_parts a b u v (omega arith) tails in
    let more : a ≡ b = rest.0 in
    (cc, rest.1)

-- ---- the port and the mark

same_bit : (c d : Bool) → bit c ≡ bit d → c ≡ d
same_bit true true e = refl
same_bit true false e = absurd (omega arith)
same_bit false true e = absurd (omega arith)
same_bit false false e = refl

no_mark : (c d : Bool) → bit c ≡ bit d + 2 → ⊥
no_mark true true e = omega arith
no_mark true false e = omega arith
no_mark false true e = omega arith
no_mark false false e = omega arith

past : (c d : Bool) (port : ℕ) → 255 ≡ port → bit c ≡ bit d + (if port == 255 then 2 else 0) → ⊥
past c d port is e = no_mark c d (rw (← is) at e)

same_mark : (c d : Bool) (p q : ℕ) → p ≡ q
    → bit c + (if p == 255 then 2 else 0) ≡ bit d + (if q == 255 then 2 else 0) → c ≡ d
same_mark c d p q is e =
    let marks : bit c + (if q == 255 then 2 else 0) ≡ bit d + (if q == 255 then 2 else 0) = rw is at e in
    same_bit c d (omega arith)

same_source : (v w : Option ℕ) (c d : Bool)
    → via_byte v ≡ via_byte w → mark_byte v c ≡ mark_byte w d → (v ≡ w) × (c ≡ d)
same_source None None c d via mark = (refl, same_bit c d mark)
same_source None (Some q) c d via mark = absurd (past c d q via mark)
same_source (Some p) None c d via mark = absurd (past d c p (cc) (cc))
same_source (Some p) (Some q) c d via mark = (ap (λ (n : ℕ). Some n) via, same_mark c d p q via mark)

-- ---- routes

same_route : (x y : Network × Held) (us vs : List ℕ) → route_image x ++ us ≡ route_image y ++ vs → (x ≡ y) × (us ≡ vs)
unfolding route_image
same_route x y us vs e =
    let address = same_four x.0.0 y.0.0 (cc) (cc) (cc) (cc) in
    let len : x.0.1 ≡ y.0.1 = cc in
    let tag = same_two x.1.tag y.1.tag (cc) (cc) in
    let metric : x.1.metric ≡ y.1.metric = cc in
    let source = same_source x.1.via y.1.via x.1.changed y.1.changed (cc) (cc) in
    let time = same_four x.1.time y.1.time (cc) (cc) (cc) (cc) in
    let rest : us ≡ vs = cc in (
      λ i. (
        (address i, len i),
        record {
          tag = tag i;
          metric = metric i;
          via = source.0 i;
          time = time i;
          changed = source.1 i;
        },
      ),
      rest,
    )

filled : (y : Network × Held) (us : List ℕ) → [] ≡ route_image y ++ us → ⊥
unfolding route_image
filled y us e = cc

same_routes : (a b : Routes) → flat_map route_image a ≡ flat_map route_image b → a ≡ b
same_routes [] [] e = refl
same_routes [] (y ∷ b) e = absurd (filled y (flat_map route_image b) e)
same_routes (x ∷ a) [] e = absurd (filled x (flat_map route_image a) (sym e))
same_routes (x ∷ a) (y ∷ b) e =
    let both = same_route x y (flat_map route_image a) (flat_map route_image b) e in
    let first : x ≡ y = both.0 in
    let rest : a ≡ b = same_routes a b both.1 in
    cc

-- ---- states

pub same_by_image : (a b : RipState) → rip_image a ≡ rip_image b → a ≡ b
unfolding rip_image
same_by_image a b e =
    let number = same_two a.number b.number (cc) (cc) in
    let tick = same_four a.last_tick b.last_tick (cc) (cc) (cc) (cc) in
    let ports : length a.costs ≡ length b.costs = cc in
    let behind : a.costs ++ (two (length a.routes) ++ flat_map route_image a.routes)
    ≡ b.costs ++ (two (length b.routes) ++ flat_map route_image b.routes) = cc in
    let parts = same_parts a.costs b.costs (two (length a.routes) ++ flat_map route_image a.routes)
    (two (length b.routes) ++ flat_map route_image b.routes) ports behind in
    let tails = parts.1 in
    let text : flat_map route_image a.routes ≡ flat_map route_image b.routes = cc in
    let costs = parts.0 in
    let routes = same_routes a.routes b.routes text in
    λ i. record { number = number i; last_tick = tick i; costs = costs i; routes = routes i }
