-- The image of a sound state is the plain one.
use Rattle.std.proofs.Common.{◌≡◌, ℕ, Bool, true, false, ◌/◌, ◌%◌, ◌^◌, ◌≤◌, ◌<◌, List, [], ◌∷◌, ◌++◌, length, refl, ap, append_assoc, arith}
use Rattle.std.specs.Prelude.{IfSome, Option, Some, None, ◌==◌, flat_map}
use Rattle.std.specs.List.{AllByRecursion}
use Rattle.std.proofs.lemmas.Bool.Decides.{nat_tests}
use Rattle.byteorder.specs.Endian.{big_bytes}
use Rattle.dn_net.specs.Networks.{Network, is_network}
use Rattle.rip_table.specs.declared.held.Held.{Held}
use Rattle.rip_table.specs.Routes.{Routes}
use Rattle.rip_table.specs.Sound.{IsSoundRoute}
use Rattle.rip_table.specs.Validation.{is_valid_destination}
use Rattle.rip_guest.specs.Image.{bit, four, mark_byte, rip_image, route_image, two, via_byte}
use Rattle.rip_guest.specs.PlainImage.{plain_image, plain_route}
use Rattle.rip_guest.specs.Sound.{IsSoundState}
use Rattle.rip_guest.specs.State.{RipState}

-- ---- numbers of so many bytes

plain_byte : (n : ℕ) → n < 2 ^ 8 → n ∷ [] ≡ big_bytes 1 n
plain_byte n fits =
    let low : n ≡ n % 256 = omega arith in
    ap (λ (b : ℕ). b ∷ []) low

plain_two : (n : ℕ) → n < 2 ^ 16 → two n ≡ big_bytes 2 n
plain_two n fits =
    let high : n / 256 ≡ n / 256 % 256 = omega arith in
    ap (λ (b : ℕ). b ∷ n % 256 ∷ []) high

plain_four : (n : ℕ) → n < 2 ^ 32 → four n ≡ big_bytes 4 n
plain_four n fits =
    let high : n / 16777216 ≡ n / 16777216 % 256 = omega arith in
    ap (λ (b : ℕ). b ∷ n / 65536 % 256 ∷ n / 256 % 256 ∷ n % 256 ∷ []) high

-- ---- the port and the mark

not_own_byte : (port ports : ℕ) → port < ports → ports ≤ 16 → (port == 255) ≡ false
not_own_byte port ports there few = grind (arith, nat_tests)

plain_mark : (via : Option ℕ) (changed : Bool) (ports : ℕ) (P : ℕ → Type 0) → ports ≤ 16 → IfSome via (λ port. (port < ports) × P port) → mark_byte via changed ≡ bit changed
plain_mark None changed ports P few there = refl
plain_mark (Some port) changed ports P few there = rw (not_own_byte port ports there.0 few) (omega arith)

via_fits : (via : Option ℕ) (ports : ℕ) (P : ℕ → Type 0) → ports ≤ 16 → IfSome via (λ port. (port < ports) × P port) → via_byte via < 2 ^ 8
via_fits None ports P few there = omega arith
via_fits (Some port) ports P few there = omega (arith, there.0, few)

bit_fits : (b : Bool) → bit b < 2 ^ 8
bit_fits true = omega arith
bit_fits false = omega arith

-- ---- a route

len_fits : (address len : ℕ) → is_network address len ≡ true → len < 2 ^ 8
len_fits address len network = grind (arith, nat_tests)

plain_route_is : (ports now : ℕ) (e : Network × Held) → ports ≤ 16 → now < 2 ^ 32 → IsSoundRoute ports now e → route_image e ≡ plain_route e
unfolding route_image plain_route
plain_route_is ports now e few early sound =
    let P : ℕ → Type 0 = λ _. is_valid_destination e.0.0 e.0.1 ≡ true in
    let address = plain_four e.0.0 sound.address in
    let len = plain_byte e.0.1 (len_fits e.0.0 e.0.1 sound.network) in
    let tag = plain_two e.1.tag sound.tag in
    let metric = plain_byte e.1.metric (omega (arith, sound.most)) in
    let via = plain_byte (via_byte e.1.via) (via_fits e.1.via ports P few sound.via) in
    let time = plain_four e.1.time (omega (arith, sound.time, early)) in
    let mark : mark_byte e.1.via e.1.changed ≡ bit e.1.changed = plain_mark e.1.via e.1.changed ports P few sound.via in
    let changed = plain_byte (bit e.1.changed) (bit_fits e.1.changed) in
    cc

plain_routes : (ports now : ℕ) (routes : Routes) → ports ≤ 16 → now < 2 ^ 32 → AllByRecursion (IsSoundRoute ports now) routes → flat_map route_image routes ≡ flat_map plain_route routes
plain_routes ports now [] few early all = refl
plain_routes ports now (e ∷ routes) few early all =
    let first = plain_route_is ports now e few early all.0 in
    let rest = plain_routes ports now routes few early all.1 in
    cc

-- ---- the whole

plain_costs : (costs : List ℕ) → AllByRecursion (λ cost. (1 ≤ cost) × (cost ≤ 16)) costs → costs ≡ flat_map (big_bytes 1) costs
plain_costs [] all = refl
plain_costs (c ∷ costs) all =
    let first = plain_byte c (omega (arith, all.0.1)) in
    let rest = plain_costs costs all.1 in
    cc

joined : (a p b q c r d t e u f v : List ℕ) → a ≡ p → b ≡ q → c ≡ r → d ≡ t → e ≡ u → f ≡ v → a ++ (b ++ (c ++ (d ++ (e ++ f)))) ≡ p ++ q ++ r ++ t ++ u ++ v
joined a p b q c r d t e u f v ab bq cr dt eu fv = rw (← ab, ← bq, ← cr, ← dt, ← eu, ← fv) (simp append_assoc refl)

pub told_plainly : (s : RipState) → IsSoundState s → rip_image s ≡ plain_image s
unfolding rip_image plain_image
told_plainly s sound =
    let number = plain_two s.number sound.number in
    let tick = plain_four s.last_tick (omega (arith, sound.tick)) in
    let ports = plain_byte (length s.costs) (omega (arith, sound.ports)) in
    let costs = plain_costs s.costs sound.costs in
    let count = plain_two (length s.routes) (omega (arith, sound.routes.few)) in
    let routes = plain_routes (length s.costs) s.last_tick s.routes sound.ports (omega (arith, sound.tick)) sound.routes.each in
    joined (two s.number) (big_bytes 2 s.number) (four s.last_tick) (big_bytes 4 s.last_tick) (length s.costs ∷ []) (big_bytes 1 (length s.costs))
    s.costs (flat_map (big_bytes 1) s.costs) (two (length s.routes)) (big_bytes 2 (length s.routes)) (flat_map route_image s.routes) (flat_map plain_route s.routes)
    number tick ports costs count routes
