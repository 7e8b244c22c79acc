-- What goes out on one port more.
use Rattle.std.proofs.Common.{◌≡◌, ℕ, ◌+◌, Bool, true, false, cond, List, [], ◌∷◌, ◌++◌, map, filter, refl, sym, ap, ◌∙◌, arith}
use Rattle.std.specs.List.{range_with_len, flat_map}
use Rattle.std.proofs.lemmas.List.{append-nil, map-id, map-append}
use Rattle.std.proofs.lemmas.List.FromFn.{map-range_with_len_more}
use Rattle.std.proofs.lemmas.List.Elements.{filter-append}
use Rattle.std.proofs.lemmas.Grind.{flat_map-append}
use Rattle.dn_guest.specs.declared.outbox.Output.{Output}
use Rattle.dn_guest.specs.Ports.{is_up}
use Rattle.rip_table.specs.Routes.{Routes}
use Rattle.rip_guest.specs.State.{up_ports}
use Rattle.rip_guest.specs.Updates.{request_on, requests, update_on, updates}

range_more : (n : ℕ) → range_with_len 0 (n + 1) ≡ range_with_len 0 n ++ n ∷ []
range_more n =
    sym (map-id (range_with_len 0 (n + 1))) ∙ map-range_with_len_more (λ (k : ℕ). k) 0 n n (omega arith)
    ∙ ap (λ (l : List ℕ). l ++ n ∷ []) (map-id (range_with_len 0 n))

one_port : (b : Bool) (ports n : ℕ) → is_up ports n ≡ b → filter (is_up ports) (n ∷ []) ≡ cond b (n ∷ []) []
one_port true ports n t = rw t refl
one_port false ports n t = rw t refl

pub up_more : (ports n : ℕ) → up_ports ports (n + 1) ≡ up_ports ports n ++ cond (is_up ports n) (n ∷ []) []
up_more ports n =
    ap (filter (is_up ports)) (range_more n) ∙ filter-append (is_up ports) (range_with_len 0 n) (n ∷ [])
    ∙ ap (λ (l : List ℕ). up_ports ports n ++ l) (one_port (is_up ports n) ports n refl)

requests_of : (b : Bool) (n : ℕ) → map request_on (cond b (n ∷ []) []) ≡ cond b (request_on n ∷ []) []
requests_of true n = refl
requests_of false n = refl

pub requests_more : (ports n : ℕ) → requests ports (n + 1) ≡ requests ports n ++ cond (is_up ports n) (request_on n ∷ []) []
requests_more ports n =
    ap (map request_on) (up_more ports n) ∙ map-append request_on (up_ports ports n) (cond (is_up ports n) (n ∷ []) [])
    ∙ ap (λ (l : List Output). requests ports n ++ l) (requests_of (is_up ports n) n)

updates_of : (b : Bool) (f : ℕ → List Output) (n : ℕ) → flat_map f (cond b (n ∷ []) []) ≡ cond b (f n) []
updates_of true f n = append-nil (f n)
updates_of false f n = refl

pub updates_more : (only : Bool) (routes : Routes) (ports n : ℕ) → updates only routes ports (n + 1) ≡ updates only routes ports n ++ cond (is_up ports n) (update_on only routes n) []
updates_more only routes ports n =
    ap (flat_map (update_on only routes)) (up_more ports n) ∙ flat_map-append (update_on only routes) (up_ports ports n) (cond (is_up ports n) (n ∷ []) [])
    ∙ ap (λ (l : List Output). updates only routes ports n ++ l) (updates_of (is_up ports n) (update_on only routes) n)
