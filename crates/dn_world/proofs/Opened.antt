-- Nothing is handled or committed before the first step.
use Rattle.std.proofs.Common.{◌≡◌, ℕ, zero, suc, ◌+◌, ◌<◌, false, [], ◌∷◌, ◌++◌, length, get_or, take, replicate, refl, ap, ◌∙◌, arith}
use Rattle.std.specs.Prelude.{nat_lt}
use Rattle.std.proofs.Math.Seq.{take-nil}
use Rattle.std.proofs.lemmas.List.{length-replicate}
use Rattle.dn_model.specs.Network.{Network, joined, routers, tick}
use Rattle.dn_model.specs.Order.{sorted}
use Rattle.dn_model.specs.Settled.{below, row_limit}
use Rattle.dn_model.proofs.Rows.{joined_same}
use Rattle.dn_world.specs.World.{Part, no_part, part, opening}
use Rattle.dn_world.specs.Runs.{settled_rows, committed, is_cut_off}
use Rattle.dn_world.proofs.Parts.{get_ticked, todo_done}

get_replicate : (n r : ℕ) → get_or (replicate n no_part) r no_part ≡ no_part
get_replicate zero r = refl
get_replicate (suc n) zero = refl
get_replicate (suc n) (suc r) = get_replicate n r

nothing_done : (n r : ℕ) → r < n → (part (opening n) r).done ≡ []
unfolding part opening
nothing_done n r l =
    ap (λ (q : Part). q.done) (get_ticked 0 0 (replicate n no_part) r (let e = length-replicate n no_part in omega (arith, e, l)))
    ∙ todo_done (tick 0 (0 + r) ∷ []) (get_or (replicate n no_part) r no_part)
    ∙ ap (λ (q : Part). q.done) (get_replicate n r)

none_joined : (n : ℕ) → joined n (λ r. []) ≡ []
unfolding joined
none_joined zero = refl
none_joined (suc n) = ap (λ l. l ++ []) (none_joined n)

module _ {S : Type 0} (net : Network S) where
  pub nothing_settled : settled_rows net (opening (routers net)) ≡ []
  unfolding settled_rows below sorted
  nothing_settled =
      ap sorted (joined_same (routers net) (λ r. below (opening (routers net)).boundary (part (opening (routers net)) r).done) (λ r. []) (λ r l. ap (below (opening (routers net)).boundary) (nothing_done (routers net) r l)) ∙ none_joined (routers net))

  pub nothing_committed : committed net (opening (routers net)) ≡ []
  unfolding committed
  nothing_committed = ap (take row_limit) nothing_settled ∙ take-nil row_limit

  pub nothing_cut : is_cut_off net (opening (routers net)) ≡ false
  unfolding is_cut_off row_limit
  nothing_cut = ap (λ es. nat_lt row_limit (length es)) nothing_settled
