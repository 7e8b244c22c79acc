-- The kinds of routers, and the prefixes that a router of a kind may have.
use Rattle.std.specs.Prelude.{◌≡◌, ℕ, ◌-◌, ◌<◌, ◌≤◌, ◌^◌, ◌%◌, List, [], ◌∷◌, ◌++◌, Bool, false, ◌&&◌, ◌==◌}
use Rattle.std.specs.List.{list_any}
use Rattle.dn_model.specs.declared.router.Kind.{Kind}
use Rattle.dn_model.specs.declared.router.Kind.TheVariants as kind
use Rattle.dn_model.specs.declared.router.Prefix.{Prefix}

-- the costs of a prefix: none at a flooding router, which has no prefix
abbrev pub IsCost : Kind → ℕ → Type 0
IsCost kind.Flood cost = ⊥
IsCost kind.Ospf cost = (1 ≤ cost) × (cost ≤ 65535)
IsCost kind.Rip cost = (1 ≤ cost) × (cost ≤ 15)

-- this address with this length is one of the prefixes
abbrev pub has_prefix : ℕ → ℕ → List Prefix → Bool
has_prefix address len prefixes = list_any (λ p. p.address == address && p.len == len) prefixes

-- the rules of a prefix at a router of a kind, behind those before it
pub record IsPrefix (k : Kind) (before : List Prefix) (p : Prefix) : Type 0 where
  pub len : p.len ≤ 32
  pub address : p.address < 2 ^ 32
  -- the address has no bits past the length
  pub no_host : p.address % 2 ^ (32 - p.len) ≡ 0
  pub cost : IsCost k p.cost
  pub apart : has_prefix p.address p.len before ≡ false

abbrev pub ArePrefixes : Kind → List Prefix → List Prefix → Type 0
ArePrefixes k before [] = Unit {0}
ArePrefixes k before (p ∷ ps) = IsPrefix k before p × ArePrefixes k (before ++ p ∷ []) ps
