-- The routers of a header, by number and by name.
use Rattle.std.specs.Prelude.{ℕ, List, [], nat_eq, Option, slice_get, position}
use Rattle.std.specs.Option.{option_map_or}
use Rattle.std.specs.Cmp.Lexicographic.{pointwise}
use Rattle.dn_model.specs.declared.router.RouterDef.{RouterDef}

-- the number of the router of a name: its place, from 0
unfoldable pub number_of : List RouterDef → List ℕ → Option ℕ
number_of routers name = position (λ r. pointwise nat_eq name r.name) routers

-- the name of a router
abbrev pub name_at : List RouterDef → ℕ → List ℕ
name_at routers r = option_map_or (λ d. d.name) (slice_get routers r) []
