-- The far ends of all routers' ports.
use Rattle.std.specs.Prelude.{ℕ, zero, suc, List, [], ◌∷◌, ◌++◌}
use Rattle.dn_model.specs.declared.link.Link.{Link}
use Rattle.dn_model.specs.declared.link.End.{End}
use Rattle.dn_model.specs.Links.{ends}

-- the far ends of the ports of each of the first n routers
unfoldable pub all_ends : List Link → ℕ → List (List End)
all_ends links zero = []
all_ends links (suc n) = all_ends links n ++ ends links n ∷ []
