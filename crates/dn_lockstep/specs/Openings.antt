-- The nodes before the first event.
use Rattle.std.specs.Prelude.{ℕ, suc, ◌-◌, ◌^◌, List, [], ◌∷◌}
use Rattle.dn_guest.specs.declared.node.Node.{Node}
use Rattle.dn_model.specs.declared.link.Link.{Link}
use Rattle.dn_model.specs.Links.{ports_of}

-- a node for each guest, the first at this router: all ports are up, and nothing was sent
unfoldable pub opening_from : {S : Type 0} → List Link → ℕ → List S → List (Node S)
opening_from links r [] = []
opening_from links r (s ∷ ss) = record { guest = s; ports = 2 ^ ports_of links r - 1; sends = 0 } ∷ opening_from links (suc r) ss
