-- Links, and the ports that they make: a router's ports are numbered from 0 in the order of the links that name it.
use Rattle.std.specs.Prelude.{ℕ, Bool, ◌||◌, ◌==◌, if◌then◌else◌, Option, Some, None, List, count_by}
use Rattle.std.specs.List.{filter_map}
use Rattle.dn_model.specs.declared.link.Link.{Link}
use Rattle.dn_model.specs.declared.link.End.{End}

-- the link names the router
abbrev pub names : ℕ → Link → Bool
names r l = l.a == r || l.b == r

-- how many ports the links make at a router
unfoldable pub ports_of : List Link → ℕ → ℕ
ports_of links r = count_by (names r) links

-- the far end of a link that names r
unfoldable pub link_end : ℕ → Link → Option End
link_end r l =
    if l.a == r then Some (record { router = l.b; port = l.b_port; delay = l.delay; cost = l.cost })
    else if l.b == r then Some (record { router = l.a; port = l.a_port; delay = l.delay; cost = l.cost })
    else None

-- the far ends of r's ports, in order
unfoldable pub ends : List Link → ℕ → List End
ends links r = filter_map (link_end r) links
