-- What `lost` and `loop` remember of each router.
use Rattle.std.specs.Prelude.{ℕ, ◌+◌, Bool, true, false, List, [], ◌∷◌, map, flat_map, drop, codes, slice_get, slice_set, Option, Some, None}
use Rattle.dn_model.specs.declared.router.Kind.{Kind}
use Rattle.dn_model.specs.declared.router.Kind.TheVariants as kind
use Rattle.dn_model.specs.declared.router.RouterDef.{RouterDef}
use Rattle.dn_model.specs.declared.link.Link.{Link}
use Rattle.dn_model.specs.Cases.{Heading}
use Rattle.dn_model.specs.Links.{ends}
use Rattle.dn_probe.specs.declared.routes.Route.{Route}
use Rattle.dn_probe.specs.Meaning.{Memory}
use Rattle.dn_probe.specs.Routes.{is_word, routes}

-- whether it runs RIP, the routers at the far ends of its ports in the order of the ports, and its show as last shown
pub record Standing : Type 0 where
  pub rip : Bool
  pub far : List ℕ
  pub show : List ℕ

-- the routes that it had as last shown
abbrev pub routes_at : Standing → List Route
routes_at s = routes s.rip s.show

abbrev pub is_rip : Kind → Bool
is_rip kind.Flood = false
is_rip kind.Ospf = false
is_rip kind.Rip = true

-- the routers from this number on, before anything was shown
unfoldable pub opened : List Link → ℕ → List RouterDef → List Standing
opened links number [] = []
opened links number (r ∷ rs) = record { rip = is_rip r.kind; far = map (λ e. e.router) (ends links number); show = [] } ∷ opened links (number + 1) rs

abbrev pub opened_of : Heading → List Standing
opened_of header = opened header.links 0 header.routers

-- the standing with this show in place of its own
abbrev pub shown_as : List Standing → ℕ → List ℕ → Option Standing → List Standing
shown_as standings router show None = standings
shown_as standings router show (Some s) = slice_set standings router (record s { show = show })

-- the router's show is this one now; nothing changes where there is no such router
unfoldable pub shown_at : List Standing → ℕ → List ℕ → List Standing
shown_at standings router show = shown_as standings router show (slice_get standings router)

-- ---- as texts: for each router whether it runs RIP, the routers at the far ends, and the show

abbrev pub rip_text : Bool → List ℕ
rip_text true = codes "rip"
rip_text false = []

abbrev pub texts_of : Standing → Memory
texts_of s = rip_text s.rip ∷ s.far ∷ s.show ∷ []

unfoldable pub memory_of : List ℕ → List Standing → Memory
memory_of times standings = times ∷ flat_map texts_of standings

abbrev pub standings_in : Memory → List Standing
standings_in [] = []
standings_in (rip ∷ []) = []
standings_in (rip ∷ far ∷ []) = []
standings_in (rip ∷ far ∷ show ∷ texts) = record { rip = is_word rip (codes "rip"); far = far; show = show } ∷ standings_in texts

unfoldable pub standings_of : Memory → List Standing
standings_of memory = standings_in (drop 1 memory)
