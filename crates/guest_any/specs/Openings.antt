-- The guest with which a router begins, and its settings.
use Rattle.std.specs.Prelude.{ℕ, List, [], map, slice_get}
use Rattle.std.specs.Option.{option_map_or}
use Rattle.dn_model.specs.declared.router.Kind.{Kind}
use Rattle.dn_model.specs.declared.router.Kind.TheVariants as kind
use Rattle.dn_model.specs.declared.router.Prefix.{Prefix}
use Rattle.dn_model.specs.Links.{ends}
use Rattle.dn_model.specs.Cases.{Heading}
use Rattle.ospf_router.specs.State.{opening as opening_ospf}
use Rattle.rip_guest.specs.State.{opening as opening_rip}
use Rattle.guest_any.specs.declared.any.AnyGuest.{AnyGuest}
use Rattle.guest_any.specs.declared.any.AnyGuest.TheVariants.{Flood, Ospf, Rip}

-- the costs of a router's ports, in the order of the ports: those of the links that name it
abbrev pub costs_of : Heading → ℕ → List ℕ
costs_of h r = map (λ e. e.cost) (ends h.links r)

-- prefixes as settings have them: the address, the length and the cost
abbrev pub networks_of : List Prefix → List (ℕ × ℕ × ℕ)
networks_of prefixes = map (λ p. (p.address, p.len, p.cost)) prefixes

-- the guest of a router of this kind with these prefixes
abbrev pub opening_of : Kind → Heading → ℕ → List Prefix → AnyGuest
opening_of kind.Flood h r prefixes = Flood []
opening_of kind.Ospf h r prefixes = Ospf (opening_ospf r (costs_of h r) (networks_of prefixes))
opening_of kind.Rip h r prefixes = Rip (opening_rip r (costs_of h r) (networks_of prefixes))

-- the guest of a router of the header before the first event
unfoldable pub opening_guest : Heading → ℕ → AnyGuest
opening_guest h r = option_map_or (λ d. opening_of d.kind h r d.prefixes) (slice_get h.routers r) (Flood [])
