-- The neighbour at a port (RFC 2328 section 10): of its states the guest has Down, Init and Full.
use Rattle.std.specs.Prelude.{◌+◌, ◌==◌, ℕ, Bool, true, false, not, nat_le, List, [], ◌∷◌}
use Rattle.ospf_wire.specs.Constants.{RouterDeadInterval}
use Rattle.ospf_router.specs.declared.neighbour.Heard.{Heard}
use Rattle.ospf_router.specs.declared.neighbour.Neighbour.{Neighbour}
use Rattle.ospf_router.specs.declared.neighbour.Neighbour.TheVariants.{Down, Init, Full}

abbrev pub is_full : Neighbour → Bool
is_full Down = false
is_full (Init h) = false
is_full (Full h) = true

-- its router id, where it isn't Down
abbrev pub ids : Neighbour → List ℕ
ids Down = []
ids (Init h) = h.id ∷ []
ids (Full h) = h.id ∷ []

-- a Full neighbour of this id
abbrev pub is_full_of : ℕ → Neighbour → Bool
is_full_of id Down = false
is_full_of id (Init h) = false
is_full_of id (Full h) = h.id == id

-- it isn't Down, and has another id
abbrev pub is_other : ℕ → Neighbour → Bool
is_other id Down = false
is_other id (Init h) = not (h.id == id)
is_other id (Full h) = not (h.id == id)

-- it isn't Down, and was last heard RouterDeadInterval or more ticks ago (section 10.2, InactivityTimer)
abbrev pub is_dead : ℕ → Neighbour → Bool
is_dead now Down = false
is_dead now (Init h) = nat_le (h.tick + RouterDeadInterval) now
is_dead now (Full h) = nat_le (h.tick + RouterDeadInterval) now

-- heard now from this id
abbrev pub heard_now : ℕ → ℕ → Heard
heard_now id now = record { id = id; tick = now }
