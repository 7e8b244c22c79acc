-- Routers before their first event.
use Rattle.std.specs.Prelude.{ℕ, suc, ◌-◌, ◌^◌, List, [], ◌∷◌}
use Rattle.dn_model.specs.Cases.{Heading, timing_of}
use Rattle.dn_model.specs.Links.{ends, ports_of}
use Rattle.dn_model.specs.Network.{tick}
use Rattle.dn_world.specs.World.{no_part, with_todo, key_of}
use Rattle.dn_router.specs.Routers.{Speculation}

-- a router with this number and guest: all its ports are up, nothing was sent, and the tick of group 0 is to be handled
abbrev pub router_before : {S : Type 0} → Heading → ℕ → S → Speculation S
router_before h r guest =
    record {
      number = r;
      ends = ends h.links r;
      timing = timing_of h;
      opening = record { guest = guest; ports = 2 ^ ports_of h.links r - 1; sends = 0 };
      part = with_todo (tick 0 r ∷ []) no_part;
      committed = 0;
      bound = key_of 0 0;
    }

-- one for each guest, the first at router r
unfoldable pub routers_from : {S : Type 0} → Heading → ℕ → List S → List (Speculation S)
routers_from h r [] = []
routers_from h r (s ∷ ss) = router_before h r s ∷ routers_from h (suc r) ss
