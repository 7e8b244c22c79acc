-- What comes to all routers.
use Rattle.std.specs.Prelude.{◌≡◌, ℕ, suc, List, [], ◌∷◌, length, Some, slice_get}
use Rattle.dn_model.specs.Network.{tick}
use Rattle.dn_world.specs.World.{with_todo}
use Rattle.dn_router.specs.Routers.{Speculation}

-- the tick of the group came to each router, numbered from r on
unfoldable pub all_ticked : {S : Type 0} → ℕ → ℕ → List (Speculation S) → List (Speculation S)
all_ticked group r [] = []
all_ticked group r (s ∷ ss) = record s { part = with_todo (tick group r ∷ []) s.part } ∷ all_ticked group (suc r) ss

-- the same routers, each as before but for its part of the world
pub record AreAsBefore {S : Type 0} (before now : List (Speculation S)) : Type 0 where
  pub count : length now ≡ length before
  pub each : (r : ℕ) (s : Speculation S) → slice_get now r ≡ Some s → (old : Speculation S) × (slice_get before r ≡ Some old) × (s ≡ record old { part = s.part })
