-- What is committed at all routers.
use Rattle.std.specs.Prelude.{◌≡◌, ℕ, not, Some, List, [], ◌∷◌, ◌++◌, length, slice_get}
use Rattle.std.specs.List.{filter}
use Rattle.dn_model.specs.declared.event.Event.{Event}
use Rattle.dn_model.specs.declared.key.Key.{Key}
use Rattle.dn_model.specs.Order.{is_below}
use Rattle.dn_model.specs.Settled.{below}
use Rattle.dn_router.specs.Routers.{Speculation}

-- the router after all that it has handled below the key was committed
abbrev pub committed_to : {S : Type 0} → Key → Speculation S → Speculation S
committed_to key s = record s { committed = length (below key s.part.done); bound = key }

-- what it has handled below the key that wasn't below the key of its last commit
abbrev pub fresh_at : {S : Type 0} → Key → Speculation S → List Event
fresh_at key s = filter (λ e. not (is_below s.bound e)) (below key s.part.done)

-- that of all routers, router by router
unfoldable pub fresh_of : {S : Type 0} → Key → List (Speculation S) → List Event
fresh_of key [] = []
fresh_of key (s ∷ ss) = fresh_at key s ++ fresh_of key ss

-- each router is as before, but for what was committed
pub record AreAsHandled {S : Type 0} (before now : List (Speculation S)) : Type 0 where
  pub count : length now ≡ length before
  pub each : (r : ℕ) (s : Speculation S) → slice_get now r ≡ Some s → (old : Speculation S) × (slice_get before r ≡ Some old) × (s ≡ record old { committed = s.committed; bound = s.bound })
