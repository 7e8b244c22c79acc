-- What `apply` answers, and where the router stands then.
use Rattle.std.specs.Prelude.{◌≡◌}
use Rattle.std.specs.List.{AllByRecursion}
use Rattle.dn_guest.specs.Meaning.{Meaning}
use Rattle.dn_router.specs.declared.order.Applied.{Applied}
use Rattle.dn_router.specs.declared.order.Applied.TheVariants.{Done, Stale}
use Rattle.dn_world.specs.World.{Part}
use Rattle.dn_router.specs.Orders.{Task}
use Rattle.dn_router.specs.Routers.{Speculation, handled, emits_next, IsCurrent}

-- Done where the outcome is that of the order which the router would give now: the first event of todo, which like all of todo is at the router, is handled, and its emitted events are answered. Stale where it isn't: nothing changes
abbrev pub HasApplied : {S : Type 0} → Meaning S → Speculation S → Task S → Applied → Speculation S → Type 0
HasApplied guests before task (Done events) after =
    IsCurrent guests before task × (after ≡ record before { part = handled before.part }) × (events.items ≡ emits_next guests before) × AllByRecursion (λ e. e.router ≡ before.number) before.part.todo
HasApplied guests before task Stale after = (IsCurrent guests before task → ⊥) × (after ≡ before)

-- where a call found no memory in the middle: the router has the same number and the same commits, and some part
pub record HasLost {S : Type 0} (before after : Speculation S) : Type 0 where
  pub part : Part
  pub is : after ≡ record before { part = part }
