-- What the calls of a fabric answer.
use Rattle.std.specs.Prelude.{◌≡◌, ◌+◌, true, false, length}
use Rattle.dn_model.specs.Network.{Network}
use Rattle.dn_router.specs.Orders.{Task}
use Rattle.dn_router.specs.Routers.{IsCurrent}
use Rattle.dn_world.specs.declared.step.Step.TheVariants.{Handle}
use Rattle.dn_world.specs.Steps.{after}
use Rattle.dn_fabric.specs.declared.answer.Moved.{Moved}
use Rattle.dn_fabric.specs.declared.answer.Moved.TheVariants as moved
use Rattle.dn_fabric.specs.declared.answer.Finished.{Finished}
use Rattle.dn_fabric.specs.declared.answer.Finished.TheVariants.{Applied, Stale}
use Rattle.dn_fabric.specs.Fabrics.{Live, Fabric, router_of, HasStepped, HasNoted, with_lease}

-- a Commit: so many rows were added; or the trace is cut
abbrev pub HasMoved : {S : Type 0} → Fabric S → Moved → Fabric S → Type 0
HasMoved before (moved.Moved n) now = (now.live.cut ≡ false) × (length now.live.rows ≡ length before.live.rows + n)
HasMoved before moved.Cut now = now.live.cut ≡ true

-- an outcome came back: the lease of its router ends; where it was applied its Handle was noted, and where it was stale nothing else has changed
abbrev pub HasEnded : {S : Type 0} → Fabric S → Task S → Finished → Fabric S → Type 0
HasEnded before task Applied now = HasNoted (with_lease before task.router false) (Handle task.router) now
HasEnded before task Stale now = now ≡ with_lease before task.router false

module _ {S : Type 0} (net : Network S) where
  -- the task is the order that its router would give now
  abbrev pub IsOrdered : Live S → Task S → Type 0
  IsOrdered l task = IsCurrent net.guests (router_of net l.world task.router) task

  -- an outcome came back to its router: Applied where it is that of the order which the router would give now, and the least event was handled; Stale where it isn't, and nothing changed
  abbrev pub HasHandled : Live S → Task S → Finished → Live S → Type 0
  HasHandled before task Applied now = IsOrdered before task × (now ≡ record before { world = after net before.world (Handle task.router) })
  HasHandled before task Stale now = (IsOrdered before task → ⊥) × (now ≡ before)

  -- the same of a fabric: the lease of the router ends
  abbrev pub HasFinished : Fabric S → Task S → Finished → Fabric S → Type 0
  HasFinished before task Applied now = IsOrdered before.live task × HasStepped net (with_lease before task.router false) (Handle task.router) now
  HasFinished before task Stale now = (IsOrdered before.live task → ⊥) × (now ≡ with_lease before task.router false)
