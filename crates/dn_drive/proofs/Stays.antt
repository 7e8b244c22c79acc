-- A fabric that is driven stays so with each step, and its network stays in any case.
use Rattle.std.proofs.Common.{◌≡◌, ◌≤◌, false, length, get_or, OnOk, OnErr, sym, ap, ◌∙◌, subst}
use Rattle.std.specs.declared.result.Result.{Result}
use Rattle.std.specs.declared.result.Result.TheVariants.{Ok, Err}
use Rattle.dn_guest.specs.Meaning.{Meaning}
use Rattle.dn_model.specs.Network.{Network, routers}
use Rattle.dn_world.specs.declared.step.Step.{Step}
use Rattle.dn_fabric.specs.Fabrics.{Fabric, IsNetworkOf, HasStepped, HasStopped}
use Rattle.dn_drive.specs.Driving.{IsDriven, IsOfSameNetwork}

module _ {S : Type 0} where
  stays_in : (net : Network S) (m : Meaning S) (before now : Fabric S) (s : Step) → IsDriven before → IsNetworkOf net m before.live.header before.live.openings → HasStepped net before s now → IsDriven now × IsOfSameNetwork before now
  unfolding routers
  stays_in net m before now s d is h =
      let header : now.live.header ≡ before.live.header = ap (λ (f : Fabric S). f.live.header) h.is in
      let openings : now.live.openings ≡ before.live.openings = ap (λ (f : Fabric S). f.live.openings) h.is in
      let leased : now.leased ≡ before.leased = ap (λ (f : Fabric S). f.leased) h.is in (
        record {
          some = subst (λ g. 1 ≤ length g.routers) (sym header) d.some;
          one_each = ap length openings ∙ d.one_each ∙ ap (λ g. length g.routers) (sym header);
          leases = ap length leased ∙ d.leases ∙ ap (λ g. length g.routers) (sym header);
          running = ap (λ (f : Fabric S). f.live.stopped) h.is ∙ d.running;
          free = λ r. ap (λ l. get_or l r false) leased ∙ d.free r;
          parts = h.reached.balanced.count ∙ ap (λ g. length g.routers) (is.header ∙ sym header);
        },
        record { header = header; openings = openings },
      )

  -- there is a network of the fabric
  abbrev pub HasNetwork : Meaning S → Fabric S → Type 0
  HasNetwork m f = (net : Network S) × IsNetworkOf net m f.live.header f.live.openings

  -- a step in each network of the fabric
  abbrev pub Steps : Meaning S → Fabric S → Step → Fabric S → Type 0
  Steps m before s now = (net : Network S) → IsNetworkOf net m before.live.header before.live.openings → HasStepped net before s now

  stays : (m : Meaning S) (before now : Fabric S) (s : Step) → IsDriven before → HasNetwork m before → Steps m before s now → IsDriven now × IsOfSameNetwork before now
  stays m before now s d some f = stays_in some.0 m before now s d some.1 (f some.0 some.1)

  pub driven_on : {X E : Type 0} (m : Meaning S) (before now : Fabric S) (s : Step) (r : Result X E) → IsDriven before → HasNetwork m before → ((net : Network S) → IsNetworkOf net m before.live.header before.live.openings → OnOk r (HasStepped net before s now)) → OnOk r (IsDriven now)
  driven_on m before now s (Ok x) d some f = (stays m before now s d some f).0
  driven_on m before now s (Err e) d some f = tt

  pub network_on : {X E : Type 0} (m : Meaning S) (before now : Fabric S) (s : Step) (r : Result X E) → IsDriven before → HasNetwork m before → ((net : Network S) → IsNetworkOf net m before.live.header before.live.openings → OnOk r (HasStepped net before s now)) → OnErr r (IsOfSameNetwork before now) → IsOfSameNetwork before now
  network_on m before now s (Ok x) d some f e = (stays m before now s d some f).1
  network_on m before now s (Err err) d some f e = e

  pub network_stopped : {X E : Type 0} (before now : Fabric S) (r : Result X E) → OnErr r (HasStopped before now) → OnErr r (IsOfSameNetwork before now)
  network_stopped before now (Ok x) e = tt
  network_stopped before now (Err err) e = record { header = e.halted.header; openings = e.halted.openings }
