-- What an enabled step may count on.
use Rattle.std.proofs.Common.{◌≡◌, suc, ◌+◌, ◌<◌, Bool, true, false, not, ◌&&◌, nat_lt, List, length, refl, subst, arith}
use Rattle.std.specs.Prelude.{◌==◌}
use Rattle.std.proofs.lemmas.Bool.{and_parts, ltb-true, eqb-true}
use Rattle.dn_guest.specs.Meaning.{Meaning}
use Rattle.dn_model.specs.Cases.{Heading}
use Rattle.dn_model.specs.Network.{Network, routers}
use Rattle.dn_world.specs.declared.step.Step.{Step}
use Rattle.dn_world.specs.declared.step.Step.TheVariants.{Beacon, Inject, Close, Deliver, Handle, RollBack, Commit}
use Rattle.dn_world.specs.World.{World, part, is_ready, is_behind}
use Rattle.dn_world.specs.Steps.{is_injectable, is_enabled}
use Rattle.dn_fabric.specs.Fabrics.{IsNetworkOf}

abbrev pub May : Heading → World → Step → Type 0
May h w Beacon = (w.closed ≡ false) × (w.floor + 1 < h.groups)
May h w (Inject x) = (w.closed ≡ false) × (x.group ≡ w.floor) × (x.router < length h.routers) × (is_injectable h x.router x.input ≡ true)
May h w Close = (w.closed ≡ false) × (w.floor + 1 ≡ h.groups)
May h w (Deliver place) = place < length w.flight
May h w (Handle r) = (r < length h.routers) × (is_ready (part w r) ≡ true)
May h w (RollBack r) = (r < length h.routers) × (is_behind (part w r) ≡ true)
May h w Commit = Unit {0}

pub not_so : (b : Bool) → not b ≡ true → b ≡ false
not_so true h = absurd (cc)
not_so false h = refl

pub may : {S : Type 0} (net : Network S) (w : World) (s : Step) → is_enabled net w s ≡ true → May net.header w s
unfolding is_enabled routers
may net w Beacon h =
    let a = and_parts (not w.closed) (nat_lt (suc w.floor) net.header.groups) h in
    let l : suc w.floor < net.header.groups = ltb-true (suc w.floor) net.header.groups a.1 in
    (not_so w.closed a.0, omega arith)
may net w (Inject x) h =
    let a = and_parts (not w.closed && (x.group == w.floor) && nat_lt x.router (routers net)) (is_injectable net.header x.router x.input) h in
    let b = and_parts (not w.closed && (x.group == w.floor)) (nat_lt x.router (routers net)) a.0 in
    let c = and_parts (not w.closed) (x.group == w.floor) b.0 in
    (not_so w.closed c.0, eqb-true x.group w.floor c.1, ltb-true x.router (length net.header.routers) b.1, a.1)
may net w Close h =
    let a = and_parts (not w.closed) (suc w.floor == net.header.groups) h in
    let l : suc w.floor ≡ net.header.groups = eqb-true (suc w.floor) net.header.groups a.1 in
    (not_so w.closed a.0, omega arith)
may net w (Deliver place) h = ltb-true place (length w.flight) h
may net w (Handle r) h =
    let a = and_parts (nat_lt r (routers net)) (is_ready (part w r)) h in
    (ltb-true r (length net.header.routers) a.0, a.1)
may net w (RollBack r) h =
    let a = and_parts (nat_lt r (routers net)) (is_behind (part w r)) h in
    (ltb-true r (length net.header.routers) a.0, a.1)
may net w Commit h = tt

-- the same where the step is enabled in each network of a header with a guest for each router, and there is one
pub may_here : {S : Type 0} (m : Meaning S) (h : Heading) (openings : List S) (w : World) (s t : Step) → s ≡ t → (net : Network S) × IsNetworkOf net m h openings → ((net : Network S) → IsNetworkOf net m h openings → is_enabled net w s ≡ true) → May h w t
may_here m h openings w s t e some f =
    subst (May h w) e (subst (λ h. May h w s) some.1.header (may some.0 w s (f some.0 some.1)))
