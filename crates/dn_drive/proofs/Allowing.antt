-- In the feed of a case each external is one that its router takes, so the test that leaves this out is the whole one.
use Rattle.std.proofs.Common.{◌≡◌, ℕ, Bool, true, false, not, ◌&&◌, nat_lt, List, [], ◌∷◌, length, refl, subst}
use Rattle.std.specs.Prelude.{◌==◌, nat_le}
use Rattle.std.proofs.lemmas.Bool.{lt-ltb, le-leb}
use Rattle.dn_guest.specs.declared.input.Input.{Input}
use Rattle.dn_guest.specs.declared.input.Input.TheVariants.{Tick, Cmd, Down, Up, Msg}
use Rattle.dn_model.specs.declared.feed.External.{External}
use Rattle.dn_model.specs.Cases.{Heading, IsAsked, AreExternals}
use Rattle.dn_model.specs.Links.{ports_of}
use Rattle.dn_model.specs.Network.{Network, routers}
use Rattle.dn_world.specs.declared.step.Step.{Step}
use Rattle.dn_world.specs.declared.step.Step.TheVariants.{Beacon, Inject, Close, Deliver, Handle, RollBack, Commit}
use Rattle.dn_world.specs.World.{World, part, is_ready, is_behind}
use Rattle.dn_world.specs.Steps.{is_injectable, is_enabled}
use Rattle.dn_drive.specs.Allowed.{is_next, is_allowed_here, is_allowed}
use Rattle.dn_drive.proofs.Going.{InputsApart, same_external}

and_true : (a : Bool) → a ≡ (a && true)
and_true true = refl
and_true false = refl

pub both_from : (a b : Bool) → a ≡ true → b ≡ true → (a && b) ≡ true
both_from true b h k = k
both_from false b h k = absurd (cc)

-- what follows from the last test needs none of its own
left_out : (a b c n : Bool) → (n ≡ true → (b ≡ true) × (c ≡ true)) → (a && n) ≡ (a && b && c && n)
left_out false b c n f = refl
left_out true true true n f = refl
left_out true true false true f = absurd (let h : false ≡ true = (f refl).1 in cc)
left_out true true false false f = refl
left_out true false c true f = absurd (let h : false ≡ true = (f refl).0 in cc)
left_out true false c false f = refl

injectable : (h : Heading) (r : ℕ) (i : Input) → IsAsked (ports_of h.links r) i → is_injectable h r i ≡ true
unfolding is_injectable
injectable h r (Tick group) a = absurd a
injectable h r (Cmd body) a = both_from (nat_le 1 (length body)) (nat_le (length body) 255) (le-leb 1 (length body) a.0) (le-leb (length body) 255 a.1)
injectable h r (Down port) a = lt-ltb port (ports_of h.links r) a
injectable h r (Up port) a = lt-ltb port (ports_of h.links r) a
injectable h r (Msg port body) a = absurd a

next_is_taken : InputsApart → (h : Heading) (floor : ℕ) (xs : List External) (x : External) → AreExternals h floor xs → is_next xs x ≡ true → (nat_lt x.router (length h.routers) ≡ true) × (is_injectable h x.router x.input ≡ true)
next_is_taken apart h floor [] x a e = absurd (cc)
next_is_taken apart h floor (y ∷ ys) x a e =
    let same : y ≡ x = same_external apart y x e in
    subst (λ (z : External). (nat_lt z.router (length h.routers) ≡ true) × (is_injectable h z.router z.input ≡ true)) same
    (lt-ltb y.router (length h.routers) a.0.router, injectable h y.router y.input a.0.asked)

pub allowed_is : {S : Type 0} → InputsApart → (net : Network S) (w : World) (xs : List External) (s : Step) → AreExternals net.header w.floor xs → is_allowed_here net.header w xs s ≡ is_allowed net w xs s
unfolding is_allowed is_enabled routers
allowed_is apart net w xs Beacon a = refl
allowed_is apart net w xs (Inject x) a =
    left_out (not w.closed && (x.group == w.floor)) (nat_lt x.router (length net.header.routers)) (is_injectable net.header x.router x.input) (is_next xs x)
    (next_is_taken apart net.header w.floor xs x a)
allowed_is apart net w xs Close a = refl
allowed_is apart net w xs (Deliver place) a = and_true (nat_lt place (length w.flight))
allowed_is apart net w xs (Handle r) a = and_true (nat_lt r (length net.header.routers) && is_ready (part w r))
allowed_is apart net w xs (RollBack r) a = and_true (nat_lt r (length net.header.routers) && is_behind (part w r))
allowed_is apart net w xs Commit a = refl
