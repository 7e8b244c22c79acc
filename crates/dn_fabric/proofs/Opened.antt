-- A fabric before its first step.
use Rattle.std.proofs.Common.{◌≡◌, ℕ, ◌-◌, Bool, false, List, [], ◌++◌, length, take, replicate, refl, sym, ap, ◌∙◌, subst, arith}
use Rattle.std.proofs.Math.Seq.{take-nil}
use Rattle.std.proofs.lemmas.List.{length-replicate}
use Rattle.dn_guest.specs.Meaning.{Meaning}
use Rattle.dn_model.specs.Cases.{Heading, IsHeading}
use Rattle.dn_model.specs.Network.{Network, routers}
use Rattle.dn_world.specs.World.{opening}
use Rattle.dn_world.specs.Runs.{IsLegal, IsLegalFrom, IsBalanced, IsAllPast, run, world, committed, is_cut_off}
use Rattle.dn_fabric.specs.Fabrics.{Fabric, IsReached, opening_fabric}
use Rattle.dn_fabric.specs.Holds.{IsFabric}

module _ {S : Type 0} (net : Network S) where
  legal_none : IsLegal net []
  unfolding IsLegalFrom
  legal_none = tt

  world_none : world net [] ≡ opening (routers net)
  unfolding run
  world_none = refl

  -- what holds of the world before the first step
  pub record IsFirst : Type 0 where
    pub balanced : IsBalanced net (opening (routers net))
    pub past : IsAllPast net (opening (routers net)).boundary (opening (routers net))
    pub rows : committed net (opening (routers net)) ≡ []
    pub uncut : is_cut_off net (opening (routers net)) ≡ false

  opening_reached : IsFirst → (f : Fabric S) → f.journal ≡ [] → f.live.world ≡ opening (routers net) → f.live.rows ≡ [] → f.live.cut ≡ false → IsReached net f
  opening_reached first f steps at rows cut = record {
    legal = subst (IsLegal net) (sym steps) legal_none;
    world = ap (world net) steps ∙ world_none ∙ sym at;
    balanced = subst (IsBalanced net) (sym at) first.balanced;
    past = subst (λ w. IsAllPast net w.boundary w) (sym at) first.past;
    rows = rows ∙ sym first.rows ∙ ap (committed net) (sym at);
    cut = cut ∙ sym first.uncut ∙ ap (is_cut_off net) (sym at);
  }

-- what holds of a fabric holds before the first step
pub opening_holds : {S : Type 0} (guests : Meaning S) (h : Heading) (openings : List S) → ((net : Network S) → IsFirst net) → IsHeading h → length openings ≡ length h.routers → IsFabric guests (opening_fabric h openings)
unfolding IsLegalFrom routers
opening_holds guests h openings first rules count = record {
  rules = rules;
  openings = count;
  leases = length-replicate (length h.routers) false;
  legal = λ net of. tt;
  reached = λ net of running. opening_reached net (first net) (opening_fabric h openings) refl (ap (λ (g : Heading). opening (length g.routers)) (sym of.header)) refl refl;
}

-- none is leased
pub leases_are : (items made : List Bool) (n k m : ℕ) → items ≡ take n made ++ replicate (n - k) false → made ≡ [] → k ≡ 0 → n ≡ m → items ≡ replicate m false
leases_are items made n k m is none empty same =
    let left : n - k ≡ m = omega (arith, empty, same) in
    is ∙ (λ i. take n (none i) ++ replicate (left i) false) ∙ ap (λ l. l ++ replicate m false) (take-nil n)
