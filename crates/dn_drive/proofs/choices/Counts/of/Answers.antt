use Rattle.std.proofs.Common.{◌≡◌, Bool, true, false, not, List, [], ◌∷◌, length, refl, ap, ◌∙◌}
use Rattle.std.specs.Prelude.{if◌then◌else◌}
use Rattle.std.specs.Int.{from_bool}
use Rattle.dn_model.specs.declared.feed.External.{External}
use Rattle.dn_model.specs.Cases.{Heading}
use Rattle.dn_world.specs.declared.step.Step.TheVariants.{Commit}
use Rattle.dn_world.specs.World.{World}
use Rattle.dn_fabric.specs.Work.{can_commit}
use Rattle.dn_drive.specs.Choices.{feed_steps, open_feed, commit_steps}
use Rattle.dn_drive.proofs.choices.Counts.of.Goals as goal

feeding_is : (h : Heading) (w : World) (xs : List External) (b : Bool) → b ≡ w.closed → from_bool (not b) ≡ length (feed_steps h w xs)
unfolding feed_steps
feeding_is h w xs b e = ap (λ c. from_bool (not c)) e ∙ byte w.closed
  where
    byte : (c : Bool) → from_bool (not c) ≡ length (if c then [] else open_feed h w xs ∷ [])
    byte true = refl
    byte false = refl

committing_is : (h : Heading) (w : World) (b : Bool) → b ≡ can_commit h w → from_bool b ≡ length (commit_steps h w)
unfolding commit_steps
committing_is h w b e = ap from_bool e ∙ byte (can_commit h w)
  where
    byte : (c : Bool) → from_bool c ≡ length (if c then Commit ∷ [] else [])
    byte true = refl
    byte false = refl

pub returns : goal.returns
returns g c =
    λ rest.
    let f = c.args.fabric.now.live in
    record {
      feeding = c.from.ensures ∙ feeding_is f.header f.world rest c.closed.result c.closed.ensures;
      flying = c.flying.ensures;
      behind = c.count_routers-behind.ensures.behind;
      ready = c.count_routers-behind.ensures.ready;
      committing = c.from-2.ensures ∙ committing_is f.header f.world c.can_commit.result c.can_commit.ensures;
    }
