-- How many steps of each kind there are to choose from.
use Rattle.std.specs.Prelude.{◌≡◌, Bool, List, length}
use Rattle.dn_model.specs.declared.feed.External.{External}
use Rattle.dn_model.specs.Cases.{Heading}
use Rattle.dn_world.specs.World.{Part, World, is_behind, is_ready}
use Rattle.dn_drive.specs.declared.choices.Counts.{Counts}
use Rattle.dn_drive.specs.declared.choices.Wanted.{Wanted}
use Rattle.dn_drive.specs.declared.choices.Wanted.TheVariants.{Behind, Ready}
use Rattle.dn_drive.specs.Choices.{commit_steps, feed_steps, passing}

-- whether a part is one of those that are looked for
abbrev pub test_of : Wanted → Part → Bool
test_of Behind p = is_behind p
test_of Ready p = is_ready p

-- the numbers of steps of each kind in this world, with the rest xs of the feed
pub record AreCounts (h : Heading) (w : World) (xs : List External) (c : Counts) : Type 0 where
  pub feeding : c.feeding ≡ length (feed_steps h w xs)
  pub flying : c.flying ≡ length w.flight
  pub behind : c.behind ≡ length (passing is_behind 0 w.parts)
  pub ready : c.ready ≡ length (passing is_ready 0 w.parts)
  pub committing : c.committing ≡ length (commit_steps h w)
