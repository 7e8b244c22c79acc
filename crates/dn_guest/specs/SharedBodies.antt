-- A set of bodies that copies share: what it is as a list.
use Rattle.std.specs.Prelude.{ℕ, List, [], Option, Some, None}
use Rattle.std.specs.Arc.{arc_value}
use Rattle.std.specs.declared.sync.Arc.{Arc}
use Rattle.std.specs.BTreeSet.{BTreeSet}

-- the bodies in ascending order, none where there is no set
abbrev pub shared_bodies : {Y : Type 0} → Option (Arc (BTreeSet (List ℕ)) Y) → List (List ℕ)
shared_bodies None = []
shared_bodies (Some shared) = (arc_value shared).keys
