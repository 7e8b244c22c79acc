-- Events by their moments.
use Rattle.std.specs.Prelude.{◌≡◌, ◌<◌, List, [], ◌∷◌, ◌++◌, length}
use Rattle.std.specs.Map.{keys_of}
use Rattle.std.specs.List.{AllByRecursion}
use Rattle.std.specs.List.Sorted.{IsStrictlySortedBy}
use Rattle.std.specs.Ordering.{nat_cmp, ordering_then}
use Rattle.std.specs.declared.cmp.Ordering.{Ordering}
use Rattle.dn_model.specs.declared.event.Event.{Event}
use Rattle.dn_lockstep.specs.declared.later.Moment.{Moment}

-- by the group, and then by the sum
abbrev pub moment_cmp : Moment → Moment → Ordering
moment_cmp a b = ordering_then (nat_cmp a.group b.group) (nat_cmp a.sum b.sum)

abbrev pub moment_of : Event → Moment
moment_of e = record { group = e.key.group; sum = e.key.sum }

-- the events of the buckets, one bucket after the other
abbrev pub in_buckets : List (Moment × List Event) → List Event
in_buckets [] = []
in_buckets (b ∷ bs) = b.1 ++ in_buckets bs

-- there are events in a bucket, all of its moment
abbrev pub IsBucket : Moment × List Event → Type 0
IsBucket b = (0 < length b.1) × AllByRecursion (λ e. moment_of e ≡ b.0) b.1

-- the moments rise from bucket to bucket
pub record AreBuckets (bs : List (Moment × List Event)) : Type 0 where
  pub rise : IsStrictlySortedBy moment_cmp (keys_of bs)
  pub each : AllByRecursion IsBucket bs
