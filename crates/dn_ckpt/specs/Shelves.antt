-- A finite map from places to nodes, as the list of its entries in ascending order of the places.
use Rattle.std.specs.Prelude.{ℕ, ◌<◌, nat_le, max, if◌then◌else◌, Option, List, [], ◌∷◌, length}
use Rattle.std.specs.List.{filter}
use Rattle.std.specs.Ordering.{nat_cmp}
use Rattle.std.specs.BTreeMap.{insert_entry, is_at}
use Rattle.std.specs.Map.{lookup}
use Rattle.dn_guest.specs.declared.node.Node.{Node}

abbrev pub Kept : Type 0 → Type 0
Kept S = List (ℕ × Node S)

module _ {S : Type 0} where
  -- the node that is kept at a place
  abbrev pub kept_at : Kept S → ℕ → Option (Node S)
  kept_at kept place = lookup (is_at (nat_cmp place)) kept

  -- the map with this node at the place
  abbrev pub with_kept : Kept S → ℕ → Node S → Kept S
  with_kept kept place node = insert_entry nat_cmp kept place node

  -- the entries up to the place, and those from it on
  abbrev pub kept_up_to : ℕ → Kept S → Kept S
  kept_up_to place kept = filter (λ entry. nat_le entry.0 place) kept

  abbrev pub kept_from : ℕ → Kept S → Kept S
  kept_from place kept = filter (λ entry. nat_le place entry.0) kept

  -- the greatest kept place that isn't past the place
  unfoldable pub base_place : ℕ → Kept S → ℕ
  base_place place [] = 0
  base_place place (entry ∷ entries) = if nat_le entry.0 place then max entry.0 (base_place place entries) else base_place place entries

  -- some kept place isn't past the place
  abbrev pub HasBase : ℕ → Kept S → Type 0
  HasBase place kept = 0 < length (kept_up_to place kept)
