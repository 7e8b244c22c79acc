-- What an answer of a feeder adds to what it has given.
use Rattle.std.specs.Prelude.{◌≡◌, ℕ, Bool, true, false, List, [], ◌∷◌, ◌++◌, length, ◌≤◌, take}
use Rattle.dn_model.specs.Cases.{Heading, IsExternal, IsRecording}
use Rattle.dn_model.specs.declared.feed.External.{External}
use Rattle.dn_record.specs.declared.feeder.Fed.{Fed}
use Rattle.dn_record.specs.declared.feeder.Fed.TheVariants.{One, Closed}

-- the group of the last of these externals, or the one given if there is none
abbrev pub last_group : ℕ → List External → ℕ
last_group low [] = low
last_group low (x ∷ xs) = last_group x.group xs

-- what was given before, the answer, what has been given then, and whether the feeder has closed
abbrev pub HasGiven : Heading → List External → Fed → List External → Bool → Type 0
HasGiven h before (One router input stamp) after closed = let x : External = record { group = stamp; router = router; input = input } in
    (after ≡ before ++ x ∷ []) × (closed ≡ false) × IsExternal h (last_group 0 before) x
HasGiven h before Closed after closed = (after ≡ before) × (closed ≡ true)

-- the feeder of a list: so many of the list's first externals were given
pub record ListFeeding : Type 0 where
  pub header : Heading
  pub feed : List External
  pub place : ℕ
  pub closed : Bool

-- its list is the feed of a case, and it closes behind the last external
pub record IsListFeeding (f : ListFeeding) : Type 0 where
  pub case : IsRecording (record { header = f.header; feed = f.feed })
  pub place : f.place ≤ length f.feed
  pub closed : f.closed ≡ true → f.place ≡ length f.feed

abbrev pub given_of : ListFeeding → List External
given_of f = take f.place f.feed

-- a later state has the same header and the same list
pub record ComesFrom (f g : ListFeeding) : Type 0 where
  pub header : g.header ≡ f.header
  pub feed : g.feed ≡ f.feed
