-- What `next` answers, and where the engine stands then.
use Rattle.std.specs.Prelude.{◌≡◌, ℕ, ◌+◌, ◌==◌, if◌then◌else◌, List, length}
use Rattle.dn_model.specs.declared.event.Event.{Event}
use Rattle.dn_model.specs.declared.feed.External.{External}
use Rattle.dn_model.specs.Network.{Network}
use Rattle.dn_model.specs.Settled.{row_limit, rows}
use Rattle.dn_lockstep.specs.declared.engine.Next.{Next}
use Rattle.dn_lockstep.specs.declared.engine.Next.TheVariants.{Row, End, Cut}
use Rattle.dn_lockstep.specs.Running.{Running, StandsIn, IsAtEnd}

-- after so many of these rows: End where there are no more, else Cut at the row limit, else a row
abbrev pub answer_after : ℕ → List Event → Next
answer_after place rows = if place == length rows then End else (if place == row_limit then Cut else Row)

-- where the engine stands after the answer: one row further at Row, otherwise where it stood
abbrev pub HasMoved : {S : Type 0} → Network S → List External → Running S → Next → Running S → Type 0
HasMoved net feed old Row new = StandsIn net feed new × (new.place ≡ old.place + 1)
HasMoved net feed old End new = (new ≡ old) × IsAtEnd net feed new
HasMoved net feed old Cut new = new ≡ old
