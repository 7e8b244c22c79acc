-- The answers of a metronome: how many beats have passed, call by call.
use Rattle.std.specs.Prelude.{◌≡◌, ℕ, ◌+◌, ◌-◌, min, List, length, get_or, Option, IfSome}
use Rattle.std.specs.Option.{option_map}
use Rattle.dn_io.specs.declared.metronome.ClockBeats.{ClockBeats}

-- the answers behind the first one
abbrev pub later : (ℕ → ℕ) → ℕ → ℕ
later beats n = beats (n + 1)

-- an answer is the first of those that were told, and those behind it are told then
abbrev pub Passes : ℕ → Option (ℕ → ℕ) → Option (ℕ → ℕ) → Type 0
Passes answer old now = IfSome old (λ beats. answer ≡ beats 0) × (now ≡ option_map later old)

-- these answers in turn, and then the last one again; 0 where there is none
abbrev pub in_turn : List ℕ → ℕ → ℕ
in_turn answers n = get_or answers (min n (length answers - 1)) 0

-- the last answer of a clock's beats
abbrev pub last_beat : {C : Type 0} → ClockBeats C → ℕ
last_beat beats = beats.last
