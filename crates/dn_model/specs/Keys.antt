-- Moments, and the tie and the key of a message.
use Rattle.std.specs.Prelude.{Option, Some, None, nat_lt, ℕ, ◌+◌, ◌*◌, ◌/◌, ◌%◌, ◌^◌, bit_xor, ◌==◌, if◌then◌else◌, List, [], ◌∷◌}
use Rattle.dn_model.specs.declared.key.Key.{Key}
use Rattle.dn_model.specs.declared.timing.Timing.{Timing}

-- the time of an event: its group's begin, and the sum of delays since
abbrev pub moment : ℕ → Key → ℕ
moment period k = k.group * period + k.sum

-- sums and products wrap at 64 bits
abbrev pub wrap : ℕ → ℕ
wrap n = n % 2 ^ 64

unfoldable pub fin_step : ℕ → ℕ → ℕ
fin_step z shift = bit_xor z (z / 2 ^ shift)

-- the finish of SplitMix64
unfoldable pub fin : ℕ → ℕ
fin z = fin_step (wrap (fin_step (wrap (fin_step z 30 * 0xBF58476D1CE4E5B9)) 27 * 0x94D049BB133111EB)) 31

-- one round for each number, beginning with h
unfoldable pub rounds : ℕ → List ℕ → ℕ
rounds h [] = h
rounds h (v ∷ vs) = rounds (fin (wrap (wrap (h + 0x9E3779B97F4A7C15) + v))) vs

-- the tie of a message: 0 where the seed is 0
unfoldable pub tie : ℕ → ℕ → ℕ → ℕ → ℕ → ℕ
tie seed group sum origin seq = if seed == 0 then 0 else rounds seed (group ∷ sum ∷ origin ∷ seq ∷ [])

-- the key of the message at moment m that the sender numbered seq
unfoldable pub message_key : ℕ → ℕ → ℕ → ℕ → ℕ → Key
message_key period seed m origin seq =
    record { group = m / period; sum = m % period; class = 2; tie = tie seed (m / period) (m % period) origin seq; origin = origin; seq = seq }

-- the key of the message that an event with the key of the cause sends over this delay, where its moment comes before the end of the last group
unfoldable pub next_key : Timing → Key → ℕ → ℕ → ℕ → Option Key
next_key t cause delay origin seq =
    let m = moment t.period cause + delay in
    if nat_lt m (t.groups * t.period) then Some (message_key t.period t.seed m origin seq) else None
