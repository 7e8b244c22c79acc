-- What a line that injects nothing says, by its words.
use Rattle.std.specs.Prelude.{ℕ, List, length, drop, nat_eq, codes, Option, Some, None, if◌then◌else◌}
use Rattle.std.specs.Option.{option_map}
use Rattle.std.specs.List.{starts_with}
use Rattle.dn_model.specs.declared.router.RouterDef.{RouterDef}
use Rattle.dn_model.specs.Routers.{number_of}
use Rattle.dn_text.specs.Decimals.{decimal_of}
use Rattle.dn_world.specs.declared.step.Step.{Step}
use Rattle.dn_world.specs.declared.step.Step.TheVariants.{Beacon, Close, Deliver, Handle, RollBack, Commit}
use Rattle.dn_case.specs.Shapes.{is_word}

-- what stands behind a word
abbrev pub behind : List ℕ → List ℕ → Option (List ℕ)
behind word text = if starts_with nat_eq text word then Some (drop (length word) text) else None

-- what follows of a field, where there is one, and else the other
abbrev pub of_field : Option (List ℕ) → (List ℕ → Option Step) → Option Step → Option Step
of_field None step other = other
of_field (Some field) step other = step field

-- the step of a line of a word and a field, before its newline
unfoldable pub field_step : List RouterDef → List ℕ → Option Step
field_step rs text =
    of_field (behind (codes "deliver ") text) (λ field. option_map Deliver (decimal_of field))
    (of_field (behind (codes "handle ") text) (λ field. option_map Handle (number_of rs field))
    (of_field (behind (codes "rollback ") text) (λ field. option_map RollBack (number_of rs field)) None))

-- the step of a line that injects nothing, before its newline
unfoldable pub plain_step : List RouterDef → List ℕ → Option Step
plain_step rs text =
    if is_word text (codes "beacon") then Some Beacon else
    (if is_word text (codes "close") then Some Close else
    (if is_word text (codes "commit") then Some Commit else field_step rs text))
