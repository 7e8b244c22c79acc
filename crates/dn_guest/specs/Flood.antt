-- The flooding guest. Its state is a set of bodies, as the list of them in ascending order.
use Rattle.std.specs.Prelude.{ℕ, ◌/◌, ◌%◌, ◌<◌, ◌≤◌, Bool, ◌&&◌, not, ◌==◌, nat_lt, if◌then◌else◌, List, [], ◌∷◌, ◌++◌, length, map, filter, Option, Some, None, codes}
use Rattle.std.specs.List.{range_with_len, list_any, flat_map, AllByRecursion}
use Rattle.std.specs.Ordering.{nat_cmp, is_eq}
use Rattle.std.specs.Cmp.Lexicographic.{slice_cmp}
use Rattle.std.specs.BTreeSet.{insert_key}
use Rattle.dn_guest.specs.declared.input.Input.{Input}
use Rattle.dn_guest.specs.declared.input.Input.TheVariants.{Tick, Cmd, Down, Up, Msg}
use Rattle.dn_guest.specs.declared.outbox.Output.{Output}
use Rattle.dn_guest.specs.Hex.{hex}
use Rattle.dn_guest.specs.Meaning.{Meaning}
use Rattle.dn_guest.specs.Ports.{is_up}

abbrev pub Bodies : Type 0
Bodies = List (List ℕ)

-- the body stands in the set
abbrev pub has : Bodies → List ℕ → Bool
has bodies body = list_any (λ held. is_eq (slice_cmp nat_cmp body held)) bodies

-- a body of 1 to 255 bytes that isn't in the set, where fewer than 65,535 are there
abbrev pub is_new : Bodies → List ℕ → Bool
is_new bodies body = (nat_lt 0 (length body) && nat_lt (length body) 256) && (nat_lt (length bodies) 65535 && not (has bodies body))

-- the set with a body that is new
abbrev pub with_body : Bodies → List ℕ → Bodies
with_body bodies body = if is_new bodies body then insert_key (slice_cmp nat_cmp) bodies body else bodies

-- the port is up, and isn't the one on which the body came
abbrev pub goes_to : ℕ → Option ℕ → ℕ → Bool
goes_to ports None port = is_up ports port
goes_to ports (Some from) port = is_up ports port && not (port == from)

-- the body on each such port, in ascending order
abbrev pub copies : ℕ → Option ℕ → List ℕ → List Output
copies ports from body = filter (λ output. goes_to ports from output.port) (map (λ port. record { port = port; body = body }) (range_with_len 0 16))

abbrev pub flooded : ℕ → Option ℕ → Bodies → List ℕ → List Output
flooded ports from bodies body = if is_new bodies body then copies ports from body else []

abbrev pub flood_after : Bodies → ℕ → Input → Bodies
flood_after bodies ports (Cmd body) = with_body bodies body
flood_after bodies ports (Msg port body) = with_body bodies body
flood_after bodies ports (Tick group) = bodies
flood_after bodies ports (Down port) = bodies
flood_after bodies ports (Up port) = bodies

abbrev pub flood_outs : Bodies → ℕ → Input → List Output
flood_outs bodies ports (Cmd body) = flooded ports None bodies body
flood_outs bodies ports (Msg port body) = flooded ports (Some port) bodies body
flood_outs bodies ports (Tick group) = []
flood_outs bodies ports (Down port) = []
flood_outs bodies ports (Up port) = []

-- the number of bodies in two bytes, then each body behind its length
abbrev pub flood_image : Bodies → List ℕ
flood_image bodies = (length bodies / 256) ∷ (length bodies % 256) ∷ flat_map (λ body. length body ∷ body) bodies

-- a line for each body: `seen` and the body in hexadecimal
abbrev pub seen_line : List ℕ → List ℕ
seen_line body = codes "seen " ++ hex body ++ 10 ∷ []

abbrev pub flood_show : Bodies → List ℕ
flood_show bodies = flat_map seen_line bodies

-- the flooding guest
abbrev pub flood : Meaning Bodies
flood = record { after = flood_after; outs = flood_outs; sort = λ _. 0; image = flood_image; show = flood_show }

-- what each set of a guest keeps
abbrev pub IsBody : List ℕ → Type 0
IsBody body = (0 < length body) × (length body < 256)

pub record AreBodies (bodies : Bodies) : Type 0 where
  pub few : length bodies ≤ 65535
  pub each : AllByRecursion IsBody bodies
