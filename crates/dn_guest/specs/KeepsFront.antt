-- What a call that appends leaves in a text, also where it finds no memory.
use Rattle.std.specs.Prelude.{◌≡◌, ℕ, List, length, take}

-- what was there before still stands at the front
abbrev pub KeepsFront : List ℕ → List ℕ → Type 0
KeepsFront before now = take (length before) now ≡ before
