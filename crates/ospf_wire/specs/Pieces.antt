-- Bytes that are pieces of one length.
use Rattle.std.specs.Prelude.{◌≡◌, ◌≤◌, ℕ, List, [], ◌∷◌, length, drop}

-- the bytes are pieces of n bytes each, and at each stands the next item of the list
abbrev pub ArePieces : {X : Type 0} → ℕ → (List ℕ → X) → List ℕ → List X → Type 0
ArePieces n item bytes [] = bytes ≡ []
ArePieces n item bytes (x ∷ xs) = (n ≤ length bytes) × (x ≡ item bytes) × ArePieces n item (drop n bytes) xs
