-- A piece of a line as text.
use Rattle.std.specs.Prelude.{ℕ, List}
use Rattle.std.specs.Fmt.{decimal}
use Rattle.dn_guest.specs.Hex.{hex}
use Rattle.dn_text.specs.Hexadecimals.{hex64}
use Rattle.dn_text.specs.declared.pieces.Piece.{Piece}
use Rattle.dn_text.specs.declared.pieces.Piece.TheVariants.{Text, Decimal, Hex, Hex64}

abbrev pub piece_text : Piece → List ℕ
piece_text (Text bytes) = bytes.now
piece_text (Decimal n) = decimal n
piece_text (Hex bytes) = hex bytes.now
piece_text (Hex64 n) = hex64 n
