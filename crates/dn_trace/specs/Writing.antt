-- What is written of rows that come in pieces.
use Rattle.std.specs.Prelude.{ℕ, ◌+◌, ◌-◌, ◌^◌, min, zero, suc, List, [], ◌∷◌, ◌++◌, length, codes}
use Rattle.dn_model.specs.declared.router.RouterDef.{RouterDef}
use Rattle.dn_model.specs.declared.event.Event.{Event}
use Rattle.dn_trace.specs.Rows.{row_lines}

-- the line `trace` goes before the first row
unfoldable pub opening_line : ℕ → List Event → List ℕ
opening_line zero [] = []
opening_line zero (row ∷ rows) = codes "trace\n"
opening_line (suc n) rows = []

-- further rows, where so many were written before
unfoldable pub more_rows : List RouterDef → ℕ → List Event → List ℕ
more_rows routers before rows = opening_line before rows ++ row_lines routers rows

-- how many were written then; the count stands still at the end of 64 bits
abbrev pub counted : ℕ → List Event → ℕ
counted before rows = min (before + length rows) (2 ^ 64 - 1)
