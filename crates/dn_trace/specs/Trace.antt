-- The trace of a network's lockstep run.
use Rattle.std.specs.Prelude.{ℕ, zero, suc, if◌then◌else◌, List, [], ◌++◌, length, codes}
use Rattle.std.specs.Fmt.{decimal}
use Rattle.dn_guest.specs.declared.node.Node.{Node}
use Rattle.dn_guest.specs.Meaning.{Meaning}
use Rattle.dn_model.specs.declared.router.RouterDef.{RouterDef}
use Rattle.dn_model.specs.declared.event.Event.{Event}
use Rattle.dn_model.specs.declared.feed.External.{External}
use Rattle.dn_model.specs.Network.{Network, routers, state}
use Rattle.dn_model.specs.Settled.{lockstep, rows, shown_rows, row_limit, is_cut}
use Rattle.dn_trace.specs.Rows.{row_lines, state_line, last_field}

-- the state lines of the first n routers, in order
unfoldable pub state_lines : {S : Type 0} → Meaning S → List RouterDef → (ℕ → Node S) → ℕ → List ℕ
state_lines guest defs node zero = []
state_lines guest defs node (suc n) = state_lines guest defs node n ++ state_line guest defs n (node n)

-- `end trace N`, with the number of rows
unfoldable pub end_line : ℕ → List ℕ
end_line n = last_field (codes "end trace " ++ decimal n)

-- `cut 200000`
unfoldable pub cut_line : List ℕ
cut_line = last_field (codes "cut " ++ decimal row_limit)

-- the line `trace`, rows, and what ends them
abbrev pub shown_text : List RouterDef → List Event → List ℕ → List ℕ
shown_text routers rows ends = codes "trace\n" ++ (row_lines routers rows ++ ends)

module _ {S : Type 0} (net : Network S) (feed : List External) where
  -- the states after the last row, and the number of rows
  unfoldable pub last_lines : List ℕ
  last_lines =
      state_lines net.guests net.header.routers (λ r. state net r (lockstep net feed r)) (routers net)
      ++ end_line (length (rows net feed))

  -- how a trace ends behind its rows
  unfoldable pub end_text : List ℕ
  end_text = if is_cut net feed then cut_line else last_lines

  -- the rows as far as a trace shows them, and the end
  unfoldable pub trace_text : List ℕ
  trace_text = shown_text net.header.routers (shown_rows net feed) end_text
