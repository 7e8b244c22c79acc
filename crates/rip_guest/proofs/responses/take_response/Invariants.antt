use Rattle.std.proofs.Common.{◌≡◌, drop}
use Rattle.std.specs.Prelude.{fold}
use Rattle.rip_table.specs.Response.{entry_taken}
use Rattle.rip_guest.proofs.responses.take_response.Given as goal

abbrev pub invariant-loop-entry : goal.invariant-loop-entry
invariant-loop-entry l =
    fold (λ r e. entry_taken l.port l.cost e l.now r) l.table (drop l.entry-index l.entries) ≡ fold (λ r e. entry_taken l.port l.cost e l.now r) l.fn.table l.entries
