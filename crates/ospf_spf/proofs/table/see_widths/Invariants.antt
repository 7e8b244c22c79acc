use Rattle.std.proofs.Common.{◌^◌, take}
use Rattle.std.specs.List.{All}
use Rattle.ospf_spf.specs.Table.{IsWide}
use Rattle.ospf_spf.proofs.table.see_widths.Given as goal

abbrev pub invariant-loop-route : goal.invariant-loop-route
invariant-loop-route l = All (IsWide (2 ^ 32) (2 ^ 32)) (take l.route-index l.routes)
