use Rattle.std.proofs.Common.{◌≡◌, ◌++◌, length}
use Rattle.std.specs.List.{filter_map}
use Rattle.std.specs.Option.{option_copied}
use Rattle.dn_text.specs.Lines.{parts, other_parts}
use Rattle.dn_probe.specs.Routes.{route_of_line}
use Rattle.dn_probe.proofs.routes.read_routes.Given as goal

abbrev pub invariant-lines : goal.invariant-lines
invariant-lines l = l.made.items ++ filter_map (route_of_line l.rip) (other_parts 10 (option_copied l.left)) ≡ filter_map (route_of_line l.rip) (parts 10 l.show)

abbrev pub decreases-lines : goal.decreases-lines
decreases-lines l = length (other_parts 10 (option_copied l.left))
