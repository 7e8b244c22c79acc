use Rattle.std.proofs.Common.{◌≡◌, length}
use Rattle.std.specs.Option.{option_copied}
use Rattle.dn_text.specs.Lines.{parts, other_parts}
use Rattle.dn_probe.specs.Routes.{lesser, least_port}
use Rattle.dn_probe.proofs.routes.least_port.Given as goal

abbrev pub invariant-words : goal.invariant-words
invariant-words l = lesser l.least (least_port (other_parts 32 (option_copied l.left))) ≡ least_port (parts 32 l.text)

abbrev pub decreases-words : goal.decreases-words
decreases-words l = length (other_parts 32 (option_copied l.left))
