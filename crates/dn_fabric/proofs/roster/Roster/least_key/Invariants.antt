use Rattle.std.proofs.Common.{◌≡◌, drop}
use Rattle.dn_world.specs.World.{least_key}
use Rattle.dn_fabric.proofs.Leasts.{waiting_of}
use Rattle.dn_fabric.proofs.roster.Roster.least_key.Given as goal

-- the least so far and of what is left is that of all
abbrev pub invariant-loop-number : goal.invariant-loop-number
invariant-loop-number g l = least_key l.least (waiting_of (drop l.number l.self)) ≡ least_key l.fn.key (waiting_of l.self)
