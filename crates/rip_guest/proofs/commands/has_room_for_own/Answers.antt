use Rattle.std.proofs.Common.{arith}
use Rattle.rip_guest.proofs.commands.has_room_for_own.Goals as goal

pub returns-else-is_own : goal.returns-else-is_own
returns-else-is_own c = grind arith
