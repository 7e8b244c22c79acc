use Rattle.std.proofs.Common.{arith}
use Rattle.dn_drive.proofs.Counting.{total_is}
use Rattle.dn_drive.proofs.choices.Counts.total.Goals as goal

pub returns : goal.returns
returns g c =
    λ rest.
    let e = total_is c.args.fabric.now.live.header c.args.fabric.now.live.world rest c.args.self.now (c.requires rest) in
    omega (arith, e, c.from.ensures, c.from-2.ensures, c.from-3.ensures, c.from-4.ensures, c.from-5.ensures)
