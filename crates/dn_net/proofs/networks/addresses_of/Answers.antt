use Rattle.std.proofs.Common.{◌≤◌, ◌^◌, arith}
use Rattle.std.proofs.Math.Pow.{pow_mono}
use Rattle.std.proofs.lemmas.Nat.{one_shl}
use Rattle.dn_net.proofs.networks.addresses_of.Goals as goal

pub returns-clause-most : goal.returns-clause-most
returns-clause-most c =
    let few : c.from.result ≤ 32 = omega arith in
    let whole = one_shl c.from.result 64 (omega arith) in
    let most : 2 ^ c.from.result ≤ 2 ^ 32 = pow_mono few in
    omega (arith, whole, most)
