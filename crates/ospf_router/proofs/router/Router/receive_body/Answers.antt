use Rattle.std.proofs.Common.{◌+◌, ◌*◌, ◌≤◌, length, List, sym, subst}
use Rattle.ospf_wire.specs.declared.lsa.Lsa.{Lsa}
use Rattle.ospf_router.proofs.LinkLaws.{few_headers}
use Rattle.ospf_router.proofs.router.Router.receive_body.Goals as goal

pub receive_update-requires-clause-few : goal.receive_update-requires-clause-few
receive_update-requires-clause-few c =
    subst (λ (ls : List Lsa). 24 + 20 * length ls ≤ 65535) (sym c.as_slice.ensures) (few_headers c.args.packet.now.body c.in-Update.lsas c.in-Update.is c.requires.lengths.room)
