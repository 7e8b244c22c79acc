use Rattle.std.proofs.Common.{◌≡◌, true, sym, ap, ◌∙◌, length}
use Rattle.dn_net.specs.Networks.{Network}
use Rattle.ospf_router.specs.Prefixes.{Networks, has_room}
use Rattle.ospf_router.proofs.PrefixLaws.{room_left}
use Rattle.ospf_router.proofs.prefixes.Prefixes.set.Goals as goal

pub invariant_of-self-then-has_room : goal.invariant_of-self-then-has_room
invariant_of-self-then-has_room c =
    let old = c.self.inside.costs.entries in
    let new = c.insert.new.self.entries in
    let n : Network = (c.args.address, c.args.len) in
    let room : has_room old n ≡ true = ap (λ (ns : Networks). has_room ns n) c.self.view_is ∙ sym c.has_room.ensures ∙ c.if-has_room.true in
    room_left old n c.in_ok-insert.field-0 (length new) room c.in_ok-insert.ensures.old c.self.invariant c.in_ok-insert.ensures.len
