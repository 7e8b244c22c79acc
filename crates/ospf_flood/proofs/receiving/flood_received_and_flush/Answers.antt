use Rattle.std.proofs.Common.{ap, sym, ◌∙◌}
use Rattle.ospf_wire.specs.declared.lsa.Lsa.{Lsa}
use Rattle.ospf_lsdb.specs.Keys.{key_of}
use Rattle.ospf_flood.specs.Retransmission.{without_lsa_anywhere}
use Rattle.ospf_flood.specs.Flooding.{put_on}
use Rattle.ospf_flood.proofs.FloodLaws.{put_over}
use Rattle.ospf_flood.proofs.receiving.flood_received_and_flush.Goals as goal

pub returns-clause-lists : goal.returns-clause-lists
returns-clause-lists c =
    let lists = c.args.lists.now in
    let key = key_of c.args.lsa.now.head in
    c.in_ok-install.ensures.lists
    ∙ ap (λ (new : Lsa). put_on c.args.full (key_of new.head) c.args.now (without_lsa_anywhere (key_of new.head) lists)) c.in_ok-to_install.ensures
    ∙ sym (put_over c.args.full c.args.from c.args.now key (without_lsa_anywhere key lists))
