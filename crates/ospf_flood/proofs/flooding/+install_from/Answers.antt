use Rattle.std.proofs.Common.{sym, ◌∙◌}
use Rattle.ospf_flood.proofs.RetransmissionLaws.{put_again, put_back}
use Rattle.ospf_flood.proofs.FloodLaws.{one_put, one_back}
use Rattle.ospf_flood.proofs.flooding.+install_from.Goals as goal

pub returns-in-Err-clause-lists_err : goal.returns-in-Err-clause-lists_err
returns-in-Err-clause-lists_err t c =
    let key = c.key_of-key.result in
    let list = c.in-Some.list.now in
    let put = c.in_ok-before.ensures in
    one_back c.args.now c.in_ok-before.before key list c.put.new.self c.restore.new.self c.in-Some.rest.now c.install_from-2.new.lists c.args.lists.now
    (put_back key c.args.now list put.ascending) put.ok put.before c.restore.ensures c.in-Err.ensures.lists_err c.in-Some.ensures.cases.0

pub returns-clause-lists : goal.returns-clause-lists
returns-clause-lists t c =
    let key = c.key_of-key.result in
    let list = c.in-Some.list.now in
    let put = c.in_ok-before.ensures in
    one_put c.args.port c.args.ports c.args.now key _ list c.put.new.self c.in-Some.rest.now c.install_from-2.new.lists c.args.lists.now
    (sym c.is_up.ensures ∙ c.if-not-is_up.false) c.key_of-key.ensures (put_again key c.args.now list put.ascending) put.ok c.in_default-install_from.ensures.lists c.in-Some.ensures.cases.0
