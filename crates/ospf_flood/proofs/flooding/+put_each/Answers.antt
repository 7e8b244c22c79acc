use Rattle.ospf_flood.proofs.RetransmissionLaws.{put_back}
use Rattle.ospf_flood.proofs.FloodLaws.{one_back}
use Rattle.ospf_flood.proofs.flooding.+put_each.Goals as goal

pub returns-in-Err-clause-err : goal.returns-in-Err-clause-err
returns-in-Err-clause-err t c =
    let key = c.args.key in
    let list = c.in-Some.list.now in
    let put = c.in_ok-before.ensures in
    one_back c.args.now c.in_ok-before.before key list c.put.new.self c.restore.new.self c.in-Some.rest.now c.put_each-2.new.lists c.args.lists.now
    (put_back key c.args.now list put.ascending) put.ok put.before c.restore.ensures c.in-Err.ensures.err c.in-Some.ensures.cases.0
