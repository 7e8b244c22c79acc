use Rattle.dn_workers.proofs.Beats.{fed_beacon}
use Rattle.dn_workers.proofs.feeding.beat.Goals as goal

pub returns-clause-ok : goal.returns-clause-ok
returns-clause-ok g c = let n = c.journal.ensures.network in
    fed_beacon n.0 c.args.fabric.now c.beacon.new.self (c.in_ok-beacon.ensures.ok n.0 n.1) c.in_ok-beacon.ensures.noted c.requires.running c.requires.unclosed
