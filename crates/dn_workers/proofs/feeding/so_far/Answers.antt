use Rattle.std.proofs.Common.{[], subst}
use Rattle.dn_model.specs.Network.{routers}
use Rattle.dn_model.specs.Settled.{IsFeedOf}
use Rattle.dn_world.specs.World.{opening}
use Rattle.dn_world.specs.Runs.{world}
use Rattle.dn_workers.proofs.Feeds.{floor_so_far, open_so_far, inside_so_far}
use Rattle.dn_workers.proofs.feeding.so_far.Goals as goal

pub returns-clause-floor : goal.returns-clause-floor
returns-clause-floor g c = let f = c.args.fabric.now in let n = c.journal.ensures.network in
    λ given u. floor_so_far n.0 f given (c.journal.ensures.reached n.0 n.1 c.requires.running) (c.fed_alone.ensures.floor n.0 (opening (routers n.0)) f.journal) (c.fed_logs.ensures.steps f.journal f.live.stopped) u

pub returns-clause-unclosed : goal.returns-clause-unclosed
returns-clause-unclosed g c = let f = c.args.fabric.now in let n = c.journal.ensures.network in
    λ given u. open_so_far n.0 f given (c.journal.ensures.reached n.0 n.1 c.requires.running) (c.fed_alone.ensures.closed n.0 (opening (routers n.0)) f.journal) (c.fed_logs.ensures.steps f.journal f.live.stopped) u

pub returns-clause-inside : goal.returns-clause-inside
returns-clause-inside g c = let f = c.args.fabric.now in let n = c.journal.ensures.network in let head = f.live.header in
    let playable = c.playable_cases.ensures.playable n.0 (record { header = head; feed = [] }) (record { header = c.journal.ensures.rules; feed = tt }) n.1.header in
    let all = c.runs.ensures.accepted_case n.0 f.journal playable (c.journal.ensures.legal n.0 n.1) in
    λ given u. inside_so_far f given (world n.0 f.journal).accepted c.journal.ensures.rules.groups.0 (subst (λ h. IsFeedOf h (world n.0 f.journal).accepted) n.1.header all) (c.runs.ensures.accepted n.0 f.journal) (c.fed_alone.ensures.injects f.journal) (c.fed_logs.ensures.steps f.journal f.live.stopped) u
