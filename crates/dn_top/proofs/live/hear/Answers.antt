use Rattle.std.proofs.Common.{ap, sym, ◌∙◌, rules}
use Rattle.dn_model.specs.Cases.{Recording}
use Rattle.dn_record.specs.Live.{Hearing, hearing, opening_live}
use Rattle.dn_top.specs.LiveRuns.{Listens}
use Rattle.dn_top.proofs.LiveAnswering.{listens, moved}
use Rattle.dn_top.proofs.live.hear.Goals as goal

pub returns-clause-heard : goal.returns-clause-heard
returns-clause-heard g c =
    let head = c.args.head in
    let from : Recording → Hearing = λ r. hearing (opening_live r.header head.lines head.first) (g.S.Source.left c.args.source.now) (g.S.Source.faults c.args.source.now) (g.M.Metronome.beats c.args.beats.now) in
    let listened = listens head.case.header _ _ _ _ _ _ _ _ _ (rw (c.new-feed.ensures.live, c.new-feed.ensures.source.1, c.new-feed.ensures.beats.1) (ap from c.case.view_is)) (sym c.ended.ensures ∙ c.in-Some.is) c.into_parts-case.ensures.case c.run_by.ensures.follows in
    moved (λ s m. Listens head.case.header head.lines head.first (g.S.Source.left c.args.source.now) (g.S.Source.left s) (g.S.Source.faults c.args.source.now) (g.S.Source.faults s) (g.M.Metronome.beats c.args.beats.now) (g.M.Metronome.beats m) c.into_parts-case.result.0 c.in-Some.end) (search rules) (search rules) listened
