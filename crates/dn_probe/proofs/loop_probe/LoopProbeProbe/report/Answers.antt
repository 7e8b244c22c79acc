use Rattle.std.proofs.Common.{◌≡◌, ◌++◌, ℕ, codes, sym, subst}
use Rattle.std.specs.Result.{OnOk}
use Rattle.dn_probe.specs.Meaning.{Remembering}
use Rattle.dn_probe.specs.Reports.{report_text, report_line}
use Rattle.dn_probe.proofs.Memories.{count_back}
use Rattle.dn_probe.proofs.loop_probe.LoopProbeProbe.report.Goals as goal

pub returns-clause-ok : goal.returns-clause-ok
returns-clause-ok c =
    let p = c.self.inside in
    subst (λ (r : Remembering). OnOk c.push_report.result (c.push_report.new.out ≡ c.args.out.now ++ report_line (codes "loop") r.memory r.shown)) c.self.view_is
    (subst (λ (times : ℕ). OnOk c.push_report.result (c.push_report.new.out ≡ c.args.out.now ++ report_text (codes "loop") p.tally.shown times)) (sym (count_back p.tally.yes p.stations c.push_report.ensures.few)) c.push_report.ensures.ok)
