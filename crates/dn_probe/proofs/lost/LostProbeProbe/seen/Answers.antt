use Rattle.std.proofs.Common.{◌≡◌, ◌+◌, ◌∙◌, sym, subst, rules}
use Rattle.std.specs.Fmt.{decimal}
use Rattle.dn_probe.specs.Meaning.{Remembering, told}
use Rattle.dn_probe.specs.Reports.{one_if}
use Rattle.dn_probe.specs.Stations.{shown_at, memory_of}
use Rattle.dn_probe.specs.Lost.{lost_rules, lost_rule, is_lost}
use Rattle.dn_probe.proofs.Memories.{watch, lost_says, lost_told}
use Rattle.dn_probe.proofs.lost.LostProbeProbe.seen.Goals as goal

pub returns-clause-says : goal.returns-clause-says
returns-clause-says c =
    let s = c.self.inside in
    let row = c.args.row.now in
    let lost : c.in_ok-yes.yes ≡ is_lost s.stations row.router c.args.show.now = search rules in
    subst (λ (r : Remembering). c.in_ok-yes.yes ≡ (lost_rule r.memory row c.args.show.now).yes) c.self.view_is
    (lost ∙ sym (lost_says s.tally.yes s.stations row c.args.show.now c.with.ensures.few))

pub returns-clause-told : goal.returns-clause-told
returns-clause-told c =
    let s = c.self.inside in
    let row = c.args.row.now in
    let lost : c.in_ok-yes.yes ≡ is_lost s.stations row.router c.args.show.now = search rules in
    let after : c.tell.new.self ≡ shown_at s.stations row.router c.args.show.now = search rules in
    let tallied : c.in_ok-self-inside.field-0 ≡ record { shown = s.tally.shown + 1; yes = s.tally.yes + one_if c.in_ok-yes.yes } = search rules in
    subst (λ (r : Remembering). watch lost_rules (memory_of (decimal c.in_ok-self-inside.field-0.yes) c.tell.new.self) c.in_ok-self-inside.field-0.shown ≡ told (watch lost_rules r.memory r.shown) row c.args.show.now) c.self.view_is
    (lost_told s.tally.yes s.tally.shown s.stations c.tell.new.self row c.args.show.now c.in_ok-self-inside.field-0 c.in_ok-yes.yes c.with.ensures.few lost after tallied)
