use Rattle.std.proofs.Common.{◌≡◌, ◌+◌, ◌∙◌, sym, subst, rules}
use Rattle.std.specs.Fmt.{decimal}
use Rattle.dn_probe.specs.Meaning.{Remembering, told}
use Rattle.dn_probe.specs.Reports.{one_if}
use Rattle.dn_probe.specs.Stations.{shown_at, memory_of}
use Rattle.dn_probe.specs.Loop.{loop_rules, loop_rule}
use Rattle.dn_probe.proofs.Memories.{watch, loop_says, loop_told}
use Rattle.dn_probe.proofs.loop_probe.LoopProbeProbe.seen.Goals as goal

pub returns-clause-says : goal.returns-clause-says
returns-clause-says c =
    let s = c.self.inside in
    let row = c.args.row.now in
    let after : c.tell.new.self ≡ shown_at s.stations row.router c.args.show.now = search rules in
    subst (λ (r : Remembering). c.loops-yes.result ≡ (loop_rule r.memory row c.args.show.now).yes) c.self.view_is
    (c.loops-yes.ensures ∙ sym (loop_says s.tally.yes s.stations c.tell.new.self row c.args.show.now c.with.ensures.few after))

pub returns-clause-told : goal.returns-clause-told
returns-clause-told c =
    let s = c.self.inside in
    let row = c.args.row.now in
    let after : c.tell.new.self ≡ shown_at s.stations row.router c.args.show.now = search rules in
    let tallied : c.in_ok-self-inside.field-0 ≡ record { shown = s.tally.shown + 1; yes = s.tally.yes + one_if c.loops-yes.result } = search rules in
    subst (λ (r : Remembering). watch loop_rules (memory_of (decimal c.in_ok-self-inside.field-0.yes) c.tell.new.self) c.in_ok-self-inside.field-0.shown ≡ told (watch loop_rules r.memory r.shown) row c.args.show.now) c.self.view_is
    (loop_told s.tally.yes s.tally.shown s.stations c.tell.new.self row c.args.show.now c.in_ok-self-inside.field-0 c.loops-yes.result c.with.ensures.few c.loops-yes.ensures after tallied)
