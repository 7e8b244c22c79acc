use Rattle.std.proofs.Common.{◌≡◌, ◌+◌, ◌∙◌, ℕ, sym, ap, subst, rules}
use Rattle.dn_probe.specs.Meaning.{Remembering, told}
use Rattle.dn_probe.specs.Reports.{one_if}
use Rattle.dn_probe.specs.Storm.{storm_rules, storm_rule, storm_memory, is_storm, messages_with}
use Rattle.std.specs.Fmt.{decimal}
use Rattle.dn_probe.proofs.Memories.{watch, storm_says, storm_told}
use Rattle.dn_probe.proofs.storm.StormProbeProbe.seen.Goals as goal

pub returns-clause-says : goal.returns-clause-says
returns-clause-says c =
    let s = c.self.inside in
    let row = c.args.row.now in
    let counted : c.in_ok-messages.messages ≡ messages_with s.group s.messages row = search rules in
    subst (λ (r : Remembering). c.is_storm-yes.result ≡ (storm_rule r.memory row c.args._show.now).yes) c.self.view_is
    (c.is_storm-yes.ensures ∙ ap (λ (n : ℕ). is_storm n row) counted ∙ sym (storm_says s.tally.yes s.group s.messages row c.args._show.now c.with.ensures.few c.messages_with.ensures.few.0 c.messages_with.ensures.few.1))

pub returns-clause-told : goal.returns-clause-told
returns-clause-told c =
    let s = c.self.inside in
    let row = c.args.row.now in
    let counted : c.in_ok-messages.messages ≡ messages_with s.group s.messages row = search rules in
    let tallied : c.in_ok-self-inside.field-0 ≡ record { shown = s.tally.shown + 1; yes = s.tally.yes + one_if c.is_storm-yes.result } = search rules in
    subst (λ (r : Remembering). watch storm_rules (storm_memory (decimal c.in_ok-self-inside.field-0.yes) row.key.group c.in_ok-messages.messages) c.in_ok-self-inside.field-0.shown ≡ told (watch storm_rules r.memory r.shown) row c.args._show.now) c.self.view_is
    (storm_told s.tally.yes s.tally.shown s.group s.messages row c.args._show.now c.in_ok-self-inside.field-0 c.in_ok-messages.messages c.is_storm-yes.result c.with.ensures.few c.messages_with.ensures.few.0 c.messages_with.ensures.few.1 c.is_storm-yes.ensures counted tallied)
