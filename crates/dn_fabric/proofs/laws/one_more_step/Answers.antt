use Rattle.std.proofs.Common.{◌≡◌, true, [], refl, sym, ap, ◌∙◌, subst}
use Rattle.dn_model.specs.Cases.{Recording}
use Rattle.dn_model.specs.Settled.{IsPrefixOf, IsTimed}
use Rattle.dn_world.specs.Steps.{after, is_enabled}
use Rattle.dn_world.specs.Runs.{committed, world}
use Rattle.dn_fabric.proofs.laws.one_more_step.Goals as goal

pub returns-clause-onward : goal.returns-clause-onward
returns-clause-onward g c = λ net f s rules r h.
    let case : Recording = record { header = net.header; feed = [] } in
    let timed : IsTimed net.header = (c.playable_cases.ensures.playable net case (record { header = rules; feed = tt }) refl).timed in
    let w = f.live.world in
    let enabled : is_enabled net (world net f.journal) s ≡ true = subst (λ w. is_enabled net w s ≡ true) (sym r.world) h in
    record {
      is = refl;
      reached = record {
        legal = c.runs.ensures.legal net f.journal s r.legal enabled;
        world = c.runs.ensures.world net f.journal s ∙ ap (λ w. after net w s) r.world;
        balanced = c.equation.ensures.step net w s h r.balanced;
        past = c.boundary.ensures.step net w s timed h r.balanced r.past;
        rows = refl;
        cut = refl;
      };
      onward = c.boundary.ensures.step_horizon net w s timed h r.balanced;
      grown = subst (λ es. IsPrefixOf es (committed net (after net w s))) (sym r.rows) (c.growth.ensures.committed net w s h r.balanced r.past);
      stays_cut = λ e. c.growth.ensures.cut net w s h r.balanced r.past (sym r.cut ∙ e);
    }

pub returns-clause-stays : goal.returns-clause-stays
returns-clause-stays g c = λ net f s r h same. c.growth.ensures.stay net f.live.world s h r.balanced r.past same

pub returns-clause-grows : goal.returns-clause-grows
returns-clause-grows g c = λ net f s r h. c.growth.ensures.grow net f.live.world s h r.balanced r.past

pub returns-clause-taken_off : goal.returns-clause-taken_off
returns-clause-taken_off g c = λ net f router r h. c.boundary.ensures.step_taken_off net f.live.world router h r.balanced r.past

pub returns-clause-log : goal.returns-clause-log
returns-clause-log g c = λ steps s. c.logs.ensures.did steps s
