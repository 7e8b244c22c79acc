use Rattle.std.proofs.Common.{◌≡◌, ap, ◌∙◌}
use Rattle.dn_model.specs.Cases.{Recording}
use Rattle.dn_top.proofs.Networks.{openings, guests_run, one_each}
use Rattle.dn_top.proofs.written.guests_of.Goals as goal

pub returns-clause-one_each : goal.returns-clause-one_each
returns-clause-one_each c =
    let made : c.in_ok-guests.guests.items ≡ openings c.args.case.now.header = c.in_ok-guests.ensures ∙ ap (λ (x : Recording). openings x.header) c.case.view_is in
    one_each c.args.case.now.header c.in_ok-guests.guests.items made

pub returns-clause-run : goal.returns-clause-run
returns-clause-run c =
    let made : c.in_ok-guests.guests.items ≡ openings c.args.case.now.header = c.in_ok-guests.ensures ∙ ap (λ (x : Recording). openings x.header) c.case.view_is in
    guests_run c.args.case.now.header c.in_ok-guests.guests.items made
