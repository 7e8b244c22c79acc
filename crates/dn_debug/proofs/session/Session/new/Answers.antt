use Rattle.std.proofs.Common.{◌∙◌}
use Rattle.dn_model.specs.Settled.{rows}
use Rattle.dn_debug.proofs.Ahead.{kept_none}
use Rattle.dn_debug.proofs.session.Session.new.Goals as goal

pub returns-clause-sits : goal.returns-clause-sits
returns-clause-sits g c =
    λ net header guests openings. record {
      stands = c.in_ok-engine.ensures.stands net header guests openings;
      latest = c.in_ok-new.ensures ∙ kept_none 16 c.in_ok-engine.engine.place (rows net c.args.case.feed) c.in_ok-engine.ensures.place;
    }
