use Rattle.ospf_flood.proofs.OneLsa.{other_copy, other_listed}
use Rattle.ospf_flood.proofs.laws.receiving_is_at_one_lsa.Goals as goal

pub returns-clause-database : goal.returns-clause-database
returns-clause-database c =
    other_copy (record {
      put = c.a_change_is_at_one_name.ensures.put_elsewhere;
      taken = c.a_change_is_at_one_name.ensures.removed_elsewhere;
      installed = c.a_change_is_at_one_lsa.ensures.installed_elsewhere;
      altered = c.a_change_is_at_one_lsa.ensures.changed_elsewhere;
    })

pub returns-clause-lists : goal.returns-clause-lists
returns-clause-lists c =
    other_listed (record {
      put = c.a_change_is_at_one_name.ensures.put_elsewhere;
      taken = c.a_change_is_at_one_name.ensures.removed_elsewhere;
      installed = c.a_change_is_at_one_lsa.ensures.installed_elsewhere;
      altered = c.a_change_is_at_one_lsa.ensures.changed_elsewhere;
    })
