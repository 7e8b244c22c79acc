use Rattle.ospf_flood.proofs.laws.a_list_changes_at_one_lsa.Goals as goal

pub returns-clause-put : goal.returns-clause-put
returns-clause-put c = c.a_change_is_at_one_name.ensures.put

pub returns-clause-put_elsewhere : goal.returns-clause-put_elsewhere
returns-clause-put_elsewhere c = c.a_change_is_at_one_name.ensures.put_elsewhere

pub returns-clause-taken : goal.returns-clause-taken
returns-clause-taken c = c.a_change_is_at_one_name.ensures.removed

pub returns-clause-taken_elsewhere : goal.returns-clause-taken_elsewhere
returns-clause-taken_elsewhere c = c.a_change_is_at_one_name.ensures.removed_elsewhere
