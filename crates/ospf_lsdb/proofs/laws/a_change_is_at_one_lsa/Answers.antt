use Rattle.ospf_lsdb.proofs.Lookups.{put_here, put_elsewhere, removed_here, removed_elsewhere, changed_here, changed_elsewhere, originated_elsewhere}
use Rattle.ospf_lsdb.proofs.laws.a_change_is_at_one_lsa.Goals as goal

pub returns-clause-installed : goal.returns-clause-installed
returns-clause-installed c = put_here

pub returns-clause-installed_elsewhere : goal.returns-clause-installed_elsewhere
returns-clause-installed_elsewhere c = put_elsewhere

pub returns-clause-changed : goal.returns-clause-changed
returns-clause-changed c = changed_here

pub returns-clause-changed_elsewhere : goal.returns-clause-changed_elsewhere
returns-clause-changed_elsewhere c = changed_elsewhere

pub returns-clause-removed : goal.returns-clause-removed
returns-clause-removed c = removed_here

pub returns-clause-removed_elsewhere : goal.returns-clause-removed_elsewhere
returns-clause-removed_elsewhere c = removed_elsewhere

pub returns-clause-originated_elsewhere : goal.returns-clause-originated_elsewhere
returns-clause-originated_elsewhere c = originated_elsewhere
