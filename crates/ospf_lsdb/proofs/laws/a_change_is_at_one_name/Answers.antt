use Rattle.ospf_lsdb.proofs.Lookups.{put_here, put_elsewhere, removed_here, removed_elsewhere}
use Rattle.ospf_lsdb.proofs.laws.a_change_is_at_one_name.Goals as goal

pub returns-clause-put : goal.returns-clause-put
returns-clause-put g c = put_here

pub returns-clause-put_elsewhere : goal.returns-clause-put_elsewhere
returns-clause-put_elsewhere g c = put_elsewhere

pub returns-clause-removed : goal.returns-clause-removed
returns-clause-removed g c = removed_here

pub returns-clause-removed_elsewhere : goal.returns-clause-removed_elsewhere
returns-clause-removed_elsewhere g c = removed_elsewhere
