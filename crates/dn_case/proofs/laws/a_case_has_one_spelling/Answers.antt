use Rattle.dn_case.proofs.OneSpelling.{same_others, same_prefixes, same_without_prefixes}
use Rattle.dn_case.proofs.Together.{stand_together}
use Rattle.dn_case.proofs.laws.a_case_has_one_spelling.Goals as goal

pub returns-clause-others : goal.returns-clause-others
returns-clause-others c = same_others

pub returns-clause-prefixes : goal.returns-clause-prefixes
returns-clause-prefixes c = same_prefixes

pub returns-clause-places : goal.returns-clause-places
returns-clause-places c = stand_together

pub returns-clause-without : goal.returns-clause-without
returns-clause-without c = same_without_prefixes
