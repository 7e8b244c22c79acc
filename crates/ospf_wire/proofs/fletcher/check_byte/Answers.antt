use Rattle.ospf_wire.proofs.fletcher.check_byte.Goals as goal

pub returns-then-rest-eq0-clause-value : goal.returns-then-rest-eq0-clause-value
returns-then-rest-eq0-clause-value c = cc
