use Rattle.dn_top.proofs.laws.a_trace_is_its_section.Goals as goal
use Rattle.dn_top.proofs.Sections.{trace_section}

pub returns : goal.returns
returns g c net feed more head = trace_section net feed head more
