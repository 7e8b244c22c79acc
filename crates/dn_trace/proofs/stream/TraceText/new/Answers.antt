use Rattle.dn_trace.proofs.stream.TraceText.new.Goals as goal

pub returns-clause-stands : goal.returns-clause-stands
returns-clause-stands g c = λ net is. c.in_ok-new.ensures.stands net is.of_header is.of_guest is.openings
