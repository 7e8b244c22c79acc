use Rattle.dn_top.proofs.Readings as readings
use Rattle.dn_top.proofs.input.one_reading.Goals as goal

pub returns : goal.returns
returns c = λ input. readings.one_reading c.a_text_has_one_case.ensures c.a_text_has_one_first_bad_line.ensures c.a_text_has_one_first_bad_line-2.ensures input
