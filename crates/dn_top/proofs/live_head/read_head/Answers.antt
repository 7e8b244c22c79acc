use Rattle.dn_top.proofs.LiveHeadLaws.{has_no_case, short_refused, read_short}
use Rattle.dn_top.proofs.live_head.read_head.Goals as goal

pub refusal-requires : goal.refusal-requires
refusal-requires g c =
    let short = read_short _ _ _ _ _ c.in-Short.is c.as_slice.ensures.value c.in_ok-text.ensures.read in
    has_no_case _ _ _ short (λ ls case. (c.a_case_text_spells_its_case.ensures.lines ls case).0)

pub returns-in-Short-clause-refusal : goal.returns-in-Short-clause-refusal
returns-in-Short-clause-refusal g c =
    let short = read_short _ _ _ _ _ c.in-Short.is c.as_slice.ensures.value c.in_ok-text.ensures.read in
    short_refused _ _ _ short c.refusal.result c.refusal.ensures
