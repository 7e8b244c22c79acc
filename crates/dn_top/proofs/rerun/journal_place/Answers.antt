use Rattle.std.proofs.Common.{◌≡◌, ℕ, List, drop, ap, ◌∙◌, arith}
use Rattle.dn_case.specs.TraceSections.{section_len}
use Rattle.dn_top.proofs.Places.{place_within}
use Rattle.dn_top.proofs.rerun.journal_place.Goals as goal

pub overflow_add-result : goal.overflow_add-result
overflow_add-result c =
    let here : c.split_trace.result ≡ section_len (drop c.args.size c.args.input.now) = c.split_trace.ensures ∙ ap (λ (l : List ℕ). section_len l) c.behind.ensures in
    let within = place_within c.lines_are_the_text.ensures c.args.input.now c.args.size c.requires.within in
    let small = c.requires.small in
    omega (arith, here, within, small)

pub returns-clause-within : goal.returns-clause-within
returns-clause-within c =
    let here : c.split_trace.result ≡ section_len (drop c.args.size c.args.input.now) = c.split_trace.ensures ∙ ap (λ (l : List ℕ). section_len l) c.behind.ensures in
    let within = place_within c.lines_are_the_text.ensures c.args.input.now c.args.size c.requires.within in
    omega (arith, here, within)
