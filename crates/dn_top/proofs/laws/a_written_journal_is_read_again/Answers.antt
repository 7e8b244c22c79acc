use Rattle.dn_top.proofs.laws.a_written_journal_is_read_again.Goals as goal
use Rattle.dn_top.specs.Promises.{network_of}
use Rattle.dn_top.proofs.JournalsAgain.{journal_again, run_again}

pub returns-clause-journal : goal.returns-clause-journal
returns-clause-journal c = λ d steps k all few small.
    journal_again c.a_written_case_is_read.ensures.front c.a_written_journal_is_read.ensures (λ e more head. c.a_trace_is_its_section.ensures (network_of e.header) e.feed more head) d steps k all few small

pub returns-clause-run : goal.returns-clause-run
returns-clause-run c = λ d cut steps k run fits few small.
    run_again c.a_written_case_is_read.ensures.front c.a_written_journal_is_read.ensures (λ e more head. c.a_trace_is_its_section.ensures (network_of e.header) e.feed more head)
    (λ steps e head legal. c.legal_steps_may_stand_in_a_journal.ensures (network_of e.header) steps head legal) d cut steps k run fits few small
