-- An input is read in one way, since each text is.
use Rattle.std.proofs.Common.{◌≡◌, ℕ, ◌+◌, List, length, take, sym, ap, subst, ◌∙◌}
use Rattle.std.specs.List.{concat}
use Rattle.dn_model.specs.Cases.{Heading, Recording}
use Rattle.dn_text.specs.Lines.{lines}
use Rattle.dn_case.specs.declared.cause.Cause.{Cause}
use Rattle.dn_case.specs.declared.cause.CaseFault.{CaseFault}
use Rattle.dn_case.specs.Reading.{IsCaseText, IsFirstBad}
use Rattle.dn_journal.specs.Reading.{IsFirstBad as IsFirstBadStep}
use Rattle.dn_top.specs.Promises.{HasCase, IsBadCase, IsBadJournal, IsBehindBad, journal_lines, lines_before}
use Rattle.dn_top.specs.Completeness.{HasOneReading}

unfoldable fault_at : ℕ → Cause → CaseFault
fault_at l c = record { line = l; cause = c }

pub bad_at : (input : List ℕ) (c d : Recording) (m n : ℕ) (f : CaseFault) → c ≡ d → m ≡ n → IsBehindBad d.header input n f → IsBehindBad c.header input m f
bad_at input c d m n f same sizes p =
    subst (λ (x : Recording). IsBehindBad x.header input m f) (sym same) (subst (λ (k : ℕ). IsBehindBad d.header input k f) (sym sizes) p)

module _ (one_case : (ls : List (List ℕ)) (j k : ℕ) (c d : Recording) → IsCaseText (take j ls) c → IsCaseText (take k ls) d → (take j ls ≡ take k ls) × (c ≡ d)) (one_bad_line : (ls : List (List ℕ)) (m n : ℕ) (c d : Cause) → IsFirstBad ls m c → IsFirstBad ls n d → (m ≡ n) × (c ≡ d)) (one_bad_step : (h : Heading) (ls : List (List ℕ)) (m n : ℕ) → IsFirstBadStep h ls m → IsFirstBadStep h ls n → m ≡ n) (input : List ℕ) where
  same_case : (c d : Recording) (m n : ℕ) → HasCase input c m → HasCase input d n → (c ≡ d) × (m ≡ n)
  same_case c d m n p q =
      let one = one_case (lines input) p.front.count q.front.count c d p.front.whole q.front.whole in
      let sizes = p.front.long ∙ ap (λ (l : List (List ℕ)). length (concat l)) one.0 ∙ sym q.front.long in
      (one.1, sizes)

  same_fault : (f g : CaseFault) → IsBadCase input f → IsBadCase input g → f ≡ g
  unfolding fault_at
  same_fault f g p q =
      let one = one_bad_line (lines input) f.line g.line f.cause g.cause p.first q.first in
      ap (λ (l : ℕ). fault_at l f.cause) one.0 ∙ ap (λ (c : Cause). fault_at g.line c) one.1

  same_bad : (f g : CaseFault) → IsBadJournal input f → IsBadJournal input g → f ≡ g
  unfolding fault_at
  same_bad f g p q =
      let one = same_case p.case q.case p.size q.size p.has q.has in
      let bad = bad_at input p.case q.case p.size q.size g one.0 one.1 q.bad in
      let first = one_bad_step p.case.header (journal_lines input p.size) p.bad.line bad.line p.bad.first bad.first in
      let line : f.line ≡ g.line = p.bad.at ∙ ap (λ (n : ℕ). lines_before input p.size + n) first ∙ sym bad.at in
      ap (λ (l : ℕ). fault_at l f.cause) line ∙ ap (λ (c : Cause). fault_at g.line c) (p.bad.cause ∙ sym bad.cause)

  pub one_reading : HasOneReading input
  one_reading = record { case = same_case; bad_case = same_fault; bad_journal = same_bad }
