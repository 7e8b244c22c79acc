-- The laws of reading a Hello.
use Rattle.std.proofs.Common.{◌≡◌, ℕ, ltb, false, List, length, drop, Some, refl, ap, subst, arith}
use Rattle.std.specs.Prelude.{option_map}
use Rattle.std.proofs.lemmas.Bool.{ltb-false, le-ltb}
use Rattle.ospf_wire.specs.declared.hello.Hello.{Hello}
use Rattle.ospf_wire.specs.Fields.{field}
use Rattle.ospf_wire.specs.Hellos.{IsHello}
use Rattle.ospf_wire.specs.Reading.{all_pieces, hello_with, hello_at}
use Rattle.ospf_wire.proofs.Choices.{passed, mapped}
use Rattle.ospf_wire.proofs.PieceLaws.{all_take, all_again}

-- what is read is the Hello
pub hello_takes : (bytes : List ℕ) (h : Hello) → hello_at bytes ≡ Some h → IsHello bytes h
unfolding hello_at
hello_takes bytes h e =
    let a = passed (ltb (length bytes) 20) (option_map (hello_with bytes) (all_pieces 4 (field 0 4) (drop 20 bytes))) h e in
    let m = mapped (hello_with bytes) (all_pieces 4 (field 0 4) (drop 20 bytes)) h a.1 in
    let is : IsHello bytes (hello_with bytes m.0) = record {
      whole = ltb-false (length bytes) 20 a.0;
      mask = refl;
      interval = refl;
      options = refl;
      priority = refl;
      dead = refl;
      dr = refl;
      bdr = refl;
      neighbours = all_take 4 (field 0 4) (drop 20 bytes) m.0 (omega arith) m.1;
    } in
    subst (λ (x : Hello). IsHello bytes x) m.2 is

-- the Hello is read
pub hello_again : (bytes : List ℕ) (h : Hello) → IsHello bytes h → hello_at bytes ≡ Some h
unfolding hello_at
hello_again bytes h is =
    let t : ltb (length bytes) 20 ≡ false = le-ltb (length bytes) 20 is.whole in
    let ids = all_again 4 (field 0 4) (drop 20 bytes) h.neighbours (omega arith) is.neighbours in
    let same : hello_with bytes h.neighbours ≡ h = rw (← is.mask, ← is.interval, ← is.options, ← is.priority, ← is.dead, ← is.dr, ← is.bdr) refl in
    rw (t, ids) (ap (λ (x : Hello). Some x) same)
