-- What stands at the front of a text stays there, call after call.
use Rattle.std.proofs.Common.{◌≡◌, ℕ, List, ◌++◌, length, take, drop, sym, ap, ◌∙◌, append_assoc}
use Rattle.std.proofs.Math.Seq.{take-append_seam}
use Rattle.std.proofs.lemmas.List.{take-append-drop}
use Rattle.dn_guest.specs.KeepsFront.{KeepsFront}

pub keeps_behind : (a more c : List ℕ) → KeepsFront (a ++ more) c → KeepsFront a c
keeps_behind a more c kept =
    let n = length (a ++ more) in
    let whole : c ≡ a ++ (more ++ drop n c) = sym (take-append-drop n c) ∙ ap (λ (front : List ℕ). front ++ drop n c) kept ∙ append_assoc a more (drop n c) in
    ap (take (length a)) whole ∙ take-append_seam a (more ++ drop n c)
