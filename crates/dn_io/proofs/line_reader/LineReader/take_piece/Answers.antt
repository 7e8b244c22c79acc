use Rattle.std.proofs.Common.{◌≡◌, ℕ, ◌+◌, List, [], ◌∷◌, ◌++◌, take, refl, sym, ap, ◌∙◌, rules, arith}
use Rattle.std.specs.Prelude.{slice_range}
use Rattle.dn_io.proofs.LineReadingLaws.{cut_behind, cut_fits, slice_behind}
use Rattle.dn_io.proofs.line_reader.LineReader.take_piece.Goals as goal

pub returns-in_ok-extend_from_slice-in-Some : goal.returns-in_ok-extend_from_slice-in-Some
returns-in_ok-extend_from_slice-in-Some c =
    let buffer = c.deref.result.now in
    let from = c.self.inside.from in
    let to = c.self.inside.to in
    let n = c.in-Some.n in
    let w = c.min.result in
    let held = slice_range buffer from to in
    let x = take n (take w held) in
    let cut = c.in-Some.ensures in
    let fits = cut_fits buffer x cut.1 from to n w c.self.invariant.0 cut.2 cut.3 in
    let moved : c.extend_from_slice.new.self.items ≡ c.args.line.now.items ++ x = search rules in
    rw (← c.self.view_is, ← c.deref.ensures.value) (
      x,
      cut.0,
      moved,
      cut_behind held x cut.1 n w cut.2 cut.3 ∙ ap (λ (t : List ℕ). (x ++ 10 ∷ []) ++ t) (sym (slice_behind buffer from to (n + 1) fits.0)),
      omega (arith, fits.1, cut.3, c.min.ensures),
      refl,
    )
