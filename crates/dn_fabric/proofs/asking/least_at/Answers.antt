use Rattle.std.proofs.Common.{◌≡◌, sym, ap, ◌∙◌}
use Rattle.std.specs.Prelude.{slice_get, option_copied}
use Rattle.dn_fabric.proofs.Leasts.{KeysPast, earliest, least_of_two}
use Rattle.dn_fabric.proofs.asking.least_at.Goals as goal
use Rattle.dn_fabric.proofs.asking.least_at.Goals.{in-Some, in-None}

pub returns-in-Some-first : goal.returns-in-Some-first
returns-in-Some-first g c =
    let todo = c.args.router.now.part.todo in
    let voids = c.args.router.now.part.voids in
    let key = c.args.key in
    let first : c.match-least.least ≡ earliest (slice_get todo 0) key = elim c.match-least.branch [
      | in-Some w ↦ w.least-is ∙ w.earlier-least.ensures ∙ ap (λ o. earliest (option_copied o) key) (sym w.in-Some.is) ∙ ap (λ o. earliest o key) c.least.ensures.first
      | in-None w ↦ w.least-is ∙ ap (λ o. earliest (option_copied o) key) (sym w.in-None.is) ∙ ap (λ o. earliest o key) c.least.ensures.first
    ] in
    let second : c.earlier.result ≡ earliest (slice_get voids 0) c.match-least.least = c.earlier.ensures ∙ ap (λ o. earliest (option_copied o) c.match-least.least) (sym c.in-Some-first.is) ∙ ap (λ o. earliest o c.match-least.least) c.first.ensures.value ∙ ap (λ l. earliest (slice_get l 0) c.match-least.least) c.voids.ensures.voids in
    let keys : KeysPast = record { onward = λ x y z p q. c.keys_past.ensures.onward x y z p q; later = λ x y h. c.keys_past.ensures.later x y h } in
    least_of_two keys key c.match-least.least c.earlier.result todo voids c.least.ensures.sorted c.voids.ensures.sorted first second

pub returns-in-None-first : goal.returns-in-None-first
returns-in-None-first g c =
    let todo = c.args.router.now.part.todo in
    let voids = c.args.router.now.part.voids in
    let key = c.args.key in
    let first : c.match-least.least ≡ earliest (slice_get todo 0) key = elim c.match-least.branch [
      | in-Some w ↦ w.least-is ∙ w.earlier-least.ensures ∙ ap (λ o. earliest (option_copied o) key) (sym w.in-Some.is) ∙ ap (λ o. earliest o key) c.least.ensures.first
      | in-None w ↦ w.least-is ∙ ap (λ o. earliest (option_copied o) key) (sym w.in-None.is) ∙ ap (λ o. earliest o key) c.least.ensures.first
    ] in
    let second : c.match-least.least ≡ earliest (slice_get voids 0) c.match-least.least = ap (λ o. earliest (option_copied o) c.match-least.least) (sym c.in-None-first.is) ∙ ap (λ o. earliest o c.match-least.least) c.first.ensures.value ∙ ap (λ l. earliest (slice_get l 0) c.match-least.least) c.voids.ensures.voids in
    let keys : KeysPast = record { onward = λ x y z p q. c.keys_past.ensures.onward x y z p q; later = λ x y h. c.keys_past.ensures.later x y h } in
    least_of_two keys key c.match-least.least c.match-least.least todo voids c.least.ensures.sorted c.voids.ensures.sorted first second
