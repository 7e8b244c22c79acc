-- What is below a key and wasn't below an earlier one.
use Rattle.std.proofs.Common.{◌≡◌, true, false, not, List, [], ◌∷◌, ◌++◌, length, drop, refl, sym, ap, ◌∙◌}
use Rattle.std.specs.List.{filter}
use Rattle.std.specs.List.Sorted.{IsSorted}
use Rattle.std.specs.Ordering.{is_gt}
use Rattle.dn_lists.proofs.Lists.{filter_inner, filter_split, filter_all, pairs_filter, pairs_weaker}
use Rattle.dn_lists.proofs.Sorting.{rises_from_sorted}
use Rattle.dn_model.specs.declared.event.Event.{Event}
use Rattle.dn_model.specs.declared.key.Key.{Key}
use Rattle.dn_model.specs.Order.{event_cmp, event_total, is_below}
use Rattle.dn_model.specs.Settled.{below}
use Rattle.dn_model.proofs.Waves.{all_of, below_cut}
use Rattle.dn_world.specs.Runs.{IsPast}
use Rattle.dn_router.proofs.Rising.{below_grows}

drop_whole : (xs ys : List Event) → drop (length xs) (xs ++ ys) ≡ ys
drop_whole [] ys = refl
drop_whole (x ∷ xs) ys = drop_whole xs ys

pub fresh_is : (a b : Key) (done : List Event) → IsPast a b → IsSorted event_cmp done → drop (length (below a done)) (below b done) ≡ filter (λ e. not (is_below a e)) (below b done)
unfolding below
fresh_is a b done p s =
    let q = is_below a in
    let xs = filter (is_below b) done in
    let old = filter q xs in
    let new = filter (λ e. not (q e)) xs in
    let up = pairs_filter (λ x y. is_gt (event_cmp x y) ≡ false) (is_below b) done (rises_from_sorted event_cmp event_total done s) in
    let falls = pairs_weaker (λ _. Unit {0}) (λ x y. is_gt (event_cmp x y) ≡ false) (λ x y. q y ≡ true → q x ≡ true) xs (λ x y u v k g. below_cut a x y k g) (all_of xs (λ e. tt)) up in
    let whole : old ++ new ≡ xs = filter_split q (λ _. true) (λ e. not (q e)) xs (λ e k. (refl, ap not k)) (λ e k. ap not k) falls ∙ filter_all (λ _. true) xs (all_of xs (λ e. refl)) in
    let same : old ≡ filter q done = filter_inner q (is_below b) done (λ e k. below_grows a b e p k) in
    (λ i. drop (length (sym same i)) (sym whole i)) ∙ drop_whole old new
