use Rattle.std.proofs.Common.{◌≡◌, Some, None, List, [], ◌∷◌, ◌++◌, sym, ap, ◌∙◌, subst}
use Rattle.std.specs.Map.{lookup, set_value}
use Rattle.std.specs.BTreeMap.{is_at}
use Rattle.std.specs.List.{AllByRecursion}
use Rattle.std.specs.List.Sorted.{IsPermutation}
use Rattle.std.proofs.lemmas.Result.{MatchResult-weaker}
use Rattle.std.proofs.lemmas.Map.Steps.{set_value_same}
use Rattle.dn_model.specs.declared.event.Event.{Event}
use Rattle.dn_lockstep.specs.declared.later.Moment.{Moment}
use Rattle.dn_lockstep.specs.Buckets.{moment_cmp, in_buckets, IsBucket}
use Rattle.dn_lockstep.proofs.Options.{either_way}
use Rattle.dn_lockstep.proofs.Buckets.{set_more, set_buckets, insert_more, insert_buckets}
use Rattle.dn_lockstep.proofs.later.put.Goals as goal

pub returns-in-Some-clause-ok : goal.returns-in-Some-clause-ok
returns-in-Some-clause-ok c =
    let es = c.args.buckets.now.entries in
    let m = c.moment_of-moment.result in
    MatchResult-weaker c.push.result c.push.ensures.ok
    (λ u more.
    subst (λ (bs : List (Moment × List Event)). IsPermutation (c.args.event ∷ in_buckets es) (in_buckets bs))
    (sym ((c.get_mut.follows.holds c.push.new.self).0 ∙ ap (set_value (is_at (moment_cmp m)) es) more))
    (set_more m c.args.event es c.in-Some.bucket.now (sym c.in-Some.ensures.value)))
    (λ e h. h)

pub returns-in-Some-clause-are : goal.returns-in-Some-clause-are
returns-in-Some-clause-are c = λ are.
    let es = c.args.buckets.now.entries in
    let m = c.moment_of-moment.result in
    let old = c.in-Some.bucket.now in
    let found : lookup (is_at (moment_cmp m)) es ≡ Some old = sym c.in-Some.ensures.value in
    let held = c.get_mut.follows.holds c.push.new.self in
    record {
      rise = held.4;
      each =
          either_way c.push.result (c.push.new.self ≡ old ++ c.args.event ∷ []) (c.push.new.self ≡ old) (AllByRecursion IsBucket (c.get_mut.follows.lender c.push.new.self).entries) c.push.ensures.ok c.push.ensures.err
          (λ more.
          subst (AllByRecursion IsBucket) (sym (held.0 ∙ ap (set_value (is_at (moment_cmp m)) es) more))
          (set_buckets m c.args.event es old (sym c.moment_of-moment.ensures) found are.each))
          (λ same. subst (AllByRecursion IsBucket) (sym (held.0 ∙ ap (set_value (is_at (moment_cmp m)) es) same ∙ set_value_same (is_at (moment_cmp m)) es old found)) are.each);
    }

pub returns-in-Some-clause-err : goal.returns-in-Some-clause-err
returns-in-Some-clause-err c =
    let es = c.args.buckets.now.entries in
    let m = c.moment_of-moment.result in
    let old = c.in-Some.bucket.now in
    let found : lookup (is_at (moment_cmp m)) es ≡ Some old = sym c.in-Some.ensures.value in
    MatchResult-weaker c.push.result c.push.ensures.err (λ u h. h)
    (λ e same. (c.get_mut.follows.holds c.push.new.self).0 ∙ ap (set_value (is_at (moment_cmp m)) es) same ∙ set_value_same (is_at (moment_cmp m)) es old found)

pub returns-in_ok-insert-in-None-clause-ok : goal.returns-in_ok-insert-in-None-clause-ok
returns-in_ok-insert-in-None-clause-ok c =
    let es = c.args.buckets.now.entries in
    let m = c.moment_of-moment.result in
    let none : lookup (is_at (moment_cmp m)) es ≡ None = sym c.in-None.ensures.value in
    rw (c.in_ok-insert-in-None.ensures.entries, c.in_ok-bucket-in-None.ensures, c.get_mut.follows.holds-at-none) (insert_more m c.args.event es none)

pub returns-in_ok-insert-in-None-clause-are : goal.returns-in_ok-insert-in-None-clause-are
returns-in_ok-insert-in-None-clause-are c = λ are.
    let es = c.args.buckets.now.entries in
    let m = c.moment_of-moment.result in
    let none : lookup (is_at (moment_cmp m)) es ≡ None = sym c.in-None.ensures.value in
    record {
      rise = c.in_ok-insert-in-None.ensures.ordered;
      each =
          rw (c.in_ok-insert-in-None.ensures.entries, c.in_ok-bucket-in-None.ensures, c.get_mut.follows.holds-at-none)
          (insert_buckets m c.args.event es (sym c.moment_of-moment.ensures) none are.each);
    }
