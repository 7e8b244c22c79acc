-- No key is before the key of zeros.
use Rattle.std.proofs.Common.{◌≡◌, ℕ, ◌<◌, false, refl, arith}
use Rattle.std.specs.Ordering.{is_lt, nat_cmp, ordering_then, MatchOrdering}
use Rattle.std.specs.declared.cmp.Ordering.{Ordering}
use Rattle.std.specs.declared.cmp.Ordering.TheVariants.{Less, Equal, Greater}
use Rattle.std.specs.Cmp.{ranked}
use Rattle.dn_model.specs.declared.key.Key.{Key}
use Rattle.dn_model.specs.Order.{key_cmp}
use Rattle.dn_world.specs.World.{key_of}
use Rattle.dn_world.specs.Runs.{IsPast}

then_not_less : (r s : Ordering) → is_lt r ≡ false → is_lt s ≡ false → is_lt (ordering_then r s) ≡ false
then_not_less Less s h k = h
then_not_less Equal s h k = k
then_not_less Greater s h k = refl

not_below : (n : ℕ) → is_lt (nat_cmp n 0) ≡ false
not_below n = from_rank (nat_cmp n 0) (ranked n 0 (nat_cmp n 0) refl)
  where
    from_rank : (r : Ordering) → MatchOrdering r (n < 0) (n ≡ 0) (0 < n) → is_lt r ≡ false
    from_rank Less m = absurd (omega (arith, m))
    from_rank Equal m = refl
    from_rank Greater m = refl

pub zero_first : (k : Key) → IsPast (key_of 0 0) k
unfolding key_cmp
zero_first k =
    then_not_less (nat_cmp k.group 0) _ (not_below k.group)
    (then_not_less (nat_cmp k.sum 0) _ (not_below k.sum)
    (then_not_less (nat_cmp k.class 0) _ (not_below k.class)
    (then_not_less (nat_cmp k.tie 0) _ (not_below k.tie)
    (then_not_less (nat_cmp k.origin 0) _ (not_below k.origin)
    (then_not_less (nat_cmp k.seq 0) _ (not_below k.seq) refl)))))
