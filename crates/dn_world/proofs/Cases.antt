-- The rules of a case give the premises of the laws.
use Rattle.std.proofs.Common.{ℕ, ◌≤◌, List, [], ◌∷◌, arith}
use Rattle.std.specs.List.{AllByRecursion}
use Rattle.dn_model.specs.declared.feed.External.{External}
use Rattle.dn_model.specs.Cases.{Heading, IsHeading, AreExternals}
use Rattle.dn_lists.proofs.Lists.{all_weaker}
use Rattle.dn_model.proofs.Ports.{timed_from}
use Rattle.dn_world.specs.Runs.{DontFall, IsPlayable}

pub playable_from : (h : Heading) → IsHeading h → IsPlayable h
playable_from h is = let some = is.groups.0 in record { timed = timed_from h is; groups = omega (arith, some) }

not_before : (h : Heading) (low : ℕ) (xs : List External) → AreExternals h low xs → AllByRecursion (λ y. low ≤ y.group) xs
not_before h low [] a = tt
not_before h low (x ∷ xs) a =
    let rises = a.0.rises in
    (rises, all_weaker (λ y. x.group ≤ y.group) (λ y. low ≤ y.group) xs (λ y g. omega (arith, rises, g)) (not_before h x.group xs a.1))

pub dont_fall_from : (h : Heading) (low : ℕ) (xs : List External) → AreExternals h low xs → DontFall xs
dont_fall_from h low [] a = tt
dont_fall_from h low (x ∷ xs) a = (not_before h x.group xs a.1, dont_fall_from h x.group xs a.1)
