-- What shows tell: nothing, and the same again.
use Rattle.std.proofs.Common.{◌≡◌, ℕ, Bool, true, false, not, ◌||◌, List, [], ◌∷◌, refl, ap, ◌∙◌}
use Rattle.std.specs.List.{list_any, AllByRecursion}
use Rattle.std.specs.Cmp.Lexicographic.{bytes_decides}
use Rattle.dn_text.specs.Lines.{parts}
use Rattle.dn_probe.specs.declared.routes.Route.{Route}
use Rattle.dn_probe.specs.Routes.{is_word, routes, has_route, loses}

pub nothing_told : (rip : Bool) → routes rip [] ≡ []
unfolding routes parts
nothing_told rip = refl

own : (text : List ℕ) → is_word text text ≡ true
own text = (bytes_decides text text).1 refl

later : (test : Bool) → (found : Bool) → found ≡ true → test || found ≡ true
later true found is = refl
later false found is = is

still_found : (first : Route) (now rs : List Route) → AllByRecursion (λ (r : Route). has_route r.prefix now ≡ true) rs → AllByRecursion (λ (r : Route). has_route r.prefix (first ∷ now) ≡ true) rs
still_found first now [] all = all
still_found first now (r ∷ rs) all = (later (is_word first.prefix r.prefix) (has_route r.prefix now) all.0, still_found first now rs all.1)

sooner : (test found : Bool) → test ≡ true → test || found ≡ true
sooner true found is = refl
sooner false found is = absurd cc

all_found : (rs : List Route) → AllByRecursion (λ (r : Route). has_route r.prefix rs ≡ true) rs
all_found [] = tt
all_found (r ∷ rs) = (sooner (is_word r.prefix r.prefix) (has_route r.prefix rs) (own r.prefix), still_found r rs rs (all_found rs))

none_lost : (now rs : List Route) → AllByRecursion (λ (r : Route). has_route r.prefix now ≡ true) rs → list_any (λ route. not (has_route route.prefix now)) rs ≡ false
none_lost now [] all = refl
none_lost now (r ∷ rs) all = ap (λ (b : Bool). not b || list_any (λ route. not (has_route route.prefix now)) rs) all.0 ∙ none_lost now rs all.1

pub nothing_lost : (rs : List Route) → loses rs rs ≡ false
unfolding loses
nothing_lost rs = none_lost rs rs (all_found rs)
