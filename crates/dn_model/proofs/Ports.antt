-- What the rules of a header give: few ports, and links that take time and join its routers.
use Rattle.std.proofs.Common.{◌≡◌, ℕ, ◌+◌, ◌<◌, ◌≤◌, Bool, true, cond, List, [], ◌∷◌, ◌++◌, Option, Some, None, length, refl, sym, ap, ◌∙◌, subst, arith, append_assoc, append-nil}
use Rattle.std.specs.Prelude.{◌==◌}
use Rattle.std.specs.List.{AllByRecursion, cons_option}
use Rattle.std.proofs.lemmas.List.Sums.{sum_by-append, sum_by-cons}
use Rattle.std.proofs.lemmas.Bool.{eqb-true}
use Rattle.dn_lists.proofs.Lists.{by_test}
use Rattle.dn_model.specs.declared.link.Link.{Link}
use Rattle.dn_model.specs.declared.link.End.{End}
use Rattle.dn_model.specs.declared.feed.External.{External}
use Rattle.dn_model.specs.Links.{names, ports_of, link_end, ends}
use Rattle.dn_model.specs.Cases.{Heading, IsHeading, IsLink, AreLinks, AreExternals}
use Rattle.dn_model.specs.Settled.{IsTimed, IsFeedOf}

abbrev one_if : Bool → ℕ
one_if b = cond b 1 0

-- ---- ports

length-cons_option : (o : Option End) (es : List End) (b : Bool) → length (cons_option o []) ≡ one_if b → length (cons_option o es) ≡ one_if b + length es
length-cons_option None es b h = omega (arith, h)
length-cons_option (Some e) es b h = omega (arith, h)

one_end : (l : Link) (r : ℕ) → length (cons_option (link_end r l) []) ≡ one_if (names r l)
unfolding link_end
one_end l r =
    by_test (l.a == r)
    (λ h. simp h)
    (λ h. by_test (l.b == r) (λ k. simp (h, k)) (λ k. simp (h, k)))

-- as many far ends as ports
pub ends_length : (ls : List Link) (r : ℕ) → length (ends ls r) ≡ ports_of ls r
unfolding ends ports_of
ends_length [] r = refl
ends_length (l ∷ ls) r =
    length-cons_option (link_end r l) (ends ls r) (names r l) (one_end l r)
    ∙ ap (λ n. one_if (names r l) + n) (ends_length ls r)
    ∙ sym (sum_by-cons (λ x. cond (names r x) 1 0) l ls)

-- one more link
pub ports_more : (before : List Link) (l : Link) (r : ℕ) → ports_of (before ++ l ∷ []) r ≡ ports_of before r + one_if (names r l)
unfolding ports_of
ports_more before l r = omega (arith, sum_by-append (λ x. cond (names r x) 1 0) before (l ∷ []), sum_by-cons (λ x. cond (names r x) 1 0) l [])

one_more : (count : ℕ) (before : List Link) (l : Link) → IsLink count before l → (r : ℕ) → ports_of before r ≤ 16 → ports_of (before ++ l ∷ []) r ≤ 16
one_more count before l is r few =
    rw ports_more
    (by_test (names r l)
    (λ h. by_test (l.a == r)
    (λ k. let e : l.a ≡ r = eqb-true l.a r k in let f : ports_of before l.a ≡ ports_of before r = ap (ports_of before) e in rw h (omega (arith, is.a_port, is.ports, f)))
    (λ k. let g : (l.b == r) ≡ true = simp k at h in let e : l.b ≡ r = eqb-true l.b r g in let f : ports_of before l.b ≡ ports_of before r = ap (ports_of before) e in rw h (omega (arith, is.b_port, is.ports, f))))
    (λ h. rw h (omega arith)))

links_few : (count : ℕ) (before ls : List Link) → AreLinks count before ls → (r : ℕ) → ports_of before r ≤ 16 → ports_of (before ++ ls) r ≤ 16
links_few count before [] are r few = rw append-nil few
links_few count before (l ∷ ls) are r few =
    let P : List Link → Type 0 = λ xs. ports_of xs r ≤ 16 in
    subst P (append_assoc before (l ∷ []) ls) (links_few count (before ++ l ∷ []) ls are.1 r (one_more count before l are.0 r few))

-- a router has at most 16 ports
pub ports_few : (h : Heading) → IsHeading h → (r : ℕ) → ports_of h.links r ≤ 16
unfolding ports_of
ports_few h is r = links_few (length h.routers) [] h.links is.links r (omega arith)

-- ---- times pass, and links join routers

all_delays : (count : ℕ) (before ls : List Link) → AreLinks count before ls → AllByRecursion (λ l. 0 < l.delay) ls
all_delays count before [] are = tt
all_delays count before (l ∷ ls) are = (let d = are.0.delay in omega (arith, d), all_delays count (before ++ l ∷ []) ls are.1)

pub timed_from : (h : Heading) → IsHeading h → IsTimed h
timed_from h is = record { period = omega (arith, is.period); delays = all_delays (length h.routers) [] h.links is.links }

all_wired : (count : ℕ) (before ls : List Link) → AreLinks count before ls → AllByRecursion (λ l. (l.a < count) × (l.b < count)) ls
all_wired count before [] are = tt
all_wired count before (l ∷ ls) are = (are.0.inside, all_wired count (before ++ l ∷ []) ls are.1)

pub wired_from : (h : Heading) → IsHeading h → AllByRecursion (λ l. (l.a < length h.routers) × (l.b < length h.routers)) h.links
wired_from h is = all_wired (length h.routers) [] h.links is.links

pub fed_from : (h : Heading) (low : ℕ) (feed : List External) → AreExternals h low feed → IsFeedOf h feed
fed_from h low [] are = tt
fed_from h low (x ∷ xs) are = (are.0.group, fed_from h x.group xs are.1)
